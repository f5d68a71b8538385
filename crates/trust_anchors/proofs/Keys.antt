-- The keys in byte strings.
use Rattle.std.proofs.Common.{◌≡◌, ℕ, List, Option, None, Some, refl, sym, ap, subst, ◌∙◌}
use Rattle.std.specs.Prelude.{MatchOption, IfSome, IsSome, ◌↔◌}
use Rattle.cbor_core.specs.declared.item.Item.{Item}
use Rattle.cbor_core.specs.Views.{bytes_of}
use Rattle.cose_core.specs.declared.key.CoseKey.{CoseKey}
use Rattle.cose_core.specs.Key.{KeyIs}
use Rattle.cose_core.proofs.Public.OneKey.{one_key}
use Rattle.cbor_core.proofs.Public.Views.{bytes_is, bytes_back, same_bytes}
use Rattle.hss_verify.specs.Hss.{IsHssPublic}
use Rattle.trust_anchors.specs.Anchors.{IsString, Wraps, IsGood, IsBad}

pub string_back : (x : Item) → IsString x → bytes_of x ≡ None → ⊥
string_back x s none = let some : bytes_of x ≡ Some s.0 = ap bytes_of s.1 ∙ bytes_back s.0 in let both : None ≡ Some s.0 = sym none ∙ some in cc

pub string_is : (x : Item) (b : List ℕ) → bytes_of x ≡ Some b → IsString x
string_is x b e = (b, bytes_is x b e)

-- an item wraps one key at most
pub one_wrapped : (v w : List ℕ) (x : Item) → Wraps v x → Wraps w x → v ≡ w
one_wrapped v w x a b =
    let bytes : a.bytes ≡ b.bytes = same_bytes a.bytes b.bytes (sym a.string ∙ b.string) in
    let there : KeyIs a.key b.bytes = subst (λ (l : List ℕ). KeyIs a.key l) bytes a.wrapped in
    let keys : a.key ≡ b.key = one_key b.bytes a.key b.key there b.wrapped in
    sym a.same ∙ ap (λ (k : CoseKey). k.public) keys ∙ b.same

pub good_not_bad : (x : Item) → IsGood x → IsBad x → ⊥
good_not_bad x good bad = bad good.0 good.1

-- the bytes are read as this key, whose public part is an HSS key
pub is_wrapped : (x : Item) (b : List ℕ) (key : CoseKey) (public : List ℕ) → bytes_of x ≡ Some b → KeyIs key b → public ≡ key.public → IsHssPublic key.public → Wraps public x
is_wrapped x b key public e k same known = record { bytes = b; string = bytes_is x b e; key = key; wrapped = k; same = sym same; known = subst IsHssPublic (sym same) known }

-- or whose public part is none
pub is_not_known : (x : Item) (b : List ℕ) (key : CoseKey) → bytes_of x ≡ Some b → KeyIs key b → (IsHssPublic key.public → ⊥) → IsBad x
is_not_known x b key e k unknown public w =
    let bytes : w.bytes ≡ b = same_bytes w.bytes b (sym w.string ∙ bytes_is x b e) in
    let keys : w.key ≡ key = one_key b w.key key (subst (λ (l : List ℕ). KeyIs w.key l) bytes w.wrapped) k in
    let public_is : public ≡ key.public = sym w.same ∙ ap (λ (v : CoseKey). v.public) keys in
    unknown (subst IsHssPublic public_is w.known)

-- the bytes are no key
pub is_no_key : (x : Item) (b : List ℕ) → bytes_of x ≡ Some b → ((v : CoseKey) → KeyIs v b → ⊥) → IsBad x
is_no_key x b e none public w =
    let bytes : w.bytes ≡ b = same_bytes w.bytes b (sym w.string ∙ bytes_is x b e) in
    none w.key (subst (λ (l : List ℕ). KeyIs w.key l) bytes w.wrapped)

pub is_no_string : (x : Item) → bytes_of x ≡ None → IsBad x
is_no_string x none public w = string_back x (w.bytes, w.string) none

-- the public part of a key was read as an HSS key, or not
pub hss_read : (x : Item) (b : List ℕ) (key : CoseKey) (seen : List ℕ) (r : Option (List ℕ)) → bytes_of x ≡ Some b → KeyIs key b → seen ≡ key.public
    → (IsSome r ↔ IsHssPublic seen) → IfSome r (λ k. k ≡ seen) → MatchOption r (IsBad x) (λ k. Wraps k x)
hss_read x b key seen (Some k) e is same known value = is_wrapped x b key k e is (value ∙ same) (subst IsHssPublic same (known.0 refl))
hss_read x b key seen None e is same known value = is_not_known x b key e is (λ h. (let some = known.1 (subst IsHssPublic (sym same) h) in absurd cc))
