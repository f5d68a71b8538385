-- Each item has an answer of the reader of anchors.
use Rattle.std.proofs.Common.{◌≡◌, ◌⊎◌, ℕ, suc, List, [], ◌∷◌, length, Option, None, Some, Result, Ok, Err, refl, sym, ap, subst, ◌∙◌, inl, inr}
use Rattle.std.specs.List.{AllByRecursion}
use Rattle.std.proofs.lemmas.Bool.{cases_lt}
use Rattle.base_types.specs.Bytes.{IsBytes}
use Rattle.base_types.specs.declared.limits.TheConstants.{ANCHORS_LIMIT}
use Rattle.cbor_core.specs.declared.item.Item.{Item}
use Rattle.cbor_core.specs.declared.item.Item.TheVariants as i
use Rattle.cbor_core.specs.Spelling.{HasRanges, HasRangesWithin}
use Rattle.cbor_core.specs.Views.{bytes_of, array_of}
use Rattle.cbor_core.proofs.Public.Views.{bytes_back, array_is, array_back}
use Rattle.cose_core.proofs.Public.OneKey.{key_or_none}
use Rattle.hss_verify.proofs.Public.Decided.{hss_public_or_not}
use Rattle.trust_anchors.specs.declared.anchors.Anchors.{Anchors}
use Rattle.trust_anchors.specs.declared.role.Role.TheVariants as role
use Rattle.trust_anchors.specs.declared.fault.AnchorFault.{AnchorFault}
use Rattle.trust_anchors.specs.declared.fault.AnchorFault.TheVariants as faults
use Rattle.trust_anchors.specs.Anchors.{IsString, Wraps, IsGood, IsBad, AreStrings, AreFew, RolesReadAs}
use Rattle.trust_anchors.proofs.Lists.{first_or_all, all_or_not, all_both, zip_there}
use Rattle.trust_anchors.proofs.Keys.{string_is, string_back, is_wrapped, is_no_key, is_not_known}
use Rattle.trust_anchors.specs.First.{FirstAt}
use Rattle.trust_anchors.proofs.Readers.{two, NotTwo}

-- ---- a byte string wraps a key, or it is bad

string_by : (x : Item) (o : Option (List ℕ)) → bytes_of x ≡ o → IsString x ⊎ (IsString x → ⊥)
string_by x None e = inr (λ s. string_back x s e)
string_by x (Some b) e = inl (string_is x b e)

string_or_not : (x : Item) → IsString x ⊎ (IsString x → ⊥)
string_or_not x = string_by x (bytes_of x) refl

in_range : (n : ℕ) (x : Item) (b : List ℕ) → x ≡ i.Bytes b → HasRangesWithin (suc n) x → IsBytes b
in_range n x b is r =
    let there : HasRangesWithin (suc n) (i.Bytes b) = subst (HasRangesWithin (suc n)) is r in
    let level = rw i.outs-Bytes at there in
    level.0

good_or_bad : (x : Item) → IsString x → HasRangesWithin 14 x → IsBad x ⊎ IsGood x
good_or_bad x s r =
    let bytes : bytes_of x ≡ Some s.0 = ap bytes_of s.1 ∙ bytes_back s.0 in
    elim (key_or_none s.0 (in_range 13 x s.0 s.1 r)) [
      | inr none ↦ inl (is_no_key x s.0 bytes none)
      | inl key ↦ elim (hss_public_or_not key.0.public) [
        | inl known ↦ inr (key.0.public, is_wrapped x s.0 key.0 key.0.public bytes key.1 refl known)
        | inr unknown ↦ inl (is_not_known x s.0 key.0 bytes key.1 unknown)
      ]
    ]

keys_or_bad : (xs : List Item) → AllByRecursion IsString xs → AllByRecursion (HasRangesWithin 14) xs → ((at : ℕ) × FirstAt IsGood IsBad xs at) ⊎ AllByRecursion IsGood xs
keys_or_bad xs s r = first_or_all IsGood IsBad xs (all_both IsString (HasRangesWithin 14) (λ x. IsBad x ⊎ IsGood x) good_or_bad xs s r)

-- ---- what is answered, if not want of memory

pub record Answered (ms bs : List Item) : Type 0 where
  pub result : Result Anchors AnchorFault
  pub answers : RolesReadAs ms bs result
  pub not_memory : result ≡ Err faults.NoMemory → ⊥

module _ (ms bs : List Item) (in_ms : AllByRecursion (HasRangesWithin 14) ms) (in_bs : AllByRecursion (HasRangesWithin 14) bs) where
  by_keys : AreStrings ms bs → AreFew ms bs → Answered ms bs
  by_keys s few = elim (keys_or_bad ms s.0 in_ms) [
    | inl bad ↦ record { result = Err (faults.BadKey role.Manager bad.0); answers = (s, few, bad.1); not_memory = λ e. cc }
    | inr good_ms ↦ elim (keys_or_bad bs s.1 in_bs) [
      | inl bad ↦ record { result = Err (faults.BadKey role.Author bad.0); answers = (s, few, (good_ms, bad.1)); not_memory = λ e. cc }
      | inr good_bs ↦ (let m = zip_there Wraps ms good_ms in let b = zip_there Wraps bs good_bs in
          record { result = Ok (record { manager = m.0; author = b.0 }); answers = (s, few, m.1, b.1); not_memory = λ e. cc })
    ]
  ]

  by_strings : AreStrings ms bs → Answered ms bs
  by_strings s = elim (cases_lt ANCHORS_LIMIT (length ms)) [
    | inl over ↦ record { result = Err (faults.TooMany role.Manager); answers = (s, over); not_memory = λ e. cc }
    | inr few_ms ↦ elim (cases_lt ANCHORS_LIMIT (length bs)) [
      | inl over ↦ record { result = Err (faults.TooMany role.Author); answers = (s, (few_ms, over)); not_memory = λ e. cc }
      | inr few_bs ↦ by_keys s (few_ms, few_bs)
    ]
  ]

  pub answered : Answered ms bs
  answered = elim (all_or_not IsString string_or_not ms) [
    | inr other ↦ record { result = Err faults.Shape; answers = λ m b. other m; not_memory = λ e. cc }
    | inl m ↦ elim (all_or_not IsString string_or_not bs) [
      | inr other ↦ record { result = Err faults.Shape; answers = λ m b. other b; not_memory = λ e. cc }
      | inl b ↦ by_strings (m, b)
    ]
  ]

-- ---- two arrays, or not

pub record HasTwo (x : Item) : Type 0 where
  pub managers : List Item
  pub authors : List Item
  pub is : x ≡ two managers authors

members_of : (x : Item) (ms bs : List Item) → x ≡ two ms bs → array_of x ≡ Some (i.Array ms ∷ i.Array bs ∷ [])
members_of x ms bs is = ap array_of is ∙ array_back (i.Array ms ∷ i.Array bs ∷ [])

both_by : (x a b : Item) (oa ob : Option (List Item)) → array_of x ≡ Some (a ∷ b ∷ []) → array_of a ≡ oa → array_of b ≡ ob → HasTwo x ⊎ NotTwo x
both_by x a b None ob e ea eb = inr (λ ms bs is. (
    let lists : Some (a ∷ b ∷ []) ≡ Some (i.Array ms ∷ i.Array bs ∷ []) = sym e ∙ members_of x ms bs is in
    let same : a ≡ i.Array ms = cc in
    let both : None ≡ Some ms = sym ea ∙ ap array_of same ∙ array_back ms in
    cc))
both_by x a b (Some ms) None e ea eb = inr (λ ns bs is. (
    let lists : Some (a ∷ b ∷ []) ≡ Some (i.Array ns ∷ i.Array bs ∷ []) = sym e ∙ members_of x ns bs is in
    let same : b ≡ i.Array bs = cc in
    let both : None ≡ Some bs = sym eb ∙ ap array_of same ∙ array_back bs in
    cc))
both_by x a b (Some ms) (Some bs) e ea eb = inl (record {
  managers = ms;
  authors = bs;
  is = array_is x (a ∷ b ∷ []) e ∙ rw (array_is a ms ea, array_is b bs eb) refl;
})

two_by : (x : Item) (o : Option (List Item)) → array_of x ≡ o → HasTwo x ⊎ NotTwo x
two_by x (Some (a ∷ b ∷ [])) e = both_by x a b (array_of a) (array_of b) e refl refl
two_by x None e = inr (λ ms bs is. (let both : None ≡ Some (i.Array ms ∷ i.Array bs ∷ []) = sym e ∙ members_of x ms bs is in cc))
two_by x (Some []) e = inr (λ ms bs is. (let both : Some [] ≡ Some (i.Array ms ∷ i.Array bs ∷ []) = sym e ∙ members_of x ms bs is in cc))
two_by x (Some (a ∷ [])) e = inr (λ ms bs is. (let both : Some (a ∷ []) ≡ Some (i.Array ms ∷ i.Array bs ∷ []) = sym e ∙ members_of x ms bs is in cc))
two_by x (Some (a ∷ b ∷ c ∷ more)) e = inr (λ ms bs is. (let both : Some (a ∷ b ∷ c ∷ more) ≡ Some (i.Array ms ∷ i.Array bs ∷ []) = sym e ∙ members_of x ms bs is in cc))

pub two_or_not : (x : Item) → HasTwo x ⊎ NotTwo x
two_or_not x = two_by x (array_of x) refl

-- the parts of two arrays in range are
pub parts_in_range : (ms bs : List Item) → HasRanges (two ms bs) → AllByRecursion (HasRangesWithin 14) ms × AllByRecursion (HasRangesWithin 14) bs
parts_in_range ms bs r =
    let level = rw i.outs-Array at r in
    let first = rw i.outs-Array at level.0.0 in
    let second = rw i.outs-Array at level.0.1.0 in
    (first.0, second.0)
