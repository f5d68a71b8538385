-- Which item bytes are read as.
use Rattle.std.proofs.Common.{◌≡◌, ℕ, List, [], ◌∷◌, length, drop, Some, None, refl, sym, ap, subst, ◌∙◌, inl, inr, arith}
use Rattle.std.specs.Prelude.{Ok, Err}
use Rattle.std.proofs.lemmas.List.{drop_all, drop_more}
use Rattle.cbor_core.specs.declared.item.Item.{Item}
use Rattle.cbor_heads.specs.declared.fault.Fault.{Fault}
use Rattle.cbor_core.specs.Spelling.{Spells}
use Rattle.base_types.specs.Bytes.{IsBytes}
use Rattle.cbor_core.specs.Law.{SpellsFront, IsFaultyWhole}
use Rattle.cbor_core.proofs.Public.ExactlyOne.{exactly_one_whole}
use Rattle.cbor_core.proofs.Public.Whole.{one_for_one, reads, refuses, whole_front}
use Rattle.cbor_core.specs.Views.{bytes_of}
use Rattle.item_codec.specs.Wrapped.{alone, read_whole, item_in, unwrapped}

pub one_item : (bytes : List ℕ) (x y : Item) → Spells x bytes → Spells y bytes → x ≡ y
one_item bytes x y s t = one_for_one.one_item x y bytes s t

-- ---- what is read

at_end : (x : Item) (bytes : List ℕ) → bytes ≡ [] → alone x bytes ≡ Some x
at_end x [] e = refl
at_end x (byte ∷ bytes) e = absurd cc

front_in : (bytes : List ℕ) (x : Item) (n : ℕ) → SpellsFront bytes x n → item_in bytes ≡ alone x (drop n bytes)
unfolding item_in
front_in bytes x n front = ap read_whole (reads bytes x n front.0 front.1)

-- what bytes spell is read
pub item_is : (bytes : List ℕ) (x : Item) → Spells x bytes → item_in bytes ≡ Some x
item_is bytes x s = front_in bytes x (length bytes) (whole_front bytes x s) ∙ at_end x (drop (length bytes) bytes) (drop_all (length bytes) bytes (omega arith))

-- bytes with a fault are read as none
pub item_none : (bytes : List ℕ) (f : Fault) → IsFaultyWhole bytes f → item_in bytes ≡ None
unfolding item_in
item_none bytes f (inl faulty) = ap read_whole (refuses bytes f faulty)
item_none bytes f (inr extra) = front_in bytes extra.item f.at extra.front ∙ ap (alone extra.item) (drop_more bytes f.at 0 extra.more)

-- what is read of bytes spells them
pub item_spells : (bytes : List ℕ) (x : Item) → IsBytes bytes → item_in bytes ≡ Some x → Spells x bytes
item_spells bytes x are e = elim (exactly_one_whole bytes are) [
  | inl one ↦
      let same : Some one.item ≡ Some x = sym (item_is bytes one.item one.spelled) ∙ e in
      let is : one.item ≡ x = cc in
      subst (λ (y : Item). Spells y bytes) is one.spelled
  | inr none ↦ absurd (let both : Some x ≡ None = sym e ∙ item_none bytes none.first none.faulty in cc)
]

-- ---- byte strings

-- the item that a byte string wraps
pub content_is : {E : Type 0} (fault : E) (x : Item) (bytes : List ℕ) (y : Item) → bytes_of x ≡ Some bytes → Spells y bytes → unwrapped fault x ≡ Ok y
content_is fault x bytes y at s = rw (at, item_is bytes y s) refl

-- a byte string that wraps none
pub content_none : {E : Type 0} (fault : E) (x : Item) (bytes : List ℕ) (f : Fault) → bytes_of x ≡ Some bytes → IsFaultyWhole bytes f → unwrapped fault x ≡ Err fault
content_none fault x bytes f at faulty = rw (at, item_none bytes f faulty) refl
