-- An item, and a pair, taken off the front of bytes.
use Rattle.std.proofs.Common.{◌≡◌, ℕ, ◌≤◌, List, ◌++◌, length, take, drop, Result, Ok, Err, refl, sym, ap, ◌∙◌, append_assoc}
use Rattle.std.proofs.lemmas.List.{take_at, drop_at, take-append-drop}
use Rattle.cbor_heads.specs.declared.fault.Fault.{Fault}
use Rattle.cbor_core.specs.declared.item.Item.{Item}
use Rattle.cbor_core.specs.declared.item.Pair.{Pair}
use Rattle.cbor_core.specs.Spelling.{spelling, pair_spelling}
use Rattle.cbor_core.proofs.Public.Spell.{pair_spelling_out}
use Rattle.cbor_span.specs.Parts.{HasSpelling}
use Rattle.cbor_span.specs.Span.{IsItem}
use Rattle.cbor_span.proofs.Fronts.{same_length, not_both}
use Rattle.cbor_span.proofs.Openings.{front_span}
use Rattle.cbor_span.proofs.Wholes.{Found}

-- the answer of `span` on bytes that begin with an item
pub first_is : (x : Item) (more bytes : List ℕ) (n : ℕ) → HasSpelling x → bytes ≡ spelling x ++ more → Found bytes (Ok n) → (take n bytes ≡ spelling x) × (drop n bytes ≡ more)
first_is x more bytes n h is found =
    let n-is : n ≡ length (spelling x) = same_length n (length (spelling x)) ((found (length (spelling x))).1 (front_span x more bytes h is)) in
    (rw (is, n-is) (take_at (spelling x) more (length (spelling x)) refl), rw (is, n-is) (drop_at (spelling x) more (length (spelling x)) refl))

pub first_not : (x : Item) (more bytes : List ℕ) (f : Fault) → HasSpelling x → bytes ≡ spelling x ++ more → Found bytes (Err f) → ⊥
first_not x more bytes f h is found = let r : Result ℕ Fault = Err f in not_both r (length (spelling x)) f ((found (length (spelling x))).1 (front_span x more bytes h is)) refl

pub within : (bytes : List ℕ) (n : ℕ) → Found bytes (Ok n) → n ≤ length bytes
within bytes n found = ((found n).0 refl).1.0

-- what was cut off spells an item
pub cut : (bytes : List ℕ) (n : ℕ) (a b : List ℕ) → a ≡ take n bytes → b ≡ drop n bytes → Found bytes (Ok n) → (bytes ≡ a ++ b) × IsItem a
cut bytes n a b front back found =
    let s = (found n).0 refl in
    (rw (front, back) (sym (take-append-drop n bytes)), rw front (s.0, s.1.1))

pub pair_bytes : (p : Pair) (more bytes : List ℕ) → bytes ≡ pair_spelling p ++ more → bytes ≡ spelling p.key ++ (spelling p.value ++ more)
pair_bytes p more bytes is = is ∙ ap (λ (t : List ℕ). t ++ more) (pair_spelling_out p) ∙ append_assoc (spelling p.key) (spelling p.value) more
