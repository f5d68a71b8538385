-- Bytes as a whole spell exactly one item, or have exactly one fault.
use Rattle.std.proofs.Common.{◌≡◌, ℕ, ◌≤◌, List, [], length, take, refl, sym, ap, subst, ◌∙◌, arith, ◌⊎◌, inl, inr}
use Rattle.std.proofs.lemmas.Bool.{cases_lt}
use Rattle.std.proofs.lemmas.List.{append-nil, take_at}
use Rattle.cbor_heads.specs.declared.fault.Fault.{Fault}
use Rattle.cbor_heads.specs.declared.fault.Why.TheVariants as why
use Rattle.cbor_core.specs.declared.item.Item.{Item}
use Rattle.cbor_core.specs.Spelling.{Spells}
use Rattle.cbor_core.specs.Law.{IsFaultyWhole, OneItem, OneFault, OneItemWhole, OneFaultWhole, ExactlyOneWhole}
use Rattle.cbor_core.proofs.Inputs.{exactly_one}
use Rattle.cbor_core.proofs.Public.Whole.{one_for_one, no_fault, one_codec_fault}

-- a fault of the whole, and no item
faulty_whole : (bytes : List ℕ) (f : Fault) → IsFaultyWhole bytes f → OneFaultWhole bytes
faulty_whole bytes f h = record {
  first = f;
  faulty = h;
  alone = λ g k. one_codec_fault bytes g f k h;
  no_item = λ x s. no_fault bytes x f s h;
}

item_whole : (bytes : List ℕ) (x : Item) → Spells x bytes → OneItemWhole bytes
item_whole bytes x s = record {
  item = x;
  spelled = s;
  alone = λ y t. one_for_one.one_item y x bytes t s;
  no_fault = λ f h. no_fault bytes x f s h;
}

by_front : (bytes : List ℕ) → OneItem bytes ⊎ OneFault bytes → OneItemWhole bytes ⊎ OneFaultWhole bytes
by_front bytes (inr one) = inr (faulty_whole bytes one.first (inl one.faulty))
by_front bytes (inl one) = elim (cases_lt one.count (length bytes)) [
  | inl more ↦ inr (faulty_whole bytes (record { at = one.count; why = why.Extra }) (inr (record { item = one.item; front = one.spelled; more = more; why = refl })))
  | inr all ↦
      let within : one.count ≤ length bytes = one.spelled.0 in
      let n : one.count ≡ length bytes = omega arith in
      let whole : take (length bytes) bytes ≡ bytes = ap (λ (t : List ℕ). take (length bytes) t) (sym (append-nil bytes)) ∙ take_at bytes [] (length bytes) refl in
      inl (item_whole bytes one.item (subst (λ (t : List ℕ). Spells one.item t) (ap (λ (k : ℕ). take k bytes) n ∙ whole) one.spelled.1))
]

pub exactly_one_whole : ExactlyOneWhole
exactly_one_whole bytes fits = by_front bytes (exactly_one bytes fits)
