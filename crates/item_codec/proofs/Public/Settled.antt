-- No refusal is want of memory.
use Rattle.std.proofs.Common.{◌≡◌, Option, Some, None}
use Rattle.std.specs.Prelude.{Result, Ok, Err}
use Rattle.cbor_core.specs.declared.item.Item.{Item}
use Rattle.item_codec.specs.Answers.{and_then, or_fault, IsSettled}
use Rattle.item_codec.specs.Fields.{optional_at, needed_at}

module _ {E : Type 0} (none : E) where
  pub fault_settled : {V : Type 0} (fault : E) → (fault ≡ none → ⊥) → (o : Option V) → IsSettled none (or_fault fault o)
  fault_settled fault told None = told
  fault_settled fault told (Some v) = tt

  pub then_settled : {A S : Type 0} (k : A → Result S E) (r : Result A E) → IsSettled none r → ((a : A) → IsSettled none (k a)) → IsSettled none (and_then k r)
  then_settled k (Ok a) told more = more a
  then_settled k (Err e) told more = told

  module _ {V : Type 0} (view : Item → Result V E) (told : (x : Item) → IsSettled none (view x)) where
    pub optional_settled : (o : Option Item) → IsSettled none (optional_at view o)
    optional_settled None = tt
    optional_settled (Some x) = then_settled (λ (v : V). Ok (Some v)) (view x) (told x) (λ _. tt)

    pub needed_settled : (missing : E) → (missing ≡ none → ⊥) → (o : Option Item) → IsSettled none (needed_at view missing o)
    needed_settled missing told_missing None = told_missing
    needed_settled missing told_missing (Some x) = told x
