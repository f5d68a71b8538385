-- The first refusal of a map's pairs, in their order.
use Rattle.std.specs.Prelude.{ℕ, ◌==◌, List, [], ◌∷◌, Option, Some, None, Result, Ok, Err, if◌then◌else◌}
use Rattle.cbor_core.specs.declared.item.Item.{Item, out-Item}
use Rattle.cbor_core.specs.declared.item.Item.TheOpen.{Item-F}
use Rattle.cbor_core.specs.declared.item.Pair.{Pair}

-- the refusal, where there is one
abbrev pub refusal : {V E : Type 0} → Result V E → Option E
refusal (Ok v) = None
refusal (Err e) = Some e

-- a label, and what is refused of a value under it
pub record Check (E : Type 0) : Type 0 where
  pub label : ℕ
  pub wrong : Item → Option E

-- a label with a view
abbrev pub check : {V E : Type 0} → ℕ → (Item → Result V E) → Check E
check label view = record { label = label; wrong = λ x. refusal (view x) }

-- what is refused of a value under the number n, where `other` is said of numbers that are no label
abbrev pub at_number : {E : Type 0} → List (Check E) → ℕ → E → Item → Option E
at_number [] n other x = Some other
at_number (c ∷ cs) n other x = if n == c.label then c.wrong x else at_number cs n other x

-- what is refused of a value under a key
abbrev pub judge_by : {E : Type 0} → List (Check E) → E → Item → Item-F Item Pair → Option E
judge_by table other x (Item-F.Unsigned n) = at_number table n other x
judge_by table other x _ = Some other

-- what is refused of a pair
abbrev pub judge : {E : Type 0} → List (Check E) → (Pair → E) → Pair → Option E
judge table other p = judge_by table (other p) p.value (out-Item p.key)

-- the first of two refusals
abbrev pub or_later : {E : Type 0} → Option E → Option E → Option E
or_later None later = later
or_later (Some e) later = Some e

-- the refusal of the first pair that has one
abbrev pub first_refused : {E : Type 0} → (Pair → Option E) → List Pair → Option E
first_refused judged [] = None
first_refused judged (p ∷ ps) = or_later (judged p) (first_refused judged ps)
