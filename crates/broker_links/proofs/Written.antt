-- A write that fails leaves all of a child but what was written.
use Rattle.std.proofs.Common.{◌≡◌, ℕ, Bool, true, false, List, Some, ap, inl, inr, arith}
use Rattle.std.specs.Prelude.{Option, is_none}
use Rattle.broker_links.specs.Traffic.{Traffic, Writes}
use Rattle.broker_links.specs.Children.{Started, OnChild, WrittenTo}
use Rattle.broker_links.specs.Spawning.{carries}

input_stays : {works result : Bool} {bytes : List ℕ} {old new : Traffic} → Writes works bytes result old new → result ≡ false → new.input ≡ old.input
input_stays writes failed = elim (writes.err failed) [
  | inl same ↦ ap (λ (t : Traffic). t.input) same
  | inr half ↦ ap (λ (t : Traffic). t.input) half
]

taken_stays : {works result : Bool} {bytes : List ℕ} {old new : Traffic} → Writes works bytes result old new → result ≡ false → new.taken ≡ old.taken
taken_stays writes failed = elim (writes.err failed) [
  | inl same ↦ ap (λ (t : Traffic). t.taken) same
  | inr half ↦ ap (λ (t : Traffic). t.taken) half
]

-- a child that is there, behind a write that fails
pub written_to : {works result : Bool} {bytes : List ℕ} (old new : Started) → Writes works bytes result old.traffic new.traffic → result ≡ false → new ≡ carries new.traffic old → is_none old.finished ≡ true → WrittenTo old new
written_to old new writes failed kept there = record {
  program = ap (λ (c : Started). c.program) kept;
  input = input_stays writes failed;
  taken = taken_stays writes failed;
  finished = ap (λ (c : Started). c.finished) kept;
  gone = λ is. grind (arith, there, is);
}

-- the child was there, and is the same but for what was written
pub on_child : {child : Option Started} {old new : Started} → child ≡ Some old → WrittenTo old new → OnChild WrittenTo child (Some new)
on_child is holds = rw is holds
