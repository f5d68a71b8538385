use Rattle.std.proofs.Common.{◌≡◌, ◌-◌, ◌<◌, ℕ, length, slice_index}
use Rattle.lms_core.specs.Chains.{chain}
use Rattle.lms_core.proofs.Slots.{slot}
use Rattle.lms_core.proofs.chains.finish_all.Given as goal

-- the chains after the steps so far: one whose digit was not reached stands at its beginning
abbrev pub invariant-loop-j : goal.invariant-loop-j
invariant-loop-j l = record {
  size : length l.values ≡ length l.initial.values;
  chains : (k : ℕ) → k < length l.digits → slot l.values k ≡ chain l.identifier l.q k (slice_index l.digits k) (l.j - slice_index l.digits k) (slot l.initial.values k);
}
