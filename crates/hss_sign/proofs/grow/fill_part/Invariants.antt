use Rattle.std.proofs.Common.{◌≡◌, ◌+◌, ◌<◌, ◌^◌, ℕ, [], length, slice_index_or}
use Rattle.hss_sign.specs.Trees.{leaf_at}
use Rattle.hss_sign.proofs.grow.fill_part.Given as goal

-- the leaves so far
abbrev pub invariant-loop-i : goal.invariant-loop-i
invariant-loop-i o l = record {
  size : length l.part ≡ length l.initial.part;
  leaves : (k : ℕ) → k < l.i → slice_index_or l.part k [] ≡ leaf_at l.params l.secret (2 ^ l.params.height + (l.start + k));
}
