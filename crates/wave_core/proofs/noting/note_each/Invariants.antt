use Rattle.std.proofs.Common.{◌≡◌, ◌++◌, ◌≤◌, length, take, drop, vec_len}
use Rattle.wave_core.specs.Counting.{noted}
use Rattle.wave_core.proofs.noting.note_each.Given as goal

abbrev pub invariant-loop-number : goal.invariant-loop-number
invariant-loop-number l = record {
  within : length l.waves ≤ vec_len l.counts;
  so_far : take l.number l.counts.items ++ noted l.device l.id l.before l.after (drop l.number l.waves) (drop l.number l.counts.items)
      ≡ noted l.device l.id l.before l.after l.waves l.initial.counts.items;
}
