use Rattle.std.proofs.Common.{◌≡◌, ◌+◌, drop}
use Rattle.std.specs.List.{position_or_len}
use Rattle.wave_core.specs.Waves.{lists}
use Rattle.wave_core.proofs.wave.place_among.Given as goal

abbrev pub invariant-loop-place : goal.invariant-loop-place
invariant-loop-place l = l.place + position_or_len (lists l.device) (drop l.place l.steps) ≡ position_or_len (lists l.device) l.steps
