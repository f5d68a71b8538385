use Rattle.std.proofs.Common.{◌≡◌, length, map, replicate, take}
use Rattle.wave_core.proofs.book.no_counts.Given as goal

abbrev pub invariant-loop-wave : goal.invariant-loop-wave
invariant-loop-wave l = l.counts.items ≡ map (λ wave. replicate (length wave.steps) 0) (take l.wave-index l.waves)
