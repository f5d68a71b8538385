use Rattle.std.proofs.Common.{All, take}
use Rattle.wave_core.specs.Waves.{IsOf}
use Rattle.wave_core.proofs.reading.wave_of.Given as goal

abbrev pub invariant-loop-number : goal.invariant-loop-number
invariant-loop-number l = All (λ wave. IsOf l.class l.id wave → ⊥) (take l.number l.waves)
