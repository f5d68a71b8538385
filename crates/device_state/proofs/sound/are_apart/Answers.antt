use Rattle.std.proofs.Common.{List, ℕ, sym, ◌∙◌, Bor}
use Rattle.device_state.proofs.Doubles.{same_neighbours, more_differ}
use Rattle.device_state.proofs.sound.are_apart.Goals as goal

pub returns-then-eq : goal.returns-then-eq
returns-then-eq c = (
  λ is. absurd cc,
  λ differ. absurd (same_neighbours (λ (id : Bor (List ℕ)). id.now) c.args.ids.now c.loop-at.at _ _ c.loop-at.auto.at c.loop-at-test.true (sym c.eq.ensures ∙ c.if-eq.true) differ),
)

pub loop-at-preserved : goal.loop-at-preserved
loop-at-preserved c = more_differ (λ (id : Bor (List ℕ)). id.now) c.args.ids.now c.loop-at.at _ _ c.loop-at.auto.at c.loop-at-test.true (sym c.eq.ensures ∙ c.if-eq.false) c.loop-at.invariant
