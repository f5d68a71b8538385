use Rattle.std.proofs.Common.{◌≡◌, ◌<◌, ℕ, List, length, sym, ap, subst, ◌∙◌, arith}
use Rattle.std.proofs.lemmas.List.{get_or_default}
use Rattle.wave_core.specs.Counting.{more_at}
use Rattle.wave_core.proofs.Shapes.{more_there, more_full, more_past}
use Rattle.wave_core.proofs.counts.Counts.raise.Goals as goal
use Rattle.wave_core.proofs.counts.Counts.raise.Goals.{else-step-len-via-then-step-len+else-index-most, else-step-len-via-else-step-len}

pub returns-then-index-most : goal.returns-then-index-most
returns-then-index-most c =
    let items = c.self.inside.counts.items in
    let within : c.args.step < length items = omega arith in
    let same : c.index.result.now ≡ c.index_mut.result.now
    = c.index.ensures ∙ get_or_default items c.args.step c.index.result.now c.index_mut.result.now within ∙ sym c.index_mut.ensures.value in
    more_there c.args.step c.args.most c.index_mut.result.now items within c.index_mut.ensures.value (omega (arith, same)) ∙ ap (more_at c.args.step c.args.most) c.self.view_is

pub returns-else-step-len : goal.returns-else-step-len
returns-else-step-len c =
    let items = c.self.inside.counts.items in
    subst (λ (ns : List ℕ). ns ≡ more_at c.args.step c.args.most ns) c.self.view_is
    (elim c.else-step-len.branch [
      | else-step-len-via-then-step-len+else-index-most w ↦ more_full c.args.step c.args.most w.index.result.now items (omega arith) w.index.ensures w.if-index-most.false
      | else-step-len-via-else-step-len w ↦ more_past c.args.step c.args.most items (omega arith)
    ])
