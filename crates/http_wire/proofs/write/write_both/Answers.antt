use Rattle.std.proofs.Common.{◌∙◌, ◌++◌, ℕ, List, subst}
use Rattle.http_wire.specs.Writing.{Wrote}
use Rattle.http_wire.proofs.write.write_both.Goals as goal

pub returns-in-Ok-clause-written : goal.returns-in-Ok-clause-written
returns-in-Ok-clause-written g c = λ told.
    subst (λ (l : List ℕ). Wrote (l ++ c.args.body.now) (g.L.Source.stream c.args.link.now) (g.L.Source.stream c.write_closed.new.link) c.write_closed.result)
    (c.as_slice.ensures ∙ c.in-Ok.ensures) (c.write_closed.ensures.written told)
