use Rattle.std.proofs.Common.{sym, ◌∙◌, ap}
use Rattle.std.proofs.lemmas.Bool.{false≢true}
use Rattle.http_wire.proofs.Values.{listed, more_first, more_no, more_again}
use Rattle.http_wire.proofs.fields.values_of.Goals as goal
use Rattle.http_wire.proofs.fields.values_of.Goals.{then-eq_ignore_ascii_case+in-None, else-eq_ignore_ascii_case}

pub returns-in-Some : goal.returns-in-Some
returns-in-Some c =
    more_again c.args.name.now c.args.fields.now c.loop-field.field-index _ c.in-Some.first.now c.loop-field-test.true
    (c.eq_ignore_ascii_case.ensures.test.0 c.if-eq_ignore_ascii_case.true) (c.loop-field.invariant ∙ ap listed c.in-Some.is)

pub loop-field-preserved : goal.loop-field-preserved
loop-field-preserved c =
    elim c.if-eq_ignore_ascii_case.branch [
      | then-eq_ignore_ascii_case+in-None w ↦
          more_first c.args.name.now c.args.fields.now c.loop-field.field-index _ c.loop-field-test.true (c.eq_ignore_ascii_case.ensures.test.0 w.if-eq_ignore_ascii_case.true)
          (c.loop-field.invariant ∙ ap listed w.in-None.is)
          ∙ ap listed (sym w.found-is)
      | else-eq_ignore_ascii_case w ↦
          more_no c.args.name.now c.args.fields.now c.loop-field.field-index _ c.loop-field-test.true
          (λ e. false≢true (sym w.if-eq_ignore_ascii_case.false ∙ c.eq_ignore_ascii_case.ensures.test.1 e))
          ∙ c.loop-field.invariant ∙ ap listed (sym w.found-is)
    ]
