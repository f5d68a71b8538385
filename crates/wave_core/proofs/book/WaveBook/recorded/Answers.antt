use Rattle.std.proofs.Common.{◌<◌, length, sym, subst, ◌∙◌, arith}
use Rattle.wave_core.specs.Book.{Book, StandsFor, IsStepAt, steps_of}
use Rattle.wave_core.proofs.Shapes.{step_within, step_counted, count_is}
use Rattle.wave_core.proofs.book.WaveBook.recorded.Goals as goal

pub index-requires : goal.index-requires
index-requires c =
    let within : c.args.step < length (steps_of c.self.inside.waves c.args.wave) = subst (λ (book : Book). c.args.step < length (steps_of book.waves c.args.wave)) (sym c.self.view_is) c.requires in
    let there : c.args.wave < length c.self.inside.counts.items = step_within c.self.inside.waves c.self.inside.counts.items c.args.wave c.args.step c.self.invariant.whole within in
    omega arith

pub at-requires : goal.at-requires
at-requires c =
    let within : c.args.step < length (steps_of c.self.inside.waves c.args.wave) = subst (λ (book : Book). c.args.step < length (steps_of book.waves c.args.wave)) (sym c.self.view_is) c.requires in
    step_counted c.self.inside.waves c.self.inside.counts.items c.args.wave c.args.step c.index.result.now c.self.invariant.whole within c.index.ensures

pub returns : goal.returns
returns c = λ ledger w s stands at.
    let then : StandsFor (record { waves = c.self.inside.waves; counts = c.self.inside.counts.items }) ledger = subst (λ (book : Book). StandsFor book ledger) (sym c.self.view_is) stands in
    let there : IsStepAt c.self.inside.waves c.args.wave c.args.step w s = subst (λ (book : Book). IsStepAt book.waves c.args.wave c.args.step w s) (sym c.self.view_is) at in
    c.at.ensures ∙ count_is ledger c.self.inside.waves c.self.inside.counts.items c.args.wave c.args.step w s c.index.result.now then.counts there.wave_is there.step_is c.index.ensures
