use Rattle.std.proofs.Common.{rules, ◌≡◌, ◌∙◌, length}
use Rattle.journal_core.proofs.Placed.{fits_count}
use Rattle.journal_core.proofs.journal.Journal.count.Goals as goal

pub returns-clause-bodies : goal.returns-clause-bodies
returns-clause-bodies c = λ image bodies fits.
    let places : c.len.result ≡ length c.args.self.now.places = search rules in
    places ∙ fits_count c.args.self.now image bodies fits
