use Rattle.journal_core.proofs.Public.Elsewhere.{stands_law, fits_law}
use Rattle.journal_core.proofs.laws.kept_elsewhere.Goals as goal

pub returns-clause-stands : goal.returns-clause-stands
returns-clause-stands c = stands_law

pub returns-clause-fits : goal.returns-clause-fits
returns-clause-fits c = fits_law
