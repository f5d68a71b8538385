use Rattle.diag_text.proofs.Exact.{exactly_one}
use Rattle.diag_text.proofs.laws.exactly_one.Goals as goal

pub returns : goal.returns
returns c = exactly_one
