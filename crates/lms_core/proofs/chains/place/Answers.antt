use Rattle.std.proofs.Common.{rules}
use Rattle.std.proofs.lemmas.Slice.{overwrites}
use Rattle.lms_core.proofs.chains.place.Goals as goal

pub returns-clause-back : goal.returns-clause-back
returns-clause-back g c = search (rules, overwrites)
