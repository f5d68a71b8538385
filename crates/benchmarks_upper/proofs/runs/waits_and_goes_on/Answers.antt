use Rattle.std.proofs.Common.{[]}
use Rattle.suit_engine.proofs.Public.Suspended.{waits_on}
use Rattle.benchmarks_upper.proofs.runs.waits_and_goes_on.Goals as goal

pub goes_on-requires : goal.goes_on-requires
goes_on-requires c = waits_on c.waits.new.engine [] c.args.fetched.now c.waits.ensures
