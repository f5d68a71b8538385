use Rattle.frames.proofs.Public.OneReading.{one_reading}
use Rattle.frames.proofs.laws.one_reading.Goals as goal

pub returns : goal.returns
returns c = one_reading c.args.limit c.ranges.limit.fits c.args.most
