use Rattle.device_config.proofs.Readers.{only}
use Rattle.device_config.proofs.config.Config.read.Goals as goal

pub returns-in-Ok-clause-only : goal.returns-in-Ok-clause-only
returns-in-Ok-clause-only c = only c.args.bytes.now c.in-Ok.item c.read_item.result c.in-Ok.ensures.found c.read_item.ensures
