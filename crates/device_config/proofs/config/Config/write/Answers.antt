use Rattle.std.proofs.Common.{sym}
use Rattle.device_config.proofs.Writers.{config_proper, written}
use Rattle.device_config.proofs.config.Config.write.Goals as goal

pub encode-requires : goal.encode-requires
encode-requires c = rw c.in_ok-item.ensures.value (config_proper c.args.self.now)

pub returns-clause-again : goal.returns-clause-again
returns-clause-again c = written c.args.self.now c.encode.result c.requires c.in_ok-item.ensures.anchors (rw (sym c.in_ok-item.ensures.value) c.encode.ensures)
