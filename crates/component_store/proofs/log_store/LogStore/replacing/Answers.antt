use Rattle.std.proofs.Common.{arith}
use Rattle.component_store.proofs.Replacing.{short_bodies}
use Rattle.component_store.proofs.log_store.LogStore.replacing.Goals as goal

pub of-requires : goal.of-requires
of-requires c = short_bodies c.in_ok-bodies.bodies (omega (arith, c.in_ok-bodies.ensures.size, c.self.invariant.safe.device.quota))
