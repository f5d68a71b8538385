use Rattle.std.proofs.Common.{ap}
use Rattle.broker_links.proofs.Fronts.{front_at}
use Rattle.broker_links.specs.Dials.{stream_at}
use Rattle.broker_links.proofs.memory_dialer.MemoryDialerLink.write.Goals as goal

pub returns-else-write-clause-contents : goal.returns-else-write-clause-contents
returns-else-write-clause-contents c = front_at c.write.ensures.traffic c.if-write.false (ap (stream_at c.args.self.now.closed.items) c.in-Some.is)
