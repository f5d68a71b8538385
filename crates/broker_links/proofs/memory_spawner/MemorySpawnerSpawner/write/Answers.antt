use Rattle.std.proofs.Common.{ap, sym, ◌∙◌}
use Rattle.broker_links.proofs.Fronts.{front_at}
use Rattle.broker_links.proofs.Written.{written_to, on_child}
use Rattle.broker_links.specs.Children.{stream_in}
use Rattle.broker_links.proofs.memory_spawner.MemorySpawnerSpawner.write.Goals as goal

pub returns-else-write-clause-contents : goal.returns-else-write-clause-contents
returns-else-write-clause-contents c = record {
  there = search;
  stream = front_at c.write.ensures.traffic c.if-write.false (ap stream_in c.in-Some.is);
  same = on_child c.in-Some.is (written_to c.in-Some.child c.write.new.self c.write.ensures.traffic c.if-write.false c.write.ensures.kept (sym c.is_there.ensures ∙ c.if-is_there.true));
}
