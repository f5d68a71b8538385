use Rattle.std.proofs.Common.{List, ℕ, Result, Ok, Err}
use Rattle.std.specs.Prelude.{OnOk}
use Rattle.component_store.specs.Keeping.{Log, Keeps}
use Rattle.device_image.specs.Held.{Holds, IsSafe}
use Rattle.component_store.proofs.any.LogStoreStore.commit.Goals as goal

with_safe : {E : Type 0} (r : Result (Unit {0}) E) (log : Log) (image : List ℕ) → IsSafe log.held log.size → OnOk r (Holds log.held image) → OnOk r (Keeps log image)
with_safe (Ok x) log image safe holds = record { safe = safe; holds = holds }
with_safe (Err e) log image safe holds = tt

pub returns-clause-keeps : goal.returns-clause-keeps
returns-clause-keeps g c = λ told keeps.
    with_safe c.make_durable.result c.make_durable.new.self (g.B.Board.view c.make_durable.new.board).now.disk.bytes c.make_durable.ensures.safe (c.make_durable.ensures.keeps told keeps.holds)
