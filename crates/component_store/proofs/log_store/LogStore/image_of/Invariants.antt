use Rattle.std.proofs.Common.{◌≡◌, drop}
use Rattle.component_store.specs.Keeping.{image_in}
use Rattle.component_store.proofs.log_store.LogStore.image_of.Given as goal

abbrev pub invariant-loop-row : goal.invariant-loop-row
invariant-loop-row l = image_in l.id (drop l.row-index l.row-items) ≡ image_in l.id l.row-items
