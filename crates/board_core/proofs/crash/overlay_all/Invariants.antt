use Rattle.std.proofs.Common.{◌≡◌, length, take, fold}
use Rattle.board_core.specs.Stops.{left_in}
use Rattle.board_core.proofs.crash.overlay_all.Given as goal

abbrev pub invariant-loop-call : goal.invariant-loop-call
invariant-loop-call l = record {
  long : length l.image.items ≡ length l.fn.image.items;
  so_far : l.image.items ≡ fold (left_in l.stop) l.fn.image.items (take l.call-index l.calls);
}
