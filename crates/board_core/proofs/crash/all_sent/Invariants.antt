use Rattle.std.proofs.Common.{◌≡◌, take}
use Rattle.std.specs.List.{flat_map}
use Rattle.board_core.specs.Stops.{sent_by}
use Rattle.board_core.proofs.crash.all_sent.Given as goal

abbrev pub invariant-loop-call : goal.invariant-loop-call
invariant-loop-call l = l.sent ≡ flat_map sent_by (take l.call-index l.calls)
