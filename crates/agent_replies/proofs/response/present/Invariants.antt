use Rattle.std.proofs.Common.{◌≡◌, map, take}
use Rattle.std.specs.List.{filter}
use Rattle.agent_replies.specs.Saying.{reported}
use Rattle.agent_replies.proofs.response.present.Given as goal

abbrev pub invariant-loop-row : goal.invariant-loop-row
invariant-loop-row l = l.list ≡ map reported (filter (λ row. row.present) (take l.row-index l.rows))
