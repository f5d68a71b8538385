use Rattle.std.proofs.Common.{◌≡◌, map, take}
use Rattle.device_state.specs.Valid.{owned}
use Rattle.device_state.proofs.sound.owned_ids.Given as goal

abbrev pub invariant-loop-row : goal.invariant-loop-row
invariant-loop-row l = map (λ id. id.now) l.ids.items ≡ owned (take l.row-index l.rows)
