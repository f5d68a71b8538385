use Rattle.std.proofs.Common.{◌≡◌, ℕ, ◌+◌, ◌<◌, ◌≤◌, length, map, get_or, List}
use Rattle.device_state.proofs.sound.are_apart.Given as goal

abbrev pub invariant-loop-at : goal.invariant-loop-at
invariant-loop-at l = (k : ℕ) (d : List ℕ) → k + 1 < l.at → get_or (map (λ id. id.now) l.ids) k d ≡ get_or (map (λ id. id.now) l.ids) (k + 1) d → ⊥
