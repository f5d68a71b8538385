use Rattle.std.proofs.Common.{◌≡◌, ℕ, ◌+◌, drop, List}
use Rattle.std.specs.List.{prefix_len}
use Rattle.cbor_core.specs.Spelling.{bytes_below}
use Rattle.suit_envelope.proofs.write.place_of.Given as goal

abbrev pub invariant-loop-place : goal.invariant-loop-place
invariant-loop-place l = prefix_len (λ (key : List ℕ). bytes_below key l.name) l.keys ≡ l.place + prefix_len (λ (key : List ℕ). bytes_below key l.name) (drop l.place l.keys)
