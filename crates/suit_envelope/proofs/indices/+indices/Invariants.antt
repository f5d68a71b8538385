use Rattle.std.proofs.Common.{◌≡◌, map, drop}
use Rattle.suit_envelope.specs.Plans.{first_of, first_strange}
use Rattle.suit_envelope.proofs.indices.+indices.Given as goal

abbrev pub invariant-first_index-loop-command : goal.invariant-first_index-loop-command
invariant-first_index-loop-command l = first_strange l.count (drop l.command-index l.commands) ≡ first_strange l.count l.commands

abbrev pub invariant-index_in-loop-sequence : goal.invariant-index_in-loop-sequence
invariant-index_in-loop-sequence l = first_of (map (first_strange l.count) (drop l.sequence-index l.sequence-items)) ≡ first_of (map (first_strange l.count) l.sequence-items)
