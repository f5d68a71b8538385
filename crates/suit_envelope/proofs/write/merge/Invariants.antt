use Rattle.std.proofs.Common.{◌≡◌, ◌++◌, map, drop}
use Rattle.suit_envelope.specs.Written.{key_bytes, merged}
use Rattle.suit_envelope.proofs.write.merge.Given as goal

abbrev pub invariant-loop-payload : goal.invariant-loop-payload
invariant-loop-payload l = record {
  written : l.pairs ++ merged (drop l.payload-index l.attached) l.rest ≡ merged l.attached l.other;
  keys : l.rest_keys ≡ map key_bytes l.rest;
}
