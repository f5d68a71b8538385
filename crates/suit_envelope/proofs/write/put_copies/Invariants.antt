use Rattle.std.proofs.Common.{◌≡◌, ◌++◌, take}
use Rattle.suit_envelope.proofs.write.put_copies.Given as goal

abbrev pub invariant-loop-pair : goal.invariant-loop-pair
invariant-loop-pair l = l.pairs ≡ l.fn.pairs ++ take l.pair-index l.others
