use Rattle.std.proofs.Common.{◌≡◌, drop}
use Rattle.device_config.specs.Zeros.{all_zeros}
use Rattle.device_config.proofs.head.are_zeros.Given as goal

abbrev pub invariant-loop-byte : goal.invariant-loop-byte
invariant-loop-byte l = all_zeros (drop l.byte-index l.bytes) ≡ all_zeros l.bytes
