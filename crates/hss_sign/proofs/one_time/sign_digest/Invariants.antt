use Rattle.std.proofs.Common.{◌≡◌, ◌++◌}
use Rattle.hss_sign.specs.Sign.{chain_to_digit}
use Rattle.hss_sign.proofs.Joined.{joined}
use Rattle.hss_sign.proofs.one_time.sign_digest.Given as goal

-- the chains so far
abbrev pub invariant-loop-i : goal.invariant-loop-i
invariant-loop-i l = l.bytes.items ≡ l.initial.bytes.items ++ joined (chain_to_digit l.params l.secret l.leaf l.string) l.i
