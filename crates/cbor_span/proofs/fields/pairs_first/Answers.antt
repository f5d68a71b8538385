use Rattle.std.proofs.Common.{sym}
use Rattle.cbor_span.proofs.Remaining.{pairs_front}
use Rattle.cbor_span.proofs.fields.pairs_first.Goals as goal

pub returns-in_default : goal.returns-in_default
returns-in_default c ps more s len = c.in_default.ensures ps more s len

pub returns-in-Some-behind_pairs : goal.returns-in-Some-behind_pairs
returns-in-Some-behind_pairs c ps more s len =
    let one = c.in-Some.ensures ps more s len in
    let is = c.in-Some-behind_pairs.ensures one.1.0 more one.1.1 one.1.2 in
    record { count = sym len; pairs = rw c.saturating_sub.ensures (pairs_front ps c.args.bytes.now c.in-Some-behind_pairs.behind.now more s is); value = one.0; behind = is }

pub returns-in-None : goal.returns-in-None
returns-in-None c ps more s len =
    let one = c.in-Some.ensures ps more s len in
    c.in-None.ensures one.1.0 more one.1.1 one.1.2
