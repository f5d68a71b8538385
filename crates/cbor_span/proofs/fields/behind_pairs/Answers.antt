use Rattle.std.proofs.Common.{◌-◌, ◌<◌, ◌++◌, arith}
use Rattle.cbor_core.specs.Spelling.{pair_spellings}
use Rattle.cbor_span.proofs.Remaining.{next, behind_next, none_left}
use Rattle.cbor_span.proofs.fields.behind_pairs.Goals as goal

pub returns-in_default : goal.returns-in_default
returns-in_default c ps more s len =
    let lt : 0 < c.args.count - c.loop.counter = omega (arith, c.loop-test.true) in
    let q = c.loop.invariant ps more s len in
    let n = next q.0 (c.args.count - c.loop.counter) c.loop.rest.now more lt q.1 q.2 in
    absurd (c.in_default.ensures n.pair (pair_spellings n.others ++ more) (n.key, n.value, n.bytes))

pub loop-preserved : goal.loop-preserved
loop-preserved c ps more s len =
    let lt : 0 < c.args.count - c.loop.counter = omega (arith, c.loop-test.true) in
    let q = c.loop.invariant ps more s len in
    let n = next q.0 (c.args.count - c.loop.counter) c.loop.rest.now more lt q.1 q.2 in
    let r = c.in-Some.ensures n.pair (pair_spellings n.others ++ more) (n.key, n.value, n.bytes) in
    (n.others, behind_next q.0 _ _ more n _ r.2, omega (arith, n.count))

pub returns : goal.returns
returns c ps more s len =
    let q = c.loop.invariant ps more s len in
    none_left q.0 c.loop.rest.now more q.1 (omega (arith, c.loop-test.false, q.2))
