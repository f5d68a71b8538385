use Rattle.std.proofs.Common.{◌<◌, List, [], length, sym, ap, ◌∙◌, arith, codes}
use Rattle.std.proofs.lemmas.Result.{err_from_is_err_and}
use Rattle.cbor_core.specs.declared.item.Pair.{Pair}
use Rattle.diag_text.specs.Reading.{member_at, pair_at, item_at}
use Rattle.cbor_core.specs.Faulty.{last_key}
use Rattle.diag_text.proofs.Loops.{part_fails, met_closes, met_wrong, met_next, parts_end, member_is, last_key_more}
use Rattle.diag_text.proofs.Found.{item_proper}
use Rattle.diag_text.proofs.reader.+reader.Goals as goal

pub read_members-returns-in_err-read_item : goal.read_members-returns-in_err-read_item
read_members-returns-in_err-read_item t c =
    let lt : c.loop.counter < length c.args.input.now.rest = omega (arith, c.len-end.ensures, c.loop-test.true) in
    let p = err_from_is_err_and c.from_residual.result c.from_residual.ensures.1 in
    rw (p.1, p.2) (part_fails (member_at (item_at c.args.depth)) (codes "]") (length c.args.input.now.rest) c.loop.counter c.loop.found c.loop.input _ c.loop.invariant c.in_err-read_item.field-0.0 lt
    (rw (member_is (item_at c.args.depth) c.loop.found c.loop.input) c.in_err-read_item.ensures))

pub read_members-returns-then-token : goal.read_members-returns-then-token
read_members-returns-then-token t c =
    let lt : c.loop.counter < length c.args.input.now.rest = omega (arith, c.len-end.ensures, c.loop-test.true) in
    let behind = rw c.if-token.true at c.token.ensures.behind in
    met_closes (member_at (item_at c.args.depth)) (codes "]") (length c.args.input.now.rest) c.loop.counter c.loop.found c.loop.input _ c.loop.invariant c.in_ok-read_item.field-0 c.read_item.new.input c.token.new.self
    c.token.result c.push.new.self
    lt (member_is (item_at c.args.depth) c.loop.found c.loop.input ∙ c.in_ok-read_item.ensures) c.token.ensures.found c.if-token.true behind c.in_ok-push.ensures.ok

pub read_members-returns-then-not-token : goal.read_members-returns-then-not-token
read_members-returns-then-not-token t c =
    let lt : c.loop.counter < length c.args.input.now.rest = omega (arith, c.len-end.ensures, c.loop-test.true) in
    let one = rw c.if-token.false at c.token.ensures.behind in
    let two = rw c.if-not-token.true at c.token-in-loop.ensures.behind in
    rw c.bad.ensures (met_wrong (member_at (item_at c.args.depth)) (codes "]") (length c.args.input.now.rest) c.loop.counter c.loop.found c.loop.input _ c.loop.invariant c.in_ok-read_item.field-0 c.read_item.new.input
    c.token.new.self c.token-in-loop.new.self c.token.result c.token-in-loop.result c.at.result
    lt (member_is (item_at c.args.depth) c.loop.found c.loop.input ∙ c.in_ok-read_item.ensures) c.token.ensures.found c.if-token.false one c.token-in-loop.ensures.found c.if-not-token.true two c.at.ensures.value)

pub read_members-loop-preserved : goal.read_members-loop-preserved
read_members-loop-preserved t c =
    let lt : c.loop.counter < length c.args.input.now.rest = omega (arith, c.len-end.ensures, c.loop-test.true) in
    let one = rw c.if-token.false at c.token.ensures.behind in
    let two = rw c.if-not-token.false at c.token-in-loop.ensures.behind in
    (met_next (member_at (item_at c.args.depth)) (codes "]") (length c.args.input.now.rest) c.loop.counter c.loop.found c.loop.input _ c.loop.invariant c.in_ok-read_item.field-0 c.read_item.new.input c.token.new.self
    c.token-in-loop.new.self c.token.result c.token-in-loop.result c.push.new.self
    lt (member_is (item_at c.args.depth) c.loop.found c.loop.input ∙ c.in_ok-read_item.ensures) c.token.ensures.found c.if-token.false one c.token-in-loop.ensures.found c.if-not-token.false two c.in_ok-push.ensures.ok)

pub read_members-returns : goal.read_members-returns
read_members-returns t c = rw (c.bad-2.ensures, c.at-2.ensures.value) (parts_end (member_at (item_at c.args.depth)) (codes "]") (length c.args.input.now.rest) c.loop.counter c.loop.found c.loop.input _ c.loop.invariant
    (omega (arith, c.len-end.ensures, c.loop-test.false)))

pub read_pairs-returns-in_err-read_pair : goal.read_pairs-returns-in_err-read_pair
read_pairs-returns-in_err-read_pair t c =
    let lt : c.loop.counter < length c.args.input.now.rest = omega (arith, c.len-end.ensures, c.loop-test.true) in
    let p = err_from_is_err_and c.from_residual.result c.from_residual.ensures.1 in
    rw (p.1, p.2) (part_fails (pair_at (item_at c.args.depth)) (codes "}") (length c.args.input.now.rest) c.loop.counter c.loop.found c.loop.input _ c.loop.invariant.so_far c.in_err-read_pair.field-0.0 lt
    (c.in_err-read_pair.ensures.read c.loop.found c.loop.invariant.last))

pub read_pairs-returns-then-token : goal.read_pairs-returns-then-token
read_pairs-returns-then-token t c =
    let lt : c.loop.counter < length c.args.input.now.rest = omega (arith, c.len-end.ensures, c.loop-test.true) in
    let behind = rw c.if-token.true at c.token.ensures.behind in
    met_closes (pair_at (item_at c.args.depth)) (codes "}") (length c.args.input.now.rest) c.loop.counter c.loop.found c.loop.input _ c.loop.invariant.so_far c.in_ok-read_pair.field-0 c.read_pair.new.input c.token.new.self
    c.token.result c.push.new.self
    lt (c.in_ok-read_pair.ensures.read c.loop.found c.loop.invariant.last) c.token.ensures.found c.if-token.true behind c.in_ok-push.ensures.ok

pub read_pairs-returns-then-not-token : goal.read_pairs-returns-then-not-token
read_pairs-returns-then-not-token t c =
    let lt : c.loop.counter < length c.args.input.now.rest = omega (arith, c.len-end.ensures, c.loop-test.true) in
    let one = rw c.if-token.false at c.token.ensures.behind in
    let two = rw c.if-not-token.true at c.token-in-loop.ensures.behind in
    rw c.bad.ensures (met_wrong (pair_at (item_at c.args.depth)) (codes "}") (length c.args.input.now.rest) c.loop.counter c.loop.found c.loop.input _ c.loop.invariant.so_far c.in_ok-read_pair.field-0 c.read_pair.new.input
    c.token.new.self c.token-in-loop.new.self c.token.result c.token-in-loop.result c.at.result
    lt (c.in_ok-read_pair.ensures.read c.loop.found c.loop.invariant.last) c.token.ensures.found c.if-token.false one c.token-in-loop.ensures.found c.if-not-token.true two c.at.ensures.value)

pub read_pairs-loop-preserved : goal.read_pairs-loop-preserved
read_pairs-loop-preserved t c =
    let lt : c.loop.counter < length c.args.input.now.rest = omega (arith, c.len-end.ensures, c.loop-test.true) in
    let one = rw c.if-token.false at c.token.ensures.behind in
    let two = rw c.if-not-token.false at c.token-in-loop.ensures.behind in
    record {
      so_far = (met_next (pair_at (item_at c.args.depth)) (codes "}") (length c.args.input.now.rest) c.loop.counter c.loop.found c.loop.input _ c.loop.invariant.so_far c.in_ok-read_pair.field-0 c.read_pair.new.input
          c.token.new.self c.token-in-loop.new.self c.token.result c.token-in-loop.result c.push.new.self
          lt (c.in_ok-read_pair.ensures.read c.loop.found c.loop.invariant.last) c.token.ensures.found c.if-token.false one c.token-in-loop.ensures.found c.if-not-token.false two c.in_ok-push.ensures.ok);
      last = c.in_ok-read_pair.ensures.last ∙ sym (last_key_more [] c.loop.found c.in_ok-read_pair.field-0) ∙ ap (λ (ps : List Pair). last_key [] ps) (sym c.in_ok-push.ensures.ok);
    }

pub read_pairs-returns : goal.read_pairs-returns
read_pairs-returns t c = rw (c.bad-2.ensures, c.at-2.ensures.value) (parts_end (pair_at (item_at c.args.depth)) (codes "}") (length c.args.input.now.rest) c.loop.counter c.loop.found c.loop.input _ c.loop.invariant.so_far
    (omega (arith, c.len-end.ensures, c.loop-test.false)))

pub read_key-encode-requires : goal.read_key-encode-requires
read_key-encode-requires t c = item_proper c.args.depth c.args.input.now c.in_ok-key.key c.read_item.new.input (omega arith) c.at-at.ensures.fits c.in_ok-key.ensures
