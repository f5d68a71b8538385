use Rattle.std.proofs.Common.{sym, ◌∙◌}
use Rattle.std.proofs.lemmas.Result.{err_from_is_err_and}
use Rattle.cbor_core.specs.Reading.{item_at}
use Rattle.cbor_span.proofs.Endings.{items_stop, items_go_on, items_end, key_stop, order_stop, value_stop, pair_go_on, pairs_end}
use Rattle.cbor_span.proofs.walk.+walk.Goals as goal

pub skip_items-returns-in_err-skip_item : goal.skip_items-returns-in_err-skip_item
skip_items-returns-in_err-skip_item t c =
    let p = err_from_is_err_and c.from_residual.result c.from_residual.ensures.1 in
    rw (p.1, p.2) (items_stop (item_at c.args.depth) c.args.n c.loop.counter c.loop.input _ c.in_err-skip_item.field-0.0 c.loop-test.true c.in_err-skip_item.ensures c.loop.invariant)

pub skip_items-loop-preserved : goal.skip_items-loop-preserved
skip_items-loop-preserved t c = items_go_on (item_at c.args.depth) c.args.n c.loop.counter c.loop.input _ _ c.loop-test.true c.in_ok-skip_item.ensures c.loop.invariant

pub skip_items-returns : goal.skip_items-returns
skip_items-returns t c = items_end (item_at c.args.depth) c.args.n c.loop.counter c.loop.input _ c.loop-test.false c.loop.invariant

pub skip_pairs-returns-in_err-skip_item : goal.skip_pairs-returns-in_err-skip_item
skip_pairs-returns-in_err-skip_item t c =
    let p = err_from_is_err_and c.from_residual.result c.from_residual.ensures.1 in
    rw (p.1, p.2) (key_stop (item_at c.args.depth) c.args.n c.loop.counter c.loop.last.now c.loop.input _ c.in_err-skip_item.field-0.0 c.loop-test.true c.in_err-skip_item.ensures c.loop.invariant)

pub skip_pairs-returns-then-not-is_below : goal.skip_pairs-returns-then-not-is_below
skip_pairs-returns-then-not-is_below t c =
    let is = rw c.rest-before.ensures at c.read_since-spelled.ensures in
    let below = rw is at (sym c.is_below.ensures ∙ c.if-not-is_below.true) in
    rw (c.fault.ensures, c.at-at.ensures.value) (order_stop (item_at c.args.depth) c.args.n c.loop.counter c.loop.last.now c.loop.input _ _ c.loop-test.true c.in_ok-skip_item.ensures below c.loop.invariant)

pub skip_pairs-returns-in_err-skip_item-2 : goal.skip_pairs-returns-in_err-skip_item-2
skip_pairs-returns-in_err-skip_item-2 t c =
    let p = err_from_is_err_and c.from_residual-in_err-skip_item-2.result c.from_residual-in_err-skip_item-2.ensures.1 in
    let is = rw c.rest-before.ensures at c.read_since-spelled.ensures in
    let below = rw is at (sym c.is_below.ensures ∙ c.if-not-is_below.false) in
    rw (p.1, p.2) (value_stop (item_at c.args.depth) c.args.n c.loop.counter c.loop.last.now c.loop.input _ _ c.in_err-skip_item-2.field-0.0 c.loop-test.true c.in_ok-skip_item.ensures below c.in_err-skip_item-2.ensures c.loop.invariant)

pub skip_pairs-loop-preserved : goal.skip_pairs-loop-preserved
skip_pairs-loop-preserved t c =
    let is = rw c.rest-before.ensures at c.read_since-spelled.ensures in
    let below = rw is at (sym c.is_below.ensures ∙ c.if-not-is_below.false) in
    rw is (pair_go_on (item_at c.args.depth) c.args.n c.loop.counter c.loop.last.now c.loop.input _ _ _ c.loop-test.true c.in_ok-skip_item.ensures below c.in_ok-skip_item-2.ensures c.loop.invariant)

pub skip_pairs-returns : goal.skip_pairs-returns
skip_pairs-returns t c = pairs_end (item_at c.args.depth) c.args.n c.loop.counter c.loop.last.now c.loop.input _ c.loop-test.false c.loop.invariant
