use Rattle.std.proofs.Common.{◌≡◌, true, false, sym, ap, inl, ◌∙◌, arith}
use Rattle.std.specs.Prelude.{Err}
use Rattle.std.proofs.lemmas.Result.{err_from_is_err_and}
use Rattle.cbor_core.specs.declared.item.Item.{out-Item}
use Rattle.cbor_core.specs.Views.{is_null}
use Rattle.suit_commands.specs.Sequences.{sequence_in}
use Rattle.suit_commands.proofs.Loops.{one_at, two_at, goes_on, odd_is, members_stop, members_end, each_stop, each_end, try_reads, try_stops}
use Rattle.suit_commands.proofs.Steps.{no_level_left, bytes_answer, bytes_fault}
use Rattle.suit_commands.proofs.reader.+reader.Goals as goal

pub read_bytes-returns-then-levels-eq0 : goal.read_bytes-returns-then-levels-eq0
read_bytes-returns-then-levels-eq0 t c = inl (no_level_left c.args.levels c.args.bytes.now (omega (arith, c.if-levels-eq0.true)))

pub read_bytes-returns-in-Ok : goal.read_bytes-returns-in-Ok
read_bytes-returns-in-Ok t c = bytes_answer c.args.levels c.args.bytes.now c.in-Ok.item c.read_sequence.result (omega (arith, c.if-levels-eq0.false)) c.in-Ok.ensures.found c.read_sequence.ensures

pub read_bytes-returns-in-Err-Bad : goal.read_bytes-returns-in-Err-Bad
read_bytes-returns-in-Err-Bad t c =
    inl (bytes_fault c.args.levels c.args.bytes.now c.in-Err-Bad.fault (omega (arith, c.if-levels-eq0.false)) (c.in-Err-Bad.ensures.bad c.in-Err-Bad.fault (ap Err c.in-Err-Bad.field-0-is)) ∙ cc)

pub read_members-returns-then-members-ne0 : goal.read_members-returns-then-members-ne0
read_members-returns-then-members-ne0 t c = inl (odd_is (sequence_in c.args.inside) c.args.members.now c.if-members-ne0.true)

pub read_members-returns-in_err-command : goal.read_members-returns-in_err-command
read_members-returns-in_err-command t c =
    let p = err_from_is_err_and c.from_residual.result c.from_residual.ensures.1 in
    let two = two_at c.args.members.now c.loop-at.at c.index-members-at.result c.index-members-at-in-loop-at.result _ _ (omega (arith, c.loop-at-test.true)) c.index-members-at.is c.index-members-at-in-loop-at.is in
    rw (p.1, p.2) (members_stop (sequence_in c.args.inside) c.loop-at.commands c.args.members.now c.loop-at.at c.index-members-at.result c.index-members-at-in-loop-at.result c.in_err-command.field-0.0
    c.if-members-ne0.false two c.in_err-command.ensures c.loop-at.invariant)

pub read_members-loop-at-preserved : goal.read_members-loop-at-preserved
read_members-loop-at-preserved t c =
    let two = two_at c.args.members.now c.loop-at.at c.index-members-at.result c.index-members-at-in-loop-at.result _ _ (omega (arith, c.loop-at-test.true)) c.index-members-at.is c.index-members-at-in-loop-at.is in
    rw c.in_ok-push.ensures.ok (goes_on (sequence_in c.args.inside) c.loop-at.commands c.args.members.now c.loop-at.at c.index-members-at.result c.index-members-at-in-loop-at.result
    c.in_ok-command.command _ two c.in_ok-command.ensures c.loop-at.invariant)

pub read_members-returns : goal.read_members-returns
read_members-returns t c =
    members_end (sequence_in c.args.inside) c.loop-at.commands c.args.members.now c.loop-at.at c.if-members-ne0.false (omega (arith, c.loop-at-test.false, c.if-members-ne0.false)) c.loop-at.invariant

pub read_each-returns-in_err-read_wrapped : goal.read_each-returns-in_err-read_wrapped
read_each-returns-in_err-read_wrapped t c =
    let p = err_from_is_err_and c.from_residual.result c.from_residual.ensures.1 in
    let one = one_at c.args.items.now c.loop-item.item-index c.item-item.result _ c.loop-item-test.true c.item-item.is in
    rw (p.1, p.2) (each_stop (sequence_in c.args.inside) c.loop-item.sequences c.args.items.now c.loop-item.item-index c.item-item.result c.in_err-read_wrapped.field-0.0 one c.in_err-read_wrapped.ensures c.loop-item.invariant)

pub read_each-returns : goal.read_each-returns
read_each-returns t c = each_end (sequence_in c.args.inside) c.loop-item.sequences c.args.items.now c.loop-item.item-index c.loop-item-test.false c.loop-item.invariant

pub read_alternatives-returns-in_err-alternatives : goal.read_alternatives-returns-in_err-alternatives
read_alternatives-returns-in_err-alternatives t c =
    let p = err_from_is_err_and c.from_residual.result c.from_residual.ensures.1 in
    let null : true ≡ is_null (out-Item c.in-Some.last.now) = sym c.if-is_null.true ∙ c.is_null.ensures in
    rw (p.1, p.2) (try_stops (sequence_in c.args.inside) c.args.members.now c.in-Some.first.now c.in-Some.last.now true c.in_err-alternatives.field-0.0 c.in-Some.ensures.cases.0 null c.in_err-alternatives.ensures)

pub read_alternatives-returns-then-is_null : goal.read_alternatives-returns-then-is_null
read_alternatives-returns-then-is_null t c =
    let null : true ≡ is_null (out-Item c.in-Some.last.now) = sym c.if-is_null.true ∙ c.is_null.ensures in
    try_reads (sequence_in c.args.inside) c.args.members.now c.in-Some.first.now c.in-Some.last.now true c.in_ok-alternatives.alternatives c.in-Some.ensures.cases.0 null c.in_ok-alternatives.ensures

pub read_alternatives-returns-in_err-alternatives-2 : goal.read_alternatives-returns-in_err-alternatives-2
read_alternatives-returns-in_err-alternatives-2 t c =
    let p = err_from_is_err_and c.from_residual-in_err-alternatives-2.result c.from_residual-in_err-alternatives-2.ensures.1 in
    let null : false ≡ is_null (out-Item c.in-Some.last.now) = sym c.if-is_null.false ∙ c.is_null.ensures in
    rw (p.1, p.2) (try_stops (sequence_in c.args.inside) c.args.members.now c.in-Some.first.now c.in-Some.last.now false c.in_err-alternatives-2.field-0.0 c.in-Some.ensures.cases.0 null c.in_err-alternatives-2.ensures)

pub read_alternatives-returns : goal.read_alternatives-returns
read_alternatives-returns t c =
    let null : false ≡ is_null (out-Item c.in-Some.last.now) = sym c.if-is_null.false ∙ c.is_null.ensures in
    try_reads (sequence_in c.args.inside) c.args.members.now c.in-Some.first.now c.in-Some.last.now false c.in_ok-alternatives-2.alternatives c.in-Some.ensures.cases.0 null c.in_ok-alternatives-2.ensures
