use Rattle.std.proofs.Common.{◌<◌, length, sym, ◌∙◌, arith, codes}
use Rattle.diag_text.specs.Printed.{hex_byte}
use Rattle.diag_text.specs.Reading.{hex_guess}
use Rattle.diag_text.proofs.Loops.{piece_closes, piece_refused, piece_goes_on, pieces_end}
use Rattle.diag_text.proofs.scan.read_bytes.Goals as goal

pub returns-then-token : goal.returns-then-token
returns-then-token c =
    let lt : c.loop.counter < length c.args.input.now.rest = omega (arith, c.len-end.ensures, c.loop-test.true) in
    let after = rw c.if-token.true at c.token.ensures.behind in
    rw after (piece_closes hex_byte hex_guess (codes "'") c.args.at (length c.args.input.now.rest) c.loop.counter c.loop.found c.loop.input _ c.loop.invariant lt (sym c.token.ensures.found ∙ c.if-token.true))

pub returns-then-not-pass_hex : goal.returns-then-not-pass_hex
returns-then-not-pass_hex c =
    let lt : c.loop.counter < length c.args.input.now.rest = omega (arith, c.len-end.ensures, c.loop-test.true) in
    let after = rw c.if-token.false at c.token.ensures.behind in
    rw c.bad.ensures (piece_refused hex_byte hex_guess (codes "'") c.args.at (length c.args.input.now.rest) c.loop.counter c.loop.found c.loop.input _ c.loop.invariant c.token.new.self c.guess_hex-byte.result c.pass_hex.result
    lt after (sym c.token.ensures.found ∙ c.if-token.false) (rw c.rest.ensures at c.guess_hex-byte.ensures) c.pass_hex.ensures.found c.if-not-pass_hex.true)

pub loop-preserved : goal.loop-preserved
loop-preserved c =
    let lt : c.loop.counter < length c.args.input.now.rest = omega (arith, c.len-end.ensures, c.loop-test.true) in
    let after = rw c.if-token.false at c.token.ensures.behind in
    let behind = rw c.if-not-pass_hex.false at c.pass_hex.ensures.after in
    piece_goes_on hex_byte hex_guess (codes "'") c.args.at (length c.args.input.now.rest) c.loop.counter c.loop.found c.loop.input _ c.loop.invariant c.token.new.self c.pass_hex.new.input c.guess_hex-byte.result c.pass_hex.result
    c.push.new.self
    lt after (sym c.token.ensures.found ∙ c.if-token.false) (rw c.rest.ensures at c.guess_hex-byte.ensures) c.pass_hex.ensures.found c.if-not-pass_hex.false behind c.in_ok-push.ensures.ok

pub returns : goal.returns
returns c = rw c.bad-2.ensures (pieces_end hex_byte hex_guess (codes "'") c.args.at (length c.args.input.now.rest) c.loop.counter c.loop.found c.loop.input _ c.loop.invariant (omega (arith, c.len-end.ensures, c.loop-test.false)))
