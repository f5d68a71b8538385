use Rattle.std.proofs.Common.{◌≡◌, length, arith}
use Rattle.lms_core.proofs.Turned.{turned}
use Rattle.lms_core.proofs.chains.turn_to.Goals as goal

pub returns : goal.returns
returns c =
    let old : length c.args.input.now ≡ 55 = omega arith in
    turned c.args.input.now c.place.new.input c.place-2.new.input _ _ c.args.tmp.now old c.place.ensures.length c.place-2.ensures.length c.to_be_bytes.ensures c.place.ensures.front c.place.ensures.back c.place-2.ensures.front
