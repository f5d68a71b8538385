use Rattle.std.proofs.Common.{sym, subst, ◌≢◌, ◌+◌, ◌≤◌, ℕ, List, length, get_or, inl, arith}
use Rattle.board_core.proofs.Public.Chaining.{each_moment, widened}
use Rattle.board_core.proofs.Public.Gating.{gated_old_or_new, shown_shut}
use Rattle.board_core.proofs.tests.write_behind_gate.Goals as goal

pub returns : goal.returns
returns g c = λ told clean shut.
    let old = g.B.Board.view c.args.board.now in
    let laws = g.met.B.Board.laws c.args.board.now told in
    let fit : 3 + length c.args.bytes.now ≤ length old.now.disk.bytes = omega (arith, c.requires, laws.measured) in
    each_moment (widened (c.write_gated.ensures.moments told clean)
    (λ sent image within. gated_old_or_new 3 c.args.bytes.now 1 0xa5 old sent image (omega arith) fit shut within))
    (λ sent image left. (
      laws.sent_now sent image left,
      inl (shown_shut 1 0xa5 3 (length c.args.bytes.now) image (subst (λ (l : List ℕ). get_or l 1 0 ≢ 0xa5) (sym (laws.clean_now clean sent image left)) shut)),
    ))
