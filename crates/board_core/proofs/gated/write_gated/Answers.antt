use Rattle.board_core.proofs.Public.Gating.{bytes_within, bytes_pending, gate_within, gate_pending}
use Rattle.board_core.proofs.gated.write_gated.Goals as goal

pub returns-in_err-put_synced-clause-within : goal.returns-in_err-put_synced-clause-within
returns-in_err-put_synced-clause-within g c = λ told.
    bytes_within c.args.at c.args.gate c.args.bytes.now c.requires.before (c.put_synced.ensures.within told) (c.put_synced.ensures.stored told)

pub returns-in_err-put_synced-clause-pending : goal.returns-in_err-put_synced-clause-pending
returns-in_err-put_synced-clause-pending g c = λ told clean.
    bytes_pending c.args.at c.args.gate c.args.bytes.now c.requires.before (g.met.B.Board.laws _ told) clean (g.met.B.Board.laws _ told) (c.put_synced.ensures.within told)

pub returns-clause-within : goal.returns-clause-within
returns-clause-within g c = λ told.
    gate_within c.args.at c.args.gate c.args.bytes.now c.requires.before (g.met.B.Board.laws _ told) (c.in_ok-put_synced.ensures.clean told) (c.put_synced.ensures.within told)
    (c.in_ok-put_synced.ensures.written told) (c.put_synced-2.ensures.within told) (c.put_synced.ensures.stored told) (c.put_synced-2.ensures.stored told)

pub returns-clause-pending : goal.returns-clause-pending
returns-clause-pending g c = λ told clean.
    gate_pending c.args.at c.args.gate c.args.bytes.now c.requires.before (g.met.B.Board.laws _ told) (c.in_ok-put_synced.ensures.clean told) (c.put_synced.ensures.within told)
    (c.in_ok-put_synced.ensures.written told) (g.met.B.Board.laws _ told) (c.put_synced-2.ensures.within told)
