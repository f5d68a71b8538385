use Rattle.std.proofs.Common.{arith}
use Rattle.frames.proofs.Public.Pieces.{took_some, took_more}
use Rattle.frames.proofs.Looks.{long_came, behind_head, said, took_all}
use Rattle.frames.proofs.next.next_frame.Goals as goal

pub returns-then-size-limit-clause-next : goal.returns-then-size-limit-clause-next
returns-then-size-limit-clause-next g c = λ told.
    let head = c.fill_from.new.buf in
    long_came c.args.limit c.fill_from.new.budget.most c.u32_from_be_bytes-size.result head (g.S.Source.stream c.args.source.now) (g.S.Source.stream c.fill_from.new.source)
    (omega arith) (omega arith) (said _ _ c.u32_from_be_bytes-size.ensures) (took_all head (c.in-Full.ensures.took told)) (omega arith)

pub returns-clause-next : goal.returns-clause-next
returns-clause-next g c = λ told.
    let head = c.fill_from.new.buf in
    behind_head c.args.limit c.read_body.new.budget.most c.u32_from_be_bytes-size.result head (g.S.Source.stream c.args.source.now) (g.S.Source.stream c.fill_from.new.source)
    (omega arith) (omega arith) (said _ _ c.u32_from_be_bytes-size.ensures) (took_all head (c.in-Full.ensures.took told))
    c.read_body.new.budget.taken (g.S.Source.stream c.read_body.new.source) c.read_body.result (omega arith) (c.read_body.ensures.body told)

pub returns-clause-took : goal.returns-clause-took
returns-clause-took g c = λ told.
    took_more _ _ _ (took_some _ _ (took_all c.fill_from.new.buf (c.in-Full.ensures.took told)) c.in-Full.ensures.counted) (c.read_body.ensures.took told)
