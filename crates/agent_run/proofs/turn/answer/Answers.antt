use Rattle.std.proofs.Common.{Err, ap}
use Rattle.turn_loop.specs.declared.fault.TurnFault.{TurnFault}
use Rattle.turn_loop.proofs.Answering.{disk_failed, no_reply, sent_all, sent_front}
use Rattle.agent_core.specs.Turns.{Turn, StandsFor}
use Rattle.agent_core.specs.Views.{standing}
use Rattle.agent_run.proofs.turn.answer.Goals as goal

pub returns-in-Err-DiskFault-clause-turned : goal.returns-in-Err-DiskFault-clause-turned
returns-in-Err-DiskFault-clause-turned g c = λ told clean kept.
    let agent = c.args.agent.now in
    let old = g.B.Board.view c.args.board.now in
    let mid = g.B.Board.view c.deliver.new.board in
    disk_failed Turn StandsFor (standing g.S.Store.state agent) _ _ _ old mid (c.deliver.ensures.moments told clean kept)
    (g.met.B.Board.laws c.args.board.now told) (g.met.B.Board.laws c.deliver.new.board told) clean (g.met.S.Store.stands agent.store old.now.disk.bytes kept) (c.deliver.ensures.silent told)

pub returns-in-Err-NoMemory-clause-turned : goal.returns-in-Err-NoMemory-clause-turned
returns-in-Err-NoMemory-clause-turned g c = λ told clean kept.
    no_reply Turn StandsFor (standing g.S.Store.state c.args.agent.now) _ _ _ (g.B.Board.view c.args.board.now) (g.B.Board.view c.deliver.new.board) (c.deliver.ensures.moments told clean kept)
    (c.in-Err-NoMemory.ensures.nothing_put told (ap (λ (f : TurnFault). Err f) c.in-Err-NoMemory.field-0-is))

pub returns-in-Ok-send-clause-turned : goal.returns-in-Ok-send-clause-turned
returns-in-Ok-send-clause-turned g c = λ told clean kept.
    let agent = c.deliver.new.self in
    let old = g.B.Board.view c.args.board.now in
    let mid = g.B.Board.view c.deliver.new.board in
    sent_all Turn StandsFor (standing g.S.Store.state c.args.agent.now) _ (standing g.S.Store.state agent) (g.S.Store.keeps agent.store) old mid (c.deliver.ensures.moments told clean kept)
    c.as_slice.result.now c.in-Ok.reply c.as_slice.ensures c.in-Ok.ensures.turns (g.met.B.Board.laws c.deliver.new.board told) (c.in-Ok.ensures.clean told clean)
    (c.deliver.ensures.silent told) (c.in-Ok.ensures.keeps told kept) (λ image kept. g.met.S.Store.stands agent.store image kept) (g.B.Board.view c.send.new.self) (c.send.ensures.moments told) (c.in-Ok-send.ensures.contents told)

pub returns-clause-turned : goal.returns-clause-turned
returns-clause-turned g c = λ told clean kept.
    let agent = c.deliver.new.self in
    let old = g.B.Board.view c.args.board.now in
    let mid = g.B.Board.view c.deliver.new.board in
    sent_front Turn StandsFor (standing g.S.Store.state c.args.agent.now) _ (standing g.S.Store.state agent) (g.S.Store.keeps agent.store) old mid (c.deliver.ensures.moments told clean kept)
    c.as_slice.result.now c.in-Ok.reply c.as_slice.ensures c.in-Ok.ensures.turns (g.met.B.Board.laws c.deliver.new.board told) (c.in-Ok.ensures.clean told clean)
    (c.deliver.ensures.silent told) (c.in-Ok.ensures.keeps told kept) (λ image kept. g.met.S.Store.stands agent.store image kept) (g.B.Board.view c.send.new.self) (c.send.ensures.moments told) (c.in-Err.ensures.contents told)
