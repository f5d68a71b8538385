use Rattle.std.proofs.Common.{◌-◌, subst}
use Rattle.journal_core.specs.declared.mount.Gate.{Gate}
use Rattle.journal_core.specs.Scanning.{GateIs, FitsIn, behind}
use Rattle.journal_core.proofs.Scan.{going_started, going_on, going_closed, going_overrun}
use Rattle.journal_core.proofs.journal.Journal.scan.Goals as goal

pub loop-self-init : goal.loop-self-init
loop-self-init g c = going_started g.B.Source.told c.args.self (g.B.Board.view c.args.board.now) c.requires.within (g.met.B.Board.laws _) c.requires.empty

pub loop-self-preserved : goal.loop-self-preserved
loop-self-preserved g c = let b = g.B.Board in
    let room = c.loop-self.self.region.half - c.loop-self.self.used in
    going_on g.B.Source.told c.args.self (b.view c.args.board.now) c.requires.within (g.met.B.Board.laws _)
    c.loop-self.self (b.view c.loop-self.board) c.loop-self.invariant c.take_in.new.self c.in-Body.length
    c.in_ok-next_gate.ensures.cause c.next_gate.ensures.same c.next_gate.ensures.moments
    (λ told. subst (λ (gate : Gate). GateIs room (behind c.loop-self.self (b.view c.loop-self.board).now.disk.bytes) gate) c.in-Body.is (c.in_ok-next_gate.ensures.gate told))
    (subst (λ (gate : Gate). FitsIn room gate) c.in-Body.is c.in_ok-next_gate.ensures.fits) c.in_ok-take_in-in-Body.ensures

pub returns-in-Closed-clause-mounts : goal.returns-in-Closed-clause-mounts
returns-in-Closed-clause-mounts g c = λ told. let b = g.B.Board in
    let room = c.loop-self.self.region.half - c.loop-self.self.used in
    let s = c.loop-self.invariant.scanned told in (
      c.loop-self.invariant.is_of,
      (
        s.bodies,
        going_closed g.B.Source.told c.args.self (b.view c.args.board.now) c.requires.within (g.met.B.Board.laws _)
            c.loop-self.self (b.view c.loop-self.board) c.loop-self.invariant told
            (subst (λ (gate : Gate). GateIs room (behind c.loop-self.self (b.view c.loop-self.board).now.disk.bytes) gate) c.in-Closed.is (c.in_ok-next_gate.ensures.gate told)),
        s.keeps,
      ),
    )

pub returns-in-Overrun-clause-mounts : goal.returns-in-Overrun-clause-mounts
returns-in-Overrun-clause-mounts g c = λ told. let b = g.B.Board in
    let room = c.loop-self.self.region.half - c.loop-self.self.used in
    going_overrun g.B.Source.told c.args.self (b.view c.args.board.now) c.requires.within (g.met.B.Board.laws _)
    c.loop-self.self (b.view c.loop-self.board) c.loop-self.invariant told
    (subst (λ (gate : Gate). GateIs room (behind c.loop-self.self (b.view c.loop-self.board).now.disk.bytes) gate) c.in-Overrun.is (c.in_ok-next_gate.ensures.gate told))
