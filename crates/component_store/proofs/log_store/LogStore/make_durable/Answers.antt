use Rattle.std.proofs.Common.{rules, ◌∙◌, ap, subst, sym}
use Rattle.journal_core.specs.Kept.{Kept}
use Rattle.component_store.specs.Keeping.{Log}
use Rattle.component_store.specs.Preparing.{IsReady}
use Rattle.component_store.proofs.Committing.{holds_behind, ready_moments, safe_behind}
use Rattle.component_store.proofs.log_store.LogStore.make_durable.Goals as goal

pub returns-in_err-write-clause-moments : goal.returns-in_err-write-clause-moments
returns-in_err-write-clause-moments g c = rw (sym c.self.view_is) (λ told clean holds.
    (let ready = subst (λ (log : Log). IsReady log c.args.prepared) (sym c.self.view_is) c.requires.ready in
    ready_moments c.self.inside.held c.self.inside.size c.args.prepared (g.B.Board.view c.args.board.now) (g.B.Board.view c.write.new.board) c.self.invariant.safe ready holds
    (c.write.ensures.moments told clean holds.bodies holds.fits)))

pub returns-clause-moments : goal.returns-clause-moments
returns-clause-moments g c = rw (sym c.self.view_is) (λ told clean holds.
    (let ready = subst (λ (log : Log). IsReady log c.args.prepared) (sym c.self.view_is) c.requires.ready in
    ready_moments c.self.inside.held c.self.inside.size c.args.prepared (g.B.Board.view c.args.board.now) (g.B.Board.view c.write.new.board) c.self.invariant.safe ready holds
    (c.write.ensures.moments told clean holds.bodies holds.fits)))

pub returns-clause-keeps : goal.returns-clause-keeps
returns-clause-keeps g c = rw (sym c.self.view_is) (λ told holds.
    (let ready = subst (λ (log : Log). IsReady log c.args.prepared) (sym c.self.view_is) c.requires.ready in
    holds_behind c.self.inside.held c.apply.new.self c.self.inside.size c.args.prepared c.write.new.journal _ (g.B.Board.view c.args.board.now) (g.B.Board.view c.write.new.board) c.self.invariant.safe ready
    c.apply.ensures.state c.apply.ensures.head c.apply.ensures.journal (c.in_ok-write.ensures.done told) (c.write.ensures.untouched told) holds))

pub returns-clause-safe : goal.returns-clause-safe
returns-clause-safe g c =
    let ready = subst (λ (log : Log). IsReady log c.args.prepared) (sym c.self.view_is) c.requires.ready in
    safe_behind c.self.inside.held c.apply.new.self c.self.inside.size c.args.prepared.change c.self.invariant.safe ready.valid c.apply.ensures.state c.apply.ensures.order
    (ap (λ (k : Kept). k.region) c.apply.ensures.journal ∙ c.write.ensures.region)

pub invariant_of-self-2 : goal.invariant_of-self-2
invariant_of-self-2 g c = record { safe = returns-clause-safe g c; heads_are = search rules; weight_is = search rules }
