use Rattle.std.proofs.Common.{◌≡◌, ◌∙◌, ap, sym, subst, length, take, fold, ◌++◌, ◌∷◌, [], true, List, ℕ}
use Rattle.std.proofs.lemmas.List.{take_more}
use Rattle.std.proofs.lemmas.List.Sums.{fold-append}
use Rattle.board_core.specs.Replay.{fits}
use Rattle.board_core.specs.Stops.{left_in}
use Rattle.board_core.specs.declared.call.Call.{Call}
use Rattle.board_core.proofs.Stopping.{all_fit-item, length-left_in}
use Rattle.board_core.proofs.crash.overlay_all.Goals as goal

pub overlay-requires : goal.overlay-requires
overlay-requires c =
    subst (λ (n : ℕ). fits n c.call-item.result ≡ true) (sym c.loop-call.invariant.long)
    (all_fit-item (length c.args.image.now.items) c.args.calls.now c.loop-call.call-index c.call-item.result c.loop-call-test.true c.call-item.is c.requires)

pub loop-call-preserved : goal.loop-call-preserved
loop-call-preserved c =
    let fit = subst (λ (n : ℕ). fits n c.call-item.result ≡ true) (sym c.loop-call.invariant.long)
    (all_fit-item (length c.args.image.now.items) c.args.calls.now c.loop-call.call-index c.call-item.result c.loop-call-test.true c.call-item.is c.requires) in
    let f = left_in c.args.stop in
    let done = take c.loop-call.call-index c.args.calls.now in
    let next = take_more c.args.calls.now c.loop-call.call-index c.call-item.result c.loop-call-test.true ∙ ap (λ (d : Call). done ++ d ∷ []) (sym c.call-item.is) in
    record {
      long = ap length c.overlay.ensures ∙ length-left_in c.args.stop c.loop-call.image.items c.call-item.result fit ∙ c.loop-call.invariant.long;
      so_far = c.overlay.ensures ∙ ap (λ (l : List ℕ). left_in c.args.stop l c.call-item.result) c.loop-call.invariant.so_far
          ∙ sym (fold-append f c.args.image.now.items done (c.call-item.result ∷ [])) ∙ ap (λ (l : List Call). fold f c.args.image.now.items l) (sym next);
    }

pub returns-clause-long : goal.returns-clause-long
returns-clause-long c = c.loop-call.invariant.long
