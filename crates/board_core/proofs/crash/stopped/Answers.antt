use Rattle.std.proofs.Common.{◌≡◌, ◌∙◌, ap, sym, subst, length, take, drop, true, List, ℕ}
use Rattle.std.proofs.lemmas.List.{take_rest}
use Rattle.board_core.specs.Replay.{fits, all_fit}
use Rattle.board_core.specs.declared.call.Call.{Call}
use Rattle.board_core.proofs.Stopping.{all_fit-parts, stop_leaves}
use Rattle.board_core.proofs.crash.stopped.Goals as goal

pub overlay_all-requires : goal.overlay_all-requires
overlay_all-requires c =
    subst (λ (l : List ℕ). all_fit (length l) (take c.up_to_sync-synced.result c.args.calls.now) ≡ true) (sym c.in_ok-image.ensures.items)
    (all_fit-parts (length c.args.first.now) c.up_to_sync-synced.result c.args.calls.now c.requires.fit).0

pub overlay_all-requires-2 : goal.overlay_all-requires-2
overlay_all-requires-2 c =
    let long : length c.overlay_all.new.image.items ≡ length c.args.first.now = c.overlay_all.ensures.long ∙ ap length c.in_ok-image.ensures.items in
    subst (λ (l : List Call). all_fit (length c.overlay_all.new.image.items) l ≡ true) (sym (take_rest c.args.calls.now c.up_to_sync-synced.result))
    (subst (λ (n : ℕ). all_fit n (drop c.up_to_sync-synced.result c.args.calls.now) ≡ true) (sym long)
    (all_fit-parts (length c.args.first.now) c.up_to_sync-synced.result c.args.calls.now c.requires.fit).1)

pub overlay-requires : goal.overlay-requires
overlay-requires c =
    let long : length c.overlay_all-2.new.image.items ≡ length c.args.first.now = c.overlay_all-2.ensures.long ∙ c.overlay_all.ensures.long ∙ ap length c.in_ok-image.ensures.items in
    subst (λ (n : ℕ). fits n c.args.call.now ≡ true) (sym long) c.requires.call_fits

pub returns : goal.returns
returns c = stop_leaves c.args.stop c.args.first.now c.args.calls.now c.args.call.now c.up_to_sync-synced.result _ _ _ _ _ _
    c.up_to_sync-synced.ensures.last c.up_to_sync-synced.ensures.none_since c.in_ok-sent.ensures c.in_ok-begin.ensures
    c.in_ok-image.ensures.items c.overlay_all.ensures.image c.overlay_all-2.ensures.image (c.from_vec.ensures ∙ c.overlay.ensures)
