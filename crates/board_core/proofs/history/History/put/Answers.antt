use Rattle.std.proofs.Common.{◌≡◌, ◌∙◌, ap, subst, length, arith, ◌+◌, ◌≤◌, ◌++◌, [], ◌∷◌, List, ℕ}
use Rattle.board_core.specs.Moments.{written}
use Rattle.board_core.specs.declared.call.Call.TheVariants.{Put}
use Rattle.board_core.proofs.Kept.{put_followed, put_all_fit}
use Rattle.board_core.proofs.Told.{long}
use Rattle.board_core.proofs.history.History.put.Goals as goal

pub invariant_of-self-2 : goal.invariant_of-self-2
invariant_of-self-2 c =
    let old = c.args.self.now in
    let fit : c.args.at + length c.args.bytes.now ≤ length old.first = omega (arith, c.requires, long old) in
    let calls : c.push.new.self ≡ old.calls ++ Put c.args.at c.args.bytes.now c.args.ok ∷ [] =
    subst (λ (l : List ℕ). c.push.new.self ≡ old.calls ++ Put c.args.at l c.args.ok ∷ []) c.in_ok-kept.ensures c.in_ok-push.ensures.ok in
    record {
      followed = put_followed old.first old.image.items _ old.calls _ c.args.at c.args.bytes.now c.args.ok calls old.followed
          (c.write.ensures ∙ ap (λ (l : List ℕ). written old.image.items c.args.at l) c.part_done.ensures);
      puts_fit = put_all_fit (length old.first) old.calls _ c.args.at c.args.bytes.now c.args.ok calls fit old.puts_fit;
    }
