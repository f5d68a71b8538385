use Rattle.board_core.proofs.Kept.{either, idle_kept}
use Rattle.board_core.proofs.history.History.idle.Goals as goal

pub invariant_of-self : goal.invariant_of-self
invariant_of-self c =
    let kept = idle_kept _ _ _ _ _ c.requires (either c.push.result c.push.ensures.ok c.push.ensures.err) c.args.self.now.followed c.args.self.now.puts_fit in
    record { followed = kept.0; puts_fit = kept.1 }
