use Rattle.std.proofs.Common.{List, ℕ, Bor}
use Rattle.device_state.proofs.Doubles.{sorted_differ}
use Rattle.device_state.proofs.sound.none_twice.Goals as goal

pub returns : goal.returns
returns c =
    let both = sorted_differ (λ (id : Bor (List ℕ)). id.now) c.args.ids.items c.sort_unstable.new.self.items c.sort_unstable.ensures.permutation c.sort_unstable.ensures.sorted in
    let told = rw c.as_slice.ensures.value at c.are_apart.ensures in
    (λ is. both.0 (told.0 is), λ none. told.1 (both.1 none))
