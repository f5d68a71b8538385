use Rattle.std.proofs.Common.{◌≡◌, ◌≤◌, [], None, List, subst, rules}
use Rattle.std.specs.Prelude.{◌↔◌, IfOk, IsTrue}
use Rattle.device_config.specs.declared.config.Config.{Config}
use Rattle.device_state.specs.declared.rows.ManifestRow.{ManifestRow}
use Rattle.device_state.specs.Heads.{heads}
use Rattle.device_state.specs.Valid.{IsSound}
use Rattle.component_store.specs.Stores.{state}
use Rattle.benchmarks_upper.proofs.Following.{follows, told_by}
use Rattle.benchmarks_upper.proofs.stores.may_follow.Goals as goal

pub returns : goal.returns
returns c =
    let change = c.args.change.now in
    let s = state c.args.store.now in
    let bare : heads s.rows ≡ [] = search rules in
    let same : change.anchors ≡ None = search rules in
    let leaf : s.leaf ≤ change.leaf = subst (λ n. n ≤ change.leaf) c.leaf.ensures c.if-change-leaf.false in
    let told = subst (λ (rows : List ManifestRow). IfOk c.is_sound.result (λ b. IsTrue b ↔ IsSound (record { config = c.config.result.now; leaf = change.leaf; rows = rows }))) c.as_slice.ensures c.is_sound.ensures in
    let sound = subst (λ (config : Config). IfOk c.is_sound.result (λ b. IsTrue b ↔ IsSound (record { config = config; leaf = change.leaf; rows = change.rows }))) c.config.ensures.config told in
    told_by c.is_sound.result sound (follows change s c.requires bare same leaf)
