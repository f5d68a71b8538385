use Rattle.std.proofs.Common.{List, ap, ◌∙◌, arith}
use Rattle.device_state.specs.declared.heads.RowHead.{RowHead}
use Rattle.device_state.specs.Heads.{heads, heads_weight}
use Rattle.device_state.specs.State.{capped, rows_weight}
use Rattle.device_state.proofs.Orders.{heads_weigh_the_same}
use Rattle.component_store.proofs.Weighing.{capped_small}
use Rattle.component_store.proofs.log_store.LogStore.of.Goals as goal

pub invariant_of-result : goal.invariant_of-result
invariant_of-result c =
    let heads_are = c.in_ok-heads.ensures ∙ ap heads c.as_slice.ensures.value in
    record {
      safe = c.requires;
      heads_are = heads_are;
      weight_is = c.heads_weight-weight.ensures ∙ ap (λ (hs : List RowHead). capped (heads_weight hs)) (c.as_slice-2.ensures ∙ heads_are)
          ∙ ap capped (heads_weigh_the_same c.args.held.rows.items) ∙ capped_small (rows_weight c.args.held.rows.items) (omega (arith, c.requires.valid.light, c.requires.device.quota));
    }
