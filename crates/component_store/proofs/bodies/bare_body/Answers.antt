use Rattle.std.proofs.Common.{ℕ, List, [], ◌∷◌, ◌++◌, ap, subst, sym, ◌∙◌, arith}
use Rattle.commit_records.specs.Changes.{ChangeIs}
use Rattle.device_state.specs.declared.change.Change.{Change}
use Rattle.device_state.specs.declared.rows.ManifestRow.{ManifestRow}
use Rattle.device_state.specs.State.{new_state, changed}
use Rattle.device_image.specs.Stands.{Leads}
use Rattle.device_image.proofs.Leading.{more_leads, none_leads}
use Rattle.component_store.proofs.bodies.bare_body.Goals as goal

pub returns-clause-lead : goal.returns-clause-lead
returns-clause-lead c = λ config.
    (let change : Change = record { leaf = c.args.leaf; rows = []; anchors = c.args.anchors } in
    let is : ChangeIs change c.in_ok-body.body = subst (λ (rows : List ManifestRow). ChangeIs (record { leaf = c.args.leaf; rows = rows; anchors = c.args.anchors }) c.in_ok-body.body) c.new-rows.ensures c.in_ok-body.ensures.again in
    let front = ap (λ (l : List (List ℕ)). l ++ c.in_ok-body.body ∷ []) c.new-bodies.ensures in
    subst (λ (l : List (List ℕ)). Leads config l (changed change (new_state config))) (sym (c.in_ok-push.ensures.ok ∙ front))
    (more_leads config [] (new_state config) change c.in_ok-body.body (none_leads config) is (omega arith)))
