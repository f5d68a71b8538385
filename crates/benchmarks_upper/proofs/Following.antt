-- A change of a store without manifests may be prepared where it is sound by itself.
use Rattle.std.proofs.Common.{◌≡◌, ◌≤◌, List, [], ◌∷◌, Option, None, Result, Ok, Err, refl, sym, subst}
use Rattle.std.specs.Prelude.{◌↔◌, Bool, IfOk, IfSome, IsTrue}
use Rattle.std.specs.List.{AllByRecursion}
use Rattle.commit_records.specs.Changes.{HasDigest, HaveDigests}
use Rattle.trust_anchors.specs.declared.anchors.Anchors.{Anchors}
use Rattle.device_state.specs.declared.change.Change.{Change}
use Rattle.device_state.specs.declared.rows.ComponentRow.{ComponentRow}
use Rattle.device_state.specs.declared.rows.ManifestRow.{ManifestRow}
use Rattle.device_state.specs.Heads.{row_head, heads}
use Rattle.device_state.specs.State.{State, put_rows, with_anchors}
use Rattle.device_state.specs.Valid.{IsComponent, IsRow, IsSound, AreFew}
use Rattle.component_store.specs.Preparing.{MayFollow}

digests_of : (cs : List ComponentRow) → AllByRecursion IsComponent cs → AllByRecursion HasDigest cs
digests_of [] all = tt
digests_of (c ∷ cs) all = (all.0.digest, digests_of cs all.1)

have_digests : (rows : List ManifestRow) → AllByRecursion IsRow rows → AllByRecursion HaveDigests rows
have_digests [] all = tt
have_digests (row ∷ rows) all = (digests_of row.components all.0.components, have_digests rows all.1)

no_rows : (rows : List ManifestRow) → heads rows ≡ [] → rows ≡ []
no_rows [] none = refl
no_rows (row ∷ rows) none =
    let never : row_head row ∷ heads rows ≡ [] → ⊥ = λ e. cc in
    absurd (never none)

pub follows : (change : Change) (s : State) → put_rows change.rows [] ≡ change.rows → heads s.rows ≡ [] → change.anchors ≡ None → s.leaf ≤ change.leaf
    → IsSound (record { config = s.config; leaf = change.leaf; rows = change.rows }) → MayFollow change s
follows change s again bare same leaf own = record {
  proper = record { digests = have_digests change.rows own.rows; anchors = subst (λ (o : Option Anchors). IfSome o AreFew) (sym same) tt };
  sound =
      let rows : change.rows ≡ put_rows change.rows s.rows = subst (λ (rs : List ManifestRow). change.rows ≡ put_rows change.rows rs) (sym (no_rows s.rows bare)) (sym again) in
      let behind = subst (λ (rs : List ManifestRow). IsSound (record { config = s.config; leaf = change.leaf; rows = rs })) rows own in
      subst (λ (o : Option Anchors). IsSound (record { config = with_anchors o s.config; leaf = change.leaf; rows = put_rows change.rows s.rows })) (sym same) behind;
  leaf = leaf;
}

-- an answer that tells one thing tells another
pub told_by : {E P Q : Type 0} (r : Result Bool E) → IfOk r (λ b. IsTrue b ↔ P) → (P → Q) → IfOk r (λ b. IsTrue b → Q)
told_by (Ok b) tells more = λ is. more (tells.0 is)
told_by (Err e) tells more = tt
