-- A change that is looked over may be prepared.
use Rattle.std.proofs.Common.{◌≡◌, ◌≤◌, List, Option, Some, None, Result, Ok, Err, refl, sym, subst}
use Rattle.std.specs.Prelude.{◌↔◌, Bool, IfOk, IfSome, IsTrue}
use Rattle.std.specs.List.{AllByRecursion}
use Rattle.hss_sign.specs.Params.{capacity}
use Rattle.trust_anchors.specs.declared.anchors.Anchors.{Anchors}
use Rattle.device_config.specs.declared.config.Config.{Config}
use Rattle.device_state.specs.declared.change.Change.{Change}
use Rattle.device_state.specs.declared.rows.ManifestRow.{ManifestRow}
use Rattle.device_state.specs.State.{put_rows, with_anchors}
use Rattle.device_state.specs.Valid.{IsRow, NoneTwice, owned, AreFew, IsSound}
use Rattle.device_image.specs.declared.held.Held.{Held}
use Rattle.device_image.specs.Held.{state_of}
use Rattle.component_store.specs.Preparing.{MayFollow}
use Rattle.component_store.proofs.Replacing.{have_digests}

same_params : (o : Option Anchors) (config : Config) → (with_anchors o config).params ≡ config.params
same_params None config = refl
same_params (Some anchors) config = refl

few_behind : (o : Option Anchors) (config : Config) → AreFew config.anchors → IfSome o AreFew → AreFew (with_anchors o config).anchors
few_behind None config before few = before
few_behind (Some anchors) config before few = few

pub follows : (held : Held) (change : Change) (rows : List ManifestRow) → rows ≡ put_rows change.rows held.rows.items → IfSome change.anchors AreFew → held.leaf ≤ change.leaf
    → IsSound (record { config = held.config; leaf = change.leaf; rows = change.rows }) → IsSound (record { config = held.config; leaf = change.leaf; rows = rows }) → MayFollow change (state_of held)
follows held change rows same few leaf own sound = record {
  proper = record { digests = have_digests change.rows own.rows; anchors = few };
  sound = record {
    leaf = subst (λ p. change.leaf ≤ capacity p) (sym (same_params change.anchors held.config)) sound.leaf;
    rows = subst (λ (rs : List ManifestRow). AllByRecursion IsRow rs) same sound.rows;
    one_owner = subst (λ (rs : List ManifestRow). NoneTwice (owned rs)) same sound.one_owner;
    anchors = few_behind change.anchors held.config sound.anchors few;
  };
  leaf = leaf;
}

-- an answer that tells one thing tells another
pub told_by : {E P Q : Type 0} (r : Result Bool E) → IfOk r (λ b. IsTrue b ↔ P) → (P → Q) → IfOk r (λ b. IsTrue b → Q)
told_by (Ok b) tells more = λ is. more (tells.0 is)
told_by (Err e) tells more = tt
