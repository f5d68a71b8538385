-- What is judged.
use Rattle.std.specs.Prelude.{ℕ, List}
use Rattle.device_config.specs.declared.config.Config.{Config}
use Rattle.device_state.specs.declared.heads.RowHead.{RowHead}

-- the bytes of the manifest at a place of an Update, counted from 0; the configuration of the device, with the anchors that it trusts; and the manifests that it
-- keeps so far, without the bytes of their components
pub record Subject : Type 0 where
  pub place : ℕ
  pub bytes : List ℕ
  pub config : Config
  pub rows : List RowHead
