-- The leaves at which the replies of a run are signed. A one-time key signs once (RFC 8554, sections 4 and 8).
use Rattle.std.specs.Prelude.{◌≡◌, ◌⊎◌, ◌+◌, ℕ, List, [], ◌∷◌}
use Rattle.cbor_core.specs.Spelling.{Spells}
use Rattle.cose_core.specs.Sign1.{tagged}
use Rattle.frames.specs.Frames.{Frame}
use Rattle.device_config.specs.declared.config.Config.{Config}
use Rattle.agent_replies.specs.Signing.{signed}
use Rattle.turn_loop.specs.Follows.{Follows}
use Rattle.agent_core.specs.Turns.{Standing, Turn, key_of}

-- the reply carries some payload, signed by the device's key at this leaf
pub record IsSignedAt (config : Config) (leaf : ℕ) (reply : Frame) : Type 0 where
  pub kind : reply.kind ≡ 0x81
  pub payload : List ℕ
  pub spelled : Spells (tagged (signed (key_of config) config.device.device leaf payload)) reply.body

-- Each reply is a refusal, or is signed at the first leaf that is left, which is used then. So the signed ones have one leaf
-- each, from the first on and one behind the other, and the last number is that of the next one.
abbrev pub SignedFrom : Config → ℕ → ℕ → List Frame → Type 0
SignedFrom config first last [] = first ≡ last
SignedFrom config first last (reply ∷ more) =
    ((reply.kind ≡ 0x82) × SignedFrom config first last more) ⊎ (IsSignedAt config first reply × SignedFrom config (first + 1) last more)

-- the configuration stays, and the replies are signed from the first leaf that was not used on
pub record TakesLeaves (was becomes : Standing) (replies : List Frame) : Type 0 where
  pub same : becomes.state.config ≡ was.state.config
  pub signed_from : SignedFrom was.state.config was.state.leaf becomes.state.leaf replies

-- so it is of all frames that lead from one standing to another
abbrev pub LeavesAscend : Type 0
LeavesAscend = (was becomes : Standing) (frames replies : List Frame) → Follows Turn was frames becomes replies → TakesLeaves was becomes replies
