-- What a message that is said leaves.
use Rattle.std.specs.Prelude.{◌≡◌, ◌⊎◌, List, ℕ}
use Rattle.cbor_core.specs.Spelling.{Spells}
use Rattle.cose_core.specs.Sign1.{tagged}
use Rattle.board_core.specs.Contents.{View}
use Rattle.frames.specs.Frames.{frame_bytes}
use Rattle.device_state.specs.State.{State, next}
use Rattle.device_image.specs.Stands.{Stands}
use Rattle.agent_replies.specs.Signing.{signed}
use Rattle.agent_core.specs.Turns.{key_of, message_frame}

-- the bytes are a reply that carries the payload, signed at the first leaf that is not used
pub record Carries (s : State) (payload bytes : List ℕ) : Type 0 where
  pub body : List ℕ
  pub spelled : Spells (tagged (signed (key_of s.config) s.config.device.device s.leaf payload)) body
  pub bytes_are : bytes ≡ frame_bytes (message_frame body)

-- the image stands for the state with one leaf more used, and there is such a reply
pub record IsUsed (s : State) (payload image : List ℕ) : Type 0 where
  pub image_stands : Stands image (next s)
  pub bytes : List ℕ
  pub carries : Carries s payload bytes

-- a moment while the payload is said: no more was sent, and the leaf is not used yet, or is
abbrev pub WithinSaying : State → List ℕ → View → List ℕ → List ℕ → Type 0
WithinSaying s payload old sent image = (sent ≡ old.now.stream.sent) × (Stands image s ⊎ IsUsed s payload image)
