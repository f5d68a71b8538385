-- An event has one turn.
use Rattle.std.specs.Prelude.{◌≡◌, ◌<◌, ◌^◌, ℕ, List}
use Rattle.std.specs.List.{AllByRecursion}
use Rattle.base_types.specs.Bytes.{IsBytes}
use Rattle.cbor_fields.specs.Views.{IsIdentifier}
use Rattle.evidence.specs.Ids.{IsField}
use Rattle.evidence.specs.declared.ids.DeviceIds.{DeviceIds}
use Rattle.hss_sign.specs.Params.{IsProperParams}
use Rattle.device_state.specs.declared.rows.ManifestRow.{ManifestRow}
use Rattle.device_state.specs.State.{State, weight}
use Rattle.device_image.specs.Stands.{Stands}
use Rattle.frames.specs.Frames.{Frame}
use Rattle.agent_core.specs.declared.session.Session.{Session}
use Rattle.agent_core.specs.Turns.{Standing, Turn}

-- ---- one at most

-- a frame leads to one standing and one reply at most
abbrev pub OneTurn : Type 0
OneTurn = (was : Standing) (frame : Frame) (a b : Standing) (reply other : Frame) → Turn was frame a reply → Turn was frame b other → (a ≡ b) × (reply ≡ other)

-- ---- in range

-- 1 to 64 bytes, each below 256
pub record AreOctets (bytes : List ℕ) : Type 0 where
  pub are : IsBytes bytes
  pub field : IsField bytes

-- so are the three by which a device is known
pub record AreKnown (ids : DeviceIds) : Type 0 where
  pub vendor : AreOctets ids.vendor
  pub class : AreOctets ids.class
  pub device : AreOctets ids.device

-- a manifest that can be told: its identifier is one, and its sequence number has 64 bits
pub record IsTold (row : ManifestRow) : Type 0 where
  pub id : IsIdentifier row.id
  pub sequence : row.sequence < 2 ^ 64

-- what a running device is in: all that it may be asked for can be told, and its list of manifests has a length
pub record IsInRange (was : Standing) : Type 0 where
  pub ids : AreKnown was.state.config.device
  pub params : IsProperParams was.state.config.params
  pub rows : AllByRecursion IsTold was.state.rows
  pub light : weight was.state < 2 ^ 63

-- ---- one at least

-- a frame leads to this standing, and to this reply
pub record LeadsOn (was : Standing) (frame : Frame) : Type 0 where
  pub becomes : Standing
  pub reply : Frame
  pub turn : Turn was frame becomes reply

-- in range, each frame of bytes leads to a standing and a reply
abbrev pub SomeTurn : Type 0
SomeTurn = (was : Standing) (frame : Frame) → IsInRange was → IsBytes frame.body → LeadsOn was frame

-- each state for which an image stands is in range, whatever the session is
abbrev pub RangesHold : Type 0
RangesHold = (image : List ℕ) (s : State) (session : Session) → Stands image s → IsInRange (record { state = s; session = session })
