-- What an engine holds.
use Rattle.std.specs.Prelude.{ℕ, List, Option}
use Rattle.evidence.specs.declared.ids.DeviceIds.{DeviceIds}
use Rattle.suit_envelope.specs.declared.envelope.Attached.{Attached}
use Rattle.suit_envelope.specs.declared.plan.Plan.{Plan}
use Rattle.suit_engine.specs.declared.place.Waiting.{Waiting}

-- what is run: a plan on so many components, with these payloads attached, on this device; and where the run waits, where it does
pub record Contents : Type 0 where
  pub count : ℕ
  pub plan : Plan
  pub attached : List Attached
  pub device : DeviceIds
  pub waiting : Option Waiting
