-- What holds of envelopes and plans.
use Rattle.std.specs.Prelude.{ℕ, ◌≡◌, List, Result, Err}
use Rattle.base_types.specs.Bytes.{IsBytes}
use Rattle.item_codec.specs.Whole.{OneAnswer}
use Rattle.suit_commands.specs.declared.fault.SequenceFault.{SequenceFault}
use Rattle.suit_commands.specs.declared.fault.SequenceFault.TheVariants as sequence
use Rattle.suit_envelope.specs.declared.envelope.Envelope.{Envelope}
use Rattle.suit_envelope.specs.declared.manifest.Manifest.{Manifest}
use Rattle.suit_envelope.specs.declared.plan.Plan.{Plan}
use Rattle.suit_envelope.specs.declared.fault.EnvelopeFault.TheVariants.{Cbor, NoMemory}
use Rattle.suit_envelope.specs.Envelopes.{envelope_of, EnvelopeIs}
use Rattle.suit_envelope.specs.Proper.{HasProperFields}
use Rattle.suit_envelope.specs.Plans.{plan_of}

-- bytes are exactly one envelope, or have exactly one refusal, and never both
abbrev pub ExactlyOne : Type 0
ExactlyOne = (bytes : List ℕ) → IsBytes bytes → OneAnswer NoMemory (λ f. Cbor f) envelope_of bytes

-- an envelope that some bytes are has proper fields
abbrev pub FieldsAreProper : Type 0
FieldsAreProper = (envelope : Envelope) (bytes : List ℕ) → EnvelopeIs envelope bytes → HasProperFields envelope

-- the one answer of a manifest: a plan, or a refusal that is not want of memory
pub record OneAnswerOf (manifest : Manifest) : Type 0 where
  pub answer : Result Plan SequenceFault
  pub given : plan_of manifest ≡ answer
  pub alone : (other : Result Plan SequenceFault) → plan_of manifest ≡ other → other ≡ answer
  pub settled : answer ≡ Err sequence.NoMemory → ⊥

-- a manifest has exactly one plan, or has exactly one refusal, and never both
abbrev pub OnePlan : Type 0
OnePlan = (manifest : Manifest) → OneAnswerOf manifest
