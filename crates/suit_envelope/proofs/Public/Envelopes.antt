-- Which envelope bytes are, and how bytes that are none are refused.
use Rattle.std.proofs.Common.{◌≡◌, ℕ, List}
use Rattle.cbor_heads.specs.declared.fault.Fault.{Fault}
use Rattle.item_codec.proofs.Public.Whole as whole
use Rattle.suit_envelope.specs.declared.envelope.Envelope.{Envelope}
use Rattle.suit_envelope.specs.declared.fault.EnvelopeFault.{EnvelopeFault}
use Rattle.suit_envelope.specs.declared.fault.EnvelopeFault.TheVariants.{Cbor, NoMemory}
use Rattle.suit_envelope.specs.Envelopes.{envelope_of, EnvelopeIs, RefusedAs}
use Rattle.suit_envelope.specs.Law.{ExactlyOne, FieldsAreProper}
use Rattle.suit_envelope.proofs.Settled.{envelope_settled}
use Rattle.suit_envelope.proofs.Found.{item_fields}

-- bytes are one envelope at most
pub one_envelope : (bytes : List ℕ) (v w : Envelope) → EnvelopeIs v bytes → EnvelopeIs w bytes → v ≡ w
one_envelope bytes v w is other = whole.one_value envelope_of bytes v w is other

-- and then they are not refused
pub not_both : (bytes : List ℕ) (v : Envelope) (e : EnvelopeFault) → EnvelopeIs v bytes → RefusedAs bytes e → ⊥
not_both bytes v e is refused = whole.not_both envelope_of bytes (λ f. Cbor f) v e is refused

cbor_told : (f : Fault) → Cbor f ≡ NoMemory → ⊥
cbor_told f e = cc

pub exactly_one : ExactlyOne
exactly_one bytes are = whole.one_answer NoMemory (λ f. Cbor f) cbor_told envelope_of envelope_settled bytes are

-- an envelope that was read has proper fields
pub fields_are_proper : FieldsAreProper
fields_are_proper v bytes is = item_fields is.item v is.spelled.ranges is.is
