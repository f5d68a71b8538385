-- Which envelopes are read as they were written.
use Rattle.std.specs.Prelude.{ℕ, ◌≡◌, ◌⊎◌, true, List, ◌∷◌, Some}
use Rattle.std.specs.List.{AllByRecursion}
use Rattle.cbor_core.specs.declared.item.Item.{Item}
use Rattle.cbor_core.specs.Spelling.{Spells, IsProper}
use Rattle.item_codec.specs.Whole.{HasValue}
use Rattle.suit_commands.specs.declared.digest.Digest.{Digest}
use Rattle.suit_commands.specs.Digests.{digest_of}
use Rattle.suit_envelope.specs.declared.envelope.Envelope.{Envelope}
use Rattle.suit_envelope.specs.Manifests.{manifest_of}
use Rattle.suit_envelope.specs.Envelopes.{is_marked, is_kept}
use Rattle.suit_envelope.specs.Written.{tagged}

-- the bytes spell the array of the digest
pub record SpellsDigest (bytes : List ℕ) (digest : Digest) : Type 0 where
  pub item : Item
  pub spelled : Spells item bytes
  pub is : digest_of item ≡ Some digest

-- the bytes of digest and manifest spell them, names begin with `#`, and no other pair is a member or a payload
pub record HasProperFields (v : Envelope) : Type 0 where
  pub digest : SpellsDigest v.digest_bytes v.digest
  pub manifest : HasValue manifest_of v.manifest_bytes v.manifest
  pub attached : AllByRecursion (λ a. is_marked a.name ≡ true) v.attached
  pub other : AllByRecursion (λ p. is_kept p ≡ true) v.other

-- The fields keep their rules, and the tagged item is proper: at most 16 containers stand inside one another, and keys ascend (RFC 8949,
-- section 4.2.1).
pub record IsProperEnvelope (v : Envelope) : Type 0 where
  pub fields : HasProperFields v
  pub item : IsProper (tagged v)

-- what is written is the bytes themselves, or the tag and then the bytes
abbrev pub IsTaggedForm : List ℕ → List ℕ → Type 0
IsTaggedForm bytes written = (written ≡ bytes) ⊎ (written ≡ 0xd8 ∷ 0x6b ∷ bytes)
