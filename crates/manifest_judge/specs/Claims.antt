-- What a manifest and its components have to be.
use Rattle.std.specs.Prelude.{ℕ, ◌≡◌, ◌≢◌, ◌<◌, List, [], ◌∷◌, length, Option, Some, IfSome, true}
use Rattle.std.specs.List.{AllByRecursion}
use Rattle.cbor_core.specs.declared.item.Item.TheVariants as i
use Rattle.cbor_core.specs.Spelling.{spelling}
use Rattle.trust_anchors.specs.declared.anchors.Anchors.{Anchors}
use Rattle.trust_anchors.specs.declared.role.Role.TheVariants.{Author}
use Rattle.trust_anchors.specs.Blocks.{VerifiedAny}
use Rattle.suit_commands.specs.declared.digest.Digest.{Digest}
use Rattle.suit_commands.specs.Digests.{hash_of}
use Rattle.suit_envelope.specs.declared.envelope.Envelope.{Envelope}
use Rattle.suit_envelope.specs.declared.manifest.Manifest.{Manifest}
use Rattle.suit_engine.specs.declared.outcome.Built.{Built}
use Rattle.device_state.specs.declared.heads.RowHead.{RowHead}
use Rattle.device_state.specs.declared.rows.ComponentRow.{ComponentRow}
use Rattle.device_state.specs.declared.rows.ManifestRow.{ManifestRow}

-- the bytes have this digest (draft-ietf-suit-manifest, "SUIT_Digest")
abbrev pub Matches : Digest → List ℕ → Type 0
Matches digest bytes = digest.bytes ≡ hash_of digest.algorithm bytes

-- ---- the envelope

-- the byte string of the manifest, its head included, has the digest of the envelope
abbrev pub HoldsDigest : Envelope → Type 0
HoldsDigest e = Matches e.digest (spelling (i.Bytes e.manifest_bytes))

-- some block, whose payload is null, is signed by an author's anchor over the bytes of the digest; the first such block and anchor are told
pub record IsSigned (anchors : Anchors) (e : Envelope) : Type 0 where
  pub block : ℕ
  pub anchor : ℕ
  pub verified : VerifiedAny anchors Author e.blocks e.digest_bytes block anchor

-- ---- the manifest among those that are kept

-- a number that is kept for the same manifest is below its own
abbrev pub IsAbove : Manifest → RowHead → Type 0
IsAbove m row = row.id ≡ m.id → row.sequence < m.sequence

-- the same of all numbers that are kept
abbrev pub IsNewer : List RowHead → Manifest → Type 0
IsNewer rows m = AllByRecursion (IsAbove m) rows

-- the identifier is none of these
abbrev pub IsNoneOf : List (List ℕ) → List ℕ → Type 0
IsNoneOf ids id = AllByRecursion (λ other. other ≢ id) ids

-- what is kept is the same manifest, or has none of these components
abbrev pub LeavesFree : List ℕ → List (List ℕ) → RowHead → Type 0
LeavesFree id ids row = row.id ≢ id → AllByRecursion (λ part. IsNoneOf ids part.id) row.components

-- no component that the manifest lists belongs to another manifest
abbrev pub IsFree : List RowHead → Manifest → Type 0
IsFree rows m = AllByRecursion (LeavesFree m.id m.components) rows

-- ---- the components

-- the bytes have the digest, and the size where one is set
pub record IsWhole (bytes : List ℕ) (digest : Digest) (size : Option ℕ) : Type 0 where
  pub matched : Matches digest bytes
  pub sized : IfSome size (λ n. length bytes ≡ n)

-- A component that is listed has bytes and a digest, and they are whole; it is kept under its identifier with both.
pub record IsMade (id : List ℕ) (built : Built) (c : ComponentRow) : Type 0 where
  pub digest : Digest
  pub id_is : c.id ≡ id
  pub bytes_are : built.bytes ≡ Some c.bytes
  pub digest_set : built.digest ≡ Some digest
  pub digest_kept : c.digest ≡ Some digest
  pub whole : IsWhole c.bytes digest built.size

-- each component that is listed is such, in the order of the list
abbrev pub AreMade : List (List ℕ) → List Built → List ComponentRow → Type 0
AreMade [] [] [] = Unit {0}
AreMade (id ∷ ids) (built ∷ more) (c ∷ cs) = IsMade id built c × AreMade ids more cs
AreMade _ _ _ = ⊥

-- the row of a manifest with these components and no others
abbrev pub row_of : Manifest → List ComponentRow → ManifestRow
row_of m components = record { id = m.id; sequence = m.sequence; present = true; components = components }
