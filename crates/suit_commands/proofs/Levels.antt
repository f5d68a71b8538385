-- Sequences inside one another: what holds of a level holds of the level round it.
use Rattle.std.proofs.Common.{◌≡◌, ℕ, zero, suc, List, refl}
use Rattle.std.specs.Prelude.{Err}
use Rattle.cbor_core.specs.declared.item.Item.TheVariants as i
use Rattle.item_codec.specs.Part.{Part}
use Rattle.item_codec.specs.Wrapped.{wrap}
use Rattle.suit_commands.specs.declared.fault.SequenceFault.{SequenceFault}
use Rattle.suit_commands.specs.declared.fault.SequenceFault.TheVariants.{Cbor, Nesting, Shape}
use Rattle.item_codec.specs.InBytes.{in_bytes}
use Rattle.suit_commands.specs.Sequences.{wrapped_sequence, sequence_by, sequence_in}
use Rattle.suit_commands.specs.Written.{members, written_in}
use Rattle.suit_commands.specs.Proper.{AreProperCommands, IsProperIn}
use Rattle.suit_commands.proofs.Fields.{IsOutside}
use Rattle.item_codec.proofs.Public.InBytes.{BytesPart, bytes_part, wrapping_part}
use Rattle.suit_commands.proofs.Members.{sequence_part}

-- ---- one level

pub none_left : (bytes : List ℕ) → sequence_in 0 bytes ≡ Err Nesting
unfolding sequence_in
none_left bytes = refl

pub one_more : (levels : ℕ) (bytes : List ℕ) → sequence_in (suc levels) bytes ≡ in_bytes (λ f. Cbor f) (sequence_by (sequence_in levels)) bytes
unfolding sequence_in
one_more levels bytes = refl

-- ---- the laws of each level

module _ (none : SequenceFault) (outside : IsOutside none) where
  abbrev pub Level : ℕ → Type 0
  Level levels = BytesPart none (sequence_in levels) (written_in levels) (IsProperIn levels)

  no_level : Level 0
  unfolding sequence_in IsProperIn
  no_level = record {
    settled = λ bytes. outside.nesting;
    fixes = λ bytes v are e. absurd cc;
    proper = λ bytes v are e. absurd cc;
    seen = λ v is. absurd is;
  }

  -- the sequence that a byte string wraps, as a part
  pub wrapped_at : (levels : ℕ) → Level levels → Part none (wrapped_sequence (sequence_in levels)) (wrap (written_in levels)) (IsProperIn levels)
  wrapped_at levels level = wrapping_part level Shape outside.shape

  next_level : (levels : ℕ) → Level levels → Level (suc levels)
  unfolding sequence_in written_in IsProperIn
  next_level levels level = bytes_part (sequence_part none outside (sequence_in levels) (written_in levels) (IsProperIn levels) (wrapped_at levels level)) (λ f. Cbor f) outside.cbor

  pub level : (levels : ℕ) → Level levels
  level zero = no_level
  level (suc levels) = next_level levels (level levels)

  -- the sequence of an item, as a part
  pub part_at : (levels : ℕ) → Part none (sequence_by (sequence_in levels)) (λ s. i.Array (members (wrap (written_in levels)) s)) (AreProperCommands (IsProperIn levels))
  part_at levels = sequence_part none outside (sequence_in levels) (written_in levels) (IsProperIn levels) (wrapped_at levels (level levels))
