-- The parameters, field by field.
use Rattle.std.proofs.Common.{◌≡◌, ℕ, refl}
use Rattle.std.specs.Prelude.{Ok}
use Rattle.cbor_core.specs.declared.item.Item.{Item, out-Item}
use Rattle.cbor_core.specs.declared.item.Item.TheOpen.{Item-F}
use Rattle.cbor_core.specs.declared.item.Item.TheVariants as i
use Rattle.cbor_core.specs.declared.item.Pair.{Pair}
use Rattle.cbor_core.specs.Views.{unsigned_of, bytes_of, text_of}
use Rattle.item_codec.specs.Part.{Any, Part}
use Rattle.item_codec.specs.Fields.{shaped}
use Rattle.item_codec.specs.Wrapped.{wrap}
use Rattle.item_codec.proofs.Public.Forms.{any, unsigned_exact, bytes_exact, text_exact, shaped_part}
use Rattle.item_codec.proofs.Public.Ordered.{Reads, field_reads, none_reads, first_row, next_row, no_rows, map_part}
use Rattle.suit_commands.specs.declared.fault.SequenceFault.TheVariants.{Cbor, Shape, Command, Parameter, Nesting, Index, NoMemory}
use Rattle.suit_commands.specs.declared.fault.SequenceFault.{SequenceFault}
use Rattle.cbor_heads.specs.declared.fault.Fault.{Fault}
use Rattle.suit_commands.specs.declared.parameters.Parameters.{Parameters}
use Rattle.suit_commands.specs.Digests.{wrapped_digest_of, digest_item, IsWrappableDigest}
use Rattle.suit_commands.specs.Parameters.{unknown_by, unknown, parameters_in, parameters_of, rows, parameters_item, AreProper}
use Rattle.suit_commands.specs.Law.{ParametersAreCodec}
use Rattle.suit_commands.proofs.Public.Digests.{wrapped_digest_exact}

-- no bytes are refused as this: it is neither said of their shape, nor of a number or a label, nor of where a sequence stands, nor of CBOR
pub record IsOutside (none : SequenceFault) : Type 0 where
  pub cbor : (f : Fault) → Cbor f ≡ none → ⊥
  pub shape : Shape ≡ none → ⊥
  pub command : (n : ℕ) → Command n ≡ none → ⊥
  pub parameter : (n : ℕ) → Parameter n ≡ none → ⊥
  pub nesting : Nesting ≡ none → ⊥

pub memory_outside : IsOutside NoMemory
memory_outside = record { cbor = λ f e. cc; shape = λ e. cc; command = λ n e. cc; parameter = λ n e. cc; nesting = λ e. cc }

pub index_outside : (k : ℕ) → IsOutside (Index k)
index_outside k = record { cbor = λ f e. cc; shape = λ e. cc; command = λ n e. cc; parameter = λ n e. cc; nesting = λ e. cc }

module _ (none : SequenceFault) (outside : IsOutside none) where
  unknown_told : (l : Item-F Item Pair) → unknown_by l ≡ none → ⊥
  unknown_told (Item-F.Unsigned n) e = outside.parameter n e
  unknown_told _ e = outside.shape e

  string : Part none (shaped Shape bytes_of) (λ b. i.Bytes b) Any
  string = shaped_part none Shape outside.shape bytes_exact

  text : Part none (shaped Shape text_of) (λ t. i.Text t) Any
  text = shaped_part none Shape outside.shape text_exact

  pub number : Part none (shaped Shape unsigned_of) (λ n. i.Unsigned n) Any
  number = shaped_part none Shape outside.shape unsigned_exact

  digest : Part none (shaped Shape wrapped_digest_of) (wrap digest_item) IsWrappableDigest
  digest = shaped_part none Shape outside.shape wrapped_digest_exact

  reads : Reads none rows parameters_in (λ ps. ps) AreProper
  reads =
      field_reads string 1 rows _ _ (λ _.
      field_reads string 2 rows _ _ (λ _.
      field_reads digest 3 rows _ _ (λ _.
      field_reads number 14 rows _ _ (λ _.
      field_reads string 18 rows _ _ (λ _.
      field_reads text 21 rows _ _ (λ _.
      field_reads number 22 rows _ _ (λ _.
      field_reads string 24 rows _ _ (λ _.
      none_reads none rows unknown (λ p. unknown_told (out-Item p.key)) _ _ refl (λ device source uri content size digest class vendor. digest)))))))))

  seen : (v : Parameters) → AreProper v → parameters_in (rows v) ≡ Ok v
  seen v proper =
      first_row string 1 _ _ v v.vendor (any v.vendor)
      (next_row string 2 _ _ v v.class (any v.class) 1 refl
      (next_row digest 3 _ _ v v.image_digest proper 2 refl
      (next_row number 14 _ _ v v.image_size (any v.image_size) 3 refl
      (next_row string 18 _ _ v v.content (any v.content) 14 refl
      (next_row text 21 _ _ v v.uri (any v.uri) 18 refl
      (next_row number 22 _ _ v v.source (any v.source) 21 refl
      (next_row string 24 _ _ v v.device (any v.device) 22 refl
      (no_rows 24 unknown v))))))))

  pub parameters_part : Part none parameters_of parameters_item AreProper
  parameters_part = map_part none Shape parameters_in rows AreProper outside.shape reads seen

pub parameters_are_codec : ParametersAreCodec
parameters_are_codec = parameters_part NoMemory memory_outside
