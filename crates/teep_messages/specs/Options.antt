-- Which options a map has, in ascending order of labels, and what is kept of all other labels.
use Rattle.std.specs.Prelude.{ℕ, List, [], ◌∷◌, Option, None, IfSome, Result, Ok}
use Rattle.base_types.specs.declared.limits.TheConstants.{CHALLENGE_LEAST, CHALLENGE_LIMIT, TOKEN_LEAST, TOKEN_LIMIT}
use Rattle.cbor_core.specs.declared.item.Item.{Item}
use Rattle.cbor_core.specs.declared.item.Pair.{Pair}
use Rattle.cbor_core.specs.Views.{unsigned_of, bytes_of, text_of, field}
use Rattle.cbor_fields.specs.Views.{id_of, list_of, others}
use Rattle.item_codec.specs.Fields.{shaped, sized, known, in_map, IsWithin}
use Rattle.teep_messages.specs.declared.options.Options.{Options}
use Rattle.teep_messages.specs.declared.fault.MessageFault.{MessageFault}
use Rattle.teep_messages.specs.declared.fault.MessageFault.TheVariants.{Shape, Size}
use Rattle.teep_messages.specs.Forms.{reported_of, requested_of}

-- a byte string that is there has so many bytes
abbrev pub IsSized : ℕ → ℕ → Option (List ℕ) → Type 0
IsSized least most bytes = IfSome bytes (IsWithin least most)

-- the labels of the table
abbrev pub labels : List ℕ
labels = 2 ∷ 3 ∷ 6 ∷ 7 ∷ 8 ∷ 10 ∷ 11 ∷ 12 ∷ 13 ∷ 14 ∷ 15 ∷ 20 ∷ []

-- no option at all
abbrev pub no_options : Options
no_options = record {
  challenge = None;
  versions = None;
  selected = None;
  evidence = None;
  reported = None;
  manifests = None;
  msg = None;
  err_msg = None;
  evidence_format = None;
  requested = None;
  unneeded = None;
  token = None;
  other = [];
}

-- the options of a map's pairs, or the first that is refused
abbrev pub options_in : List Pair → Result Options MessageFault
options_in ps =
    known (sized CHALLENGE_LEAST CHALLENGE_LIMIT (Shape 2) (Size 2)) (field 2 ps) (λ challenge.
    known (shaped (Shape 3) (list_of unsigned_of)) (field 3 ps) (λ versions.
    known (shaped (Shape 6) unsigned_of) (field 6 ps) (λ selected.
    known (shaped (Shape 7) bytes_of) (field 7 ps) (λ evidence.
    known (shaped (Shape 8) (list_of reported_of)) (field 8 ps) (λ reported.
    known (shaped (Shape 10) (list_of bytes_of)) (field 10 ps) (λ manifests.
    known (shaped (Shape 11) text_of) (field 11 ps) (λ msg.
    known (shaped (Shape 12) text_of) (field 12 ps) (λ err_msg.
    known (shaped (Shape 13) text_of) (field 13 ps) (λ evidence_format.
    known (shaped (Shape 14) (list_of requested_of)) (field 14 ps) (λ requested.
    known (shaped (Shape 15) (list_of id_of)) (field 15 ps) (λ unneeded.
    known (sized TOKEN_LEAST TOKEN_LIMIT (Shape 20) (Size 20)) (field 20 ps) (λ token.
    Ok (record {
      challenge = challenge;
      versions = versions;
      selected = selected;
      evidence = evidence;
      reported = reported;
      manifests = manifests;
      msg = msg;
      err_msg = err_msg;
      evidence_format = evidence_format;
      requested = requested;
      unneeded = unneeded;
      token = token;
      other = others labels ps;
    })))))))))))))

-- the options of an item, which is a map
abbrev pub options_of : Item → Result Options MessageFault
options_of = in_map (Shape 101) options_in
