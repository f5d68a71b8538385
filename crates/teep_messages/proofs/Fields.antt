-- The options of a message, field by field.
use Rattle.std.proofs.Common.{◌≡◌, ℕ, true, List, [], ◌∷◌, Option, Some, None, refl, ap, ◌∙◌, lit<}
use Rattle.std.specs.Prelude.{Ok}
use Rattle.std.specs.List.{AllByRecursion}
use Rattle.base_types.specs.declared.limits.TheConstants.{CHALLENGE_LEAST, CHALLENGE_LIMIT, TOKEN_LEAST, TOKEN_LIMIT}
use Rattle.cbor_core.specs.declared.item.Item.{Item}
use Rattle.cbor_core.specs.declared.item.Item.TheOpen.{Item-F}
use Rattle.cbor_core.specs.declared.item.Pair.{Pair}
use Rattle.cbor_core.specs.Views.{bytes_of, text_of, unsigned_of, field}
use Rattle.cbor_fields.specs.Views.{list_of, id_of, is_among, others}
use Rattle.cbor_fields.specs.Written.{decoded}
use Rattle.cbor_fields.proofs.Public.Placed.{Row, row, put_rows, put_none, put_row, under, none_under, rows_found, rows_others, others_all}
use Rattle.cbor_fields.proofs.Public.Values.{others_are}
use Rattle.item_codec.specs.Part.{Any, Part, Exact}
use Rattle.item_codec.specs.Fields.{shaped, sized, IsWithin}
use Rattle.item_codec.proofs.Public.Forms.{any, any_lists, unsigned_exact, bytes_exact, text_exact, list_exact, shaped_part, sized_part}
use Rattle.item_codec.proofs.Public.Kept.{Keeps, known_keeps, all_keep, known_seen, kept_part}
use Rattle.teep_messages.specs.declared.fault.MessageFault.{MessageFault}
use Rattle.teep_messages.specs.declared.fault.MessageFault.TheVariants.{Shape, Size, NoMemory}
use Rattle.teep_messages.specs.declared.options.Options.{Options}
use Rattle.teep_messages.specs.Forms.{reported_of, requested_of}
use Rattle.teep_messages.specs.Options.{labels, options_in, options_of}
use Rattle.cbor_fields.specs.Views.{IsIdentifier}
use Rattle.teep_messages.specs.Proper.{AreProperOptions}
use Rattle.teep_messages.specs.Written.{unsigned, bytes, text, array, reported, requested, option_pairs, options_item}
use Rattle.teep_messages.proofs.Values.{id_exact, reported_exact, requested_exact}

pub shape : (n : ℕ) → Shape n ≡ NoMemory → ⊥
shape n e = cc

size : (n : ℕ) → Size n ≡ NoMemory → ⊥
size n e = cc

-- a form of the fault that names the field n
pub at_field : {V : Type 0} {view : Item → Option V} {item : V → Item} {P : V → Type 0} (n : ℕ) → Exact view item P → Part NoMemory (shaped (Shape n) view) item P
at_field n form = shaped_part NoMemory (Shape n) (shape n) form

string_sized : (n least most : ℕ) → Part NoMemory (sized least most (Shape n) (Size n)) bytes (IsWithin least most)
string_sized n least most = sized_part NoMemory least most (Shape n) (Size n) (shape n) (size n)

challenge : Part NoMemory (sized CHALLENGE_LEAST CHALLENGE_LIMIT (Shape 2) (Size 2)) bytes (IsWithin CHALLENGE_LEAST CHALLENGE_LIMIT)
challenge = string_sized 2 CHALLENGE_LEAST CHALLENGE_LIMIT

token : Part NoMemory (sized TOKEN_LEAST TOKEN_LIMIT (Shape 20) (Size 20)) bytes (IsWithin TOKEN_LEAST TOKEN_LIMIT)
token = string_sized 20 TOKEN_LEAST TOKEN_LIMIT

pub number : (n : ℕ) → Part NoMemory (shaped (Shape n) unsigned_of) unsigned Any
number n = at_field n unsigned_exact

string : (n : ℕ) → Part NoMemory (shaped (Shape n) bytes_of) bytes Any
string n = at_field n bytes_exact

words : (n : ℕ) → Part NoMemory (shaped (Shape n) text_of) text Any
words n = at_field n text_exact

numbers : Part NoMemory (shaped (Shape 3) (list_of unsigned_of)) (array unsigned) (AllByRecursion Any)
numbers = at_field 3 (list_exact unsigned_exact)

reports : Part NoMemory (shaped (Shape 8) (list_of reported_of)) (array reported) (AllByRecursion (λ r. IsIdentifier r.id))
reports = at_field 8 (list_exact reported_exact)

strings : Part NoMemory (shaped (Shape 10) (list_of bytes_of)) (array bytes) (AllByRecursion Any)
strings = at_field 10 (list_exact bytes_exact)

requests : Part NoMemory (shaped (Shape 14) (list_of requested_of)) (array requested) (AllByRecursion (λ r. IsIdentifier r.id))
requests = at_field 14 (list_exact requested_exact)

ids : Part NoMemory (shaped (Shape 15) (list_of id_of)) (array decoded) (AllByRecursion IsIdentifier)
ids = at_field 15 (list_exact id_exact)

-- ---- what was read

keeps : (ps : List Pair) → Keeps NoMemory option_pairs ps (options_in ps) (others labels ps) labels AreProperOptions
keeps ps =
    known_keeps challenge 2 _ (lit< tt) refl option_pairs ps _ _ (λ _.
    known_keeps numbers 3 _ (lit< tt) refl option_pairs ps _ _ (λ _.
    known_keeps (number 6) 6 _ (lit< tt) refl option_pairs ps _ _ (λ _.
    known_keeps (string 7) 7 _ (lit< tt) refl option_pairs ps _ _ (λ _.
    known_keeps reports 8 _ (lit< tt) refl option_pairs ps _ _ (λ _.
    known_keeps strings 10 _ (lit< tt) refl option_pairs ps _ _ (λ _.
    known_keeps (words 11) 11 _ (lit< tt) refl option_pairs ps _ _ (λ _.
    known_keeps (words 12) 12 _ (lit< tt) refl option_pairs ps _ _ (λ _.
    known_keeps (words 13) 13 _ (lit< tt) refl option_pairs ps _ _ (λ _.
    known_keeps requests 14 _ (lit< tt) refl option_pairs ps _ _ (λ _.
    known_keeps ids 15 _ (lit< tt) refl option_pairs ps _ _ (λ _.
    known_keeps token 20 _ (lit< tt) refl option_pairs ps _ _ (λ _.
    all_keep NoMemory option_pairs ps _ _ refl (λ token unneeded requested _ _ _ _ reported _ _ _ challenge. record {
      challenge_size = challenge;
      token_size = token;
      reported = reported;
      requested = requested;
      unneeded = unneeded;
      other = others_are labels ps;
    })))))))))))))

-- ---- what was written

module _ (v : Options) (proper : AreProperOptions v) where
  abbrev table : List Row
  table =
      row bytes 20 v.token ∷
      row (array decoded) 15 v.unneeded ∷
      row (array requested) 14 v.requested ∷
      row text 13 v.evidence_format ∷
      row text 12 v.err_msg ∷
      row text 11 v.msg ∷
      row (array bytes) 10 v.manifests ∷
      row (array reported) 8 v.reported ∷
      row bytes 7 v.evidence ∷
      row unsigned 6 v.selected ∷
      row (array unsigned) 3 v.versions ∷
      row bytes 2 v.challenge ∷
      []

  in_table : option_pairs v ≡ put_rows table v.other
  in_table =
      put_row bytes 20 v.token _ _ _ (
      put_row (array decoded) 15 v.unneeded _ _ _ (
      put_row (array requested) 14 v.requested _ _ _ (
      put_row text 13 v.evidence_format _ _ _ (
      put_row text 12 v.err_msg _ _ _ (
      put_row text 11 v.msg _ _ _ (
      put_row (array bytes) 10 v.manifests _ _ _ (
      put_row (array reported) 8 v.reported _ _ _ (
      put_row bytes 7 v.evidence _ _ _ (
      put_row unsigned 6 v.selected _ _ _ (
      put_row (array unsigned) 3 v.versions _ _ _ (
      put_row bytes 2 v.challenge _ _ _ (
      put_none v.other))))))))))))

  found : (label : ℕ) → is_among labels (Item-F.Unsigned label) ≡ true → field label (option_pairs v) ≡ under label table
  found label among = ap (field label) in_table ∙ rows_found label table v.other (none_under label labels v.other among proper.other)

  kept : others labels (option_pairs v) ≡ v.other
  kept = ap (others labels) in_table ∙ rows_others labels table v.other (refl, (refl, (refl, (refl, (refl, (refl, (refl, (refl, (refl, (refl, (refl, (refl, tt)))))))))))) ∙ others_all labels v.other proper.other

  seen : options_in (option_pairs v) ≡ Ok v
  seen =
      known_seen challenge _ v.challenge _ v proper.challenge_size (found 2 refl) (
      known_seen numbers _ v.versions _ v (any_lists v.versions) (found 3 refl) (
      known_seen (number 6) _ v.selected _ v (any v.selected) (found 6 refl) (
      known_seen (string 7) _ v.evidence _ v (any v.evidence) (found 7 refl) (
      known_seen reports _ v.reported _ v proper.reported (found 8 refl) (
      known_seen strings _ v.manifests _ v (any_lists v.manifests) (found 10 refl) (
      known_seen (words 11) _ v.msg _ v (any v.msg) (found 11 refl) (
      known_seen (words 12) _ v.err_msg _ v (any v.err_msg) (found 12 refl) (
      known_seen (words 13) _ v.evidence_format _ v (any v.evidence_format) (found 13 refl) (
      known_seen requests _ v.requested _ v proper.requested (found 14 refl) (
      known_seen ids _ v.unneeded _ v proper.unneeded (found 15 refl) (
      known_seen token _ v.token _ v proper.token_size (found 20 refl) (
      ap (λ (ps : List Pair). Ok (record v { other = ps })) kept))))))))))))

pub options_part : Part NoMemory options_of options_item AreProperOptions
options_part = kept_part NoMemory (Shape 101) options_in option_pairs AreProperOptions labels (shape 101) keeps seen
