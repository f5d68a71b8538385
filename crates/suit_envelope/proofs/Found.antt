-- The fields of an envelope that was read.
use Rattle.std.proofs.Common.{◌≡◌, ℕ, Bool, true, false, cond, List, [], ◌∷◌, Option, Some, None, refl, sym, ap, subst, ◌∙◌}
use Rattle.std.specs.Prelude.{Result, Ok, Err, ◌==◌}
use Rattle.std.specs.List.{AllByRecursion}
use Rattle.base_types.specs.Bytes.{IsBytes}
use Rattle.cbor_core.specs.declared.item.Item.{Item, out-Item}
use Rattle.cbor_core.specs.declared.item.Item.TheOpen.{Item-F}
use Rattle.cbor_core.specs.declared.item.Item.TheVariants as i
use Rattle.cbor_core.specs.declared.item.Pair.{Pair}
use Rattle.cbor_core.specs.Spelling.{HasRanges, IsInRangeBy, HasRangesWithin}
use Rattle.cbor_core.specs.Views.{bytes_of, array_of, map_of}
use Rattle.cbor_core.proofs.Public.Views.{bytes_is, map_is}
use Rattle.cbor_core.proofs.Public.Ranges.{bytes_within, bytes_in_range, fewer}
use Rattle.cbor_fields.specs.Written.{IsSpelled}
use Rattle.cbor_fields.specs.declared.fault.FormFault.TheVariants as form
use Rattle.cbor_fields.proofs.Public.Spelled.{members_spelled}
use Rattle.item_codec.specs.Answers.{and_then, or_fault, value_of}
use Rattle.item_codec.specs.Fields.{shaped, in_array, in_map}
use Rattle.item_codec.specs.Whole.{HasValue}
use Rattle.item_codec.specs.Wrapped.{item_in, wrapped}
use Rattle.item_codec.proofs.Public.Decoded.{item_spells}
use Rattle.suit_commands.specs.declared.digest.Digest.{Digest}
use Rattle.suit_commands.specs.Digests.{digest_in, wrapped_digest_of}
use Rattle.suit_envelope.specs.declared.envelope.Attached.{Attached}
use Rattle.suit_envelope.specs.declared.envelope.Envelope.{Envelope}
use Rattle.suit_envelope.specs.declared.envelope.Wrapper.{Wrapper}
use Rattle.suit_envelope.specs.declared.fault.EnvelopeFault.{EnvelopeFault}
use Rattle.suit_envelope.specs.declared.fault.EnvelopeFault.TheVariants.{Shape}
use Rattle.suit_envelope.specs.Each.{each_read}
use Rattle.suit_envelope.specs.Wrapper.{wrapper_in, wrapper_of}
use Rattle.suit_envelope.specs.Manifests.{manifest_of}
use Rattle.suit_envelope.specs.Envelopes.{is_marked, attached_by, attached_in, before, attached_of, is_kept, kept_of, envelope_in, content_by, envelope_of}
use Rattle.suit_envelope.specs.Proper.{SpellsDigest, HasProperFields}
use Rattle.suit_envelope.proofs.Again.{made}
use Rattle.suit_envelope.proofs.Back.{parts_of, ranged}

-- ---- payloads and other pairs

mark_by : (k x : Item-F Item Pair) (a : Attached) → attached_by k x ≡ Some a → is_marked a.name ≡ true
mark_by (Item-F.Text name) (Item-F.Bytes bytes) a e = by_mark (is_marked name) refl e where
  by_mark : (b : Bool) → is_marked name ≡ b → cond b (Some (record { name = name; bytes = bytes })) None ≡ Some a → is_marked a.name ≡ true
  by_mark true at h =
      let same : record { name = name; bytes = bytes } ≡ a = cc in
      ap (λ (c : Attached). is_marked c.name) (sym same) ∙ at
  by_mark false at h = absurd cc
mark_by _ _ a e = absurd cc

marks : (ps : List Pair) → AllByRecursion (λ a. is_marked a.name ≡ true) (attached_of ps)
marks [] = tt
marks (p ∷ ps) = by_case (attached_in p) refl (marks ps) where
  by_case : (o : Option Attached) → attached_in p ≡ o → AllByRecursion (λ a. is_marked a.name ≡ true) (attached_of ps) → AllByRecursion (λ a. is_marked a.name ≡ true) (before o (attached_of ps))
  by_case None at more = more
  by_case (Some a) at more = (mark_by (out-Item p.key) (out-Item p.value) a at, more)

kept_are : (ps : List Pair) → AllByRecursion (λ p. is_kept p ≡ true) (kept_of ps)
kept_are [] = tt
kept_are (p ∷ ps) = by_test (is_kept p) refl (kept_are ps) where
  by_test : (b : Bool) → is_kept p ≡ b → AllByRecursion (λ q. is_kept q ≡ true) (kept_of ps) → AllByRecursion (λ q. is_kept q ≡ true) (kept_of (p ∷ ps))
  by_test true is more = rw is (is, more)
  by_test false is more = rw is more

-- ---- the digest

digest_spelled : (d : Item) (b : List ℕ) (value : Digest) → IsBytes b → bytes_of d ≡ Some b → wrapped_digest_of d ≡ Some value → SpellsDigest b value
digest_spelled d b value are at e =
    let h : value_of (and_then (in_array form.Shape digest_in) (or_fault form.Shape (item_in b))) ≡ Some value =
    sym (ap (λ (o : Option (List ℕ)). value_of (and_then (in_array form.Shape digest_in) (and_then (λ (c : List ℕ). or_fault form.Shape (item_in c)) (or_fault form.Shape o)))) at) ∙ e in
    by_item (item_in b) refl h where
      by_item : (o : Option Item) → item_in b ≡ o → value_of (and_then (in_array form.Shape digest_in) (or_fault form.Shape o)) ≡ Some value → SpellsDigest b value
      by_item None in_b h = absurd cc
      by_item (Some y) in_b h = record { item = y; spelled = item_spells b y are in_b; is = h }

members_digest : (xs : List Item) (w : Wrapper) → AllByRecursion IsSpelled xs → wrapper_in xs ≡ Ok w → SpellsDigest w.digest_bytes w.digest
members_digest [] w all e = absurd cc
members_digest (d ∷ xs) w all e = by_parts (wrapped_digest_of d) (bytes_of d) (each_read (shaped (Shape 2) bytes_of) xs) refl refl e where
  by_parts : (o : Option Digest) (b : Option (List ℕ)) (r : Result (List (List ℕ)) EnvelopeFault) → wrapped_digest_of d ≡ o → bytes_of d ≡ b → made o b r ≡ Ok w → SpellsDigest w.digest_bytes w.digest
  by_parts None b r is at h = absurd cc
  by_parts (Some value) None r is at h = absurd cc
  by_parts (Some value) (Some b) (Err f) is at h = absurd cc
  by_parts (Some value) (Some b) (Ok bs) is at h =
      let same : record { digest = value; digest_bytes = b; blocks = bs } ≡ w = cc in
      let first = all.0 in
      let are : IsBytes b = bytes_in_range b (subst HasRanges (bytes_is d b at) first.ranges) in
      subst (λ (u : Wrapper). SpellsDigest u.digest_bytes u.digest) same (digest_spelled d b value are at is)

array_digest : (y : Item) (w : Wrapper) → IsSpelled y → in_array (Shape 2) wrapper_in y ≡ Ok w → SpellsDigest w.digest_bytes w.digest
array_digest y w s e = by_array (array_of y) refl e where
  by_array : (o : Option (List Item)) → array_of y ≡ o → and_then wrapper_in (or_fault (Shape 2) o) ≡ Ok w → SpellsDigest w.digest_bytes w.digest
  by_array None at h = absurd cc
  by_array (Some xs) at h = members_digest xs w (members_spelled y xs s at) h

-- the value of the item that a byte string wraps
value_wrapped : {V : Type 0} (n : ℕ) (view : Item → Result V EnvelopeFault) (x : Item) (b : List ℕ) (v : V) → IsBytes b → bytes_of x ≡ Some b → wrapped (Shape n) view x ≡ Ok v → HasValue view b v
value_wrapped {V} n view x b v are at e =
    let h : and_then view (or_fault (Shape n) (item_in b)) ≡ Ok v =
    sym (ap (λ (o : Option (List ℕ)). and_then view (and_then (λ (c : List ℕ). or_fault (Shape n) (item_in c)) (or_fault (Shape n) o))) at) ∙ e in
    by_item (item_in b) refl h where
      by_item : (o : Option Item) → item_in b ≡ o → and_then view (or_fault (Shape n) o) ≡ Ok v → HasValue view b v
      by_item None in_b h = absurd cc
      by_item (Some y) in_b h = record { item = y; spelled = item_spells b y are in_b; is = h }

wrapper_digest : (x : Item) (d : ℕ) (w : Wrapper) → HasRangesWithin d x → wrapper_of x ≡ Ok w → SpellsDigest w.digest_bytes w.digest
wrapper_digest x d w ranges e = by_bytes (bytes_of x) refl where
  by_bytes : (o : Option (List ℕ)) → bytes_of x ≡ o → SpellsDigest w.digest_bytes w.digest
  by_bytes None at =
      absurd (let h = sym (ap (λ (o : Option (List ℕ)). and_then (in_array (Shape 2) wrapper_in) (and_then (λ (c : List ℕ). or_fault (Shape 2) (item_in c)) (or_fault (Shape 2) o))) at) ∙ e in cc)
  by_bytes (Some b) at =
      let value = value_wrapped 2 (in_array (Shape 2) wrapper_in) x b w (bytes_within d b (subst (λ (z : Item). HasRangesWithin d z) (bytes_is x b at) ranges)) at e in
      array_digest value.item w (record { proper = value.spelled.proper; ranges = value.spelled.ranges; spelled = refl }) value.is

-- ---- the envelope

fields_in : (ps : List Pair) (v : Envelope) → AllByRecursion (λ p. HasRangesWithin 14 p.key × HasRangesWithin 14 p.value) ps → envelope_in ps ≡ Ok v → HasProperFields v
fields_in ps v ranges e =
    let p = parts_of ps v e in
    let three : IsBytes v.manifest_bytes = bytes_within 14 v.manifest_bytes (subst (λ (z : Item). HasRangesWithin 14 z) (bytes_is p.three v.manifest_bytes p.is_bytes) (ranged 3 ps p.three ranges p.at_three)) in
    let digest = wrapper_digest p.two 14 p.wrapper (ranged 2 ps p.two ranges p.at_two) p.is_wrapper in
    record {
      digest = subst (λ (b : List ℕ). SpellsDigest b v.digest) p.digest_bytes (subst (λ (d : Digest). SpellsDigest p.wrapper.digest_bytes d) p.digest digest);
      manifest = value_wrapped 3 manifest_of p.three v.manifest_bytes v.manifest three p.is_bytes p.is_manifest;
      attached = subst (λ (payloads : List Attached). AllByRecursion (λ a. is_marked a.name ≡ true) payloads) p.attached (marks ps);
      other = subst (λ (qs : List Pair). AllByRecursion (λ q. is_kept q ≡ true) qs) p.other (kept_are ps);
    }

map_fields : (y : Item) (v : Envelope) → HasRangesWithin 15 y → in_map (Shape 0) envelope_in y ≡ Ok v → HasProperFields v
map_fields y v ranges e = by_map (map_of y) refl e where
  by_map : (o : Option (List Pair)) → map_of y ≡ o → and_then envelope_in (or_fault (Shape 0) o) ≡ Ok v → HasProperFields v
  by_map None at h = absurd cc
  by_map (Some ps) at h =
      let within : IsInRangeBy (HasRangesWithin 14) (Item-F.Map ps) = subst (λ (l : Item-F Item Pair). IsInRangeBy (HasRangesWithin 14) l) (i.outs-Map ps) (subst (λ (z : Item). HasRangesWithin 15 z) (map_is y ps at) ranges) in
      fields_in ps v within.0 h

pub item_fields : (x : Item) (v : Envelope) → HasRanges x → envelope_of x ≡ Ok v → HasProperFields v
unfolding envelope_of
item_fields x v ranges e = by_layer (out-Item x) refl e where
  by_tag : (n : ℕ) (y : Item) → out-Item x ≡ Item-F.Tag n y → (b : Bool) → in_map (Shape 0) envelope_in (cond b y x) ≡ Ok v → HasProperFields v
  by_tag n y at false h = map_fields x v (fewer 15 x ranges) h
  by_tag n y at true h =
      let within : IsInRangeBy (HasRangesWithin 15) (Item-F.Tag n y) = subst (λ (l : Item-F Item Pair). IsInRangeBy (HasRangesWithin 15) l) at ranges in
      map_fields y v within.0 h

  by_layer : (l : Item-F Item Pair) → out-Item x ≡ l → in_map (Shape 0) envelope_in (content_by x l) ≡ Ok v → HasProperFields v
  by_layer (Item-F.Tag n y) at h = by_tag n y at (n == 107) h
  by_layer _ at h = map_fields x v (fewer 15 x ranges) h
