-- What is written of a proper envelope is read as it.
use Rattle.std.proofs.Common.{◌≡◌, ℕ, zero, suc, Bool, true, false, cond, List, [], ◌∷◌, ◌++◌, take, drop, map, Option, Some, None, refl, ap, ◌∙◌}
use Rattle.std.specs.Prelude.{Result, Ok, not, ◌&&◌}
use Rattle.std.specs.List.{AllByRecursion}
use Rattle.cbor_core.specs.declared.item.Item.{Item, out-Item}
use Rattle.cbor_core.specs.declared.item.Item.TheOpen.{Item-F}
use Rattle.cbor_core.specs.declared.item.Item.TheVariants as i
use Rattle.cbor_core.specs.declared.item.Pair.{Pair}
use Rattle.cbor_core.specs.Spelling.{Spells, spelling}
use Rattle.cbor_core.specs.Views.{bytes_of, field}
use Rattle.cbor_core.proofs.Public.Views.{bytes_back, array_back, map_back}
use Rattle.cbor_fields.specs.Views.{is_other, is_among}
use Rattle.cbor_fields.specs.Written.{labelled, is_below, put}
use Rattle.cbor_fields.specs.declared.fault.FormFault.{FormFault}
use Rattle.cbor_fields.specs.declared.fault.FormFault.TheVariants as form
use Rattle.cbor_fields.proofs.Public.Placed.{put_found, put_skipped}
use Rattle.cbor_fields.proofs.Public.Puts.{put_end, put_behind, put_here}
use Rattle.item_codec.specs.Answers.{and_then, mapped, or_fault, value_of}
use Rattle.item_codec.specs.Fields.{shaped, needed_at, in_array, in_map}
use Rattle.item_codec.specs.Wrapped.{wrapped, wrap}
use Rattle.item_codec.proofs.Public.Decoded.{content_is}
use Rattle.suit_commands.specs.declared.digest.Digest.{Digest}
use Rattle.suit_commands.specs.Digests.{digest_in, wrapped_digest_of}
use Rattle.suit_envelope.specs.declared.envelope.Attached.{Attached}
use Rattle.suit_envelope.specs.declared.envelope.Envelope.{Envelope}
use Rattle.suit_envelope.specs.declared.envelope.Wrapper.{Wrapper}
use Rattle.suit_envelope.specs.declared.manifest.Manifest.{Manifest}
use Rattle.suit_envelope.specs.declared.fault.EnvelopeFault.{EnvelopeFault}
use Rattle.suit_envelope.specs.declared.fault.EnvelopeFault.TheVariants.{Shape}
use Rattle.suit_envelope.specs.Each.{each_read}
use Rattle.suit_envelope.specs.Wrapper.{wrapper_in, wrapper_of}
use Rattle.suit_envelope.specs.Manifests.{manifest_of}
use Rattle.suit_envelope.specs.Envelopes.{is_marked, attached_by, attached_in, before, attached_of, labels, is_attached_by, is_attached, is_kept, kept_of, envelope_in, content_by, envelope_of, EnvelopeIs}
use Rattle.suit_envelope.specs.Written.{wrapper_members, wrapper_item, attached_pair, place_of, merged, envelope_pairs, untagged, tagged}
use Rattle.suit_envelope.specs.Proper.{HasProperFields}
use Rattle.suit_envelope.proofs.Parting.{attached_more, kept_more}

-- ---- the wrapper

blocks_again : (bs : List (List ℕ)) → each_read (shaped (Shape 2) bytes_of) (map (λ (b : List ℕ). i.Bytes b) bs) ≡ Ok bs
blocks_again [] = refl
blocks_again (b ∷ bs) =
    ap (λ (o : Option (List ℕ)). and_then (λ (c : List ℕ). mapped (λ (cs : List (List ℕ)). c ∷ cs) (each_read (shaped (Shape 2) bytes_of) (map (λ (b : List ℕ). i.Bytes b) bs))) (or_fault (Shape 2) o)) (bytes_back b)
    ∙ ap (λ (r : Result (List (List ℕ)) EnvelopeFault). mapped (λ (cs : List (List ℕ)). b ∷ cs) r) (blocks_again bs)

-- the wrapper of its parts
abbrev pub made : Option Digest → Option (List ℕ) → Result (List (List ℕ)) EnvelopeFault → Result Wrapper EnvelopeFault
made digest bytes blocks =
    and_then (λ (value : Digest). and_then (λ (b : List ℕ). mapped (λ (bs : List (List ℕ)). record { digest = value; digest_bytes = b; blocks = bs }) blocks) (or_fault (Shape 2) bytes)) (or_fault (Shape 2) digest)

-- the envelope of its parts
abbrev pub built : List Attached → List Pair → Result Wrapper EnvelopeFault → Result Manifest EnvelopeFault → Result (List ℕ) EnvelopeFault → Result Envelope EnvelopeFault
built attached other wrapper manifest bytes =
    and_then (λ (w : Wrapper). and_then (λ (m : Manifest). and_then (λ (b : List ℕ). Ok (record {
      digest = w.digest;
      digest_bytes = w.digest_bytes;
      blocks = w.blocks;
      manifest_bytes = b;
      manifest = m;
      attached = attached;
      other = other;
    })) bytes) manifest) wrapper

-- ---- what is attached, and what is kept

not_attached_by : (k x : Item-F Item Pair) → is_attached_by k x ≡ false → attached_by k x ≡ None
not_attached_by (Item-F.Text name) (Item-F.Bytes bytes) is = ap (λ (b : Bool). cond b (Some (record { name = name; bytes = bytes })) None) is
not_attached_by _ _ is = refl

kept_false : (p : Pair) (b c : Bool) → is_other labels p ≡ b → is_attached p ≡ c → b && not c ≡ true → c ≡ false
kept_false p true true _ _ is = absurd cc
kept_false p true false _ _ is = refl
kept_false p false c _ _ is = absurd cc

pub not_attached : (p : Pair) → is_kept p ≡ true → attached_in p ≡ None
not_attached p is = not_attached_by (out-Item p.key) (out-Item p.value) (kept_false p (is_other labels p) (is_attached p) refl refl is)

none_attached : (ps : List Pair) → AllByRecursion (λ p. is_kept p ≡ true) ps → attached_of ps ≡ []
none_attached [] all = refl
none_attached (p ∷ ps) all = ap (λ (o : Option Attached). before o (attached_of ps)) (not_attached p all.0) ∙ none_attached ps all.1

all_kept : (ps : List Pair) → AllByRecursion (λ p. is_kept p ≡ true) ps → kept_of ps ≡ ps
all_kept [] all = refl
all_kept (p ∷ ps) all = let is : is_kept p ≡ true = all.0 in rw is (ap (λ (qs : List Pair). p ∷ qs) (all_kept ps all.1))

front : (n : ℕ) (ps : List Pair) → AllByRecursion (λ p. is_kept p ≡ true) ps → AllByRecursion (λ p. is_kept p ≡ true) (take n ps)
front zero ps all = tt
front (suc n) [] all = tt
front (suc n) (p ∷ ps) all = (all.0, front n ps all.1)

behind : (n : ℕ) (ps : List Pair) → AllByRecursion (λ p. is_kept p ≡ true) ps → AllByRecursion (λ p. is_kept p ≡ true) (drop n ps)
behind zero ps all = all
behind (suc n) [] all = tt
behind (suc n) (p ∷ ps) all = behind n ps all.1

joined : (n : ℕ) (ps : List Pair) → take n ps ++ drop n ps ≡ ps
joined zero ps = refl
joined (suc n) [] = refl
joined (suc n) (p ∷ ps) = ap (λ (qs : List Pair). p ∷ qs) (joined n ps)

-- the pair of a payload attaches it
pub pair_attaches : (a : Attached) → is_marked a.name ≡ true → attached_in (attached_pair a) ≡ Some a
pair_attaches a is = rw (i.outs-Text, i.outs-Bytes, is) refl

pair_not_kept : (a : Attached) → is_marked a.name ≡ true → is_kept (attached_pair a) ≡ false
pair_not_kept a is = rw (i.outs-Text, i.outs-Bytes, is) refl

attached_merged : (payloads : List Attached) (ps : List Pair) → AllByRecursion (λ a. is_marked a.name ≡ true) payloads → AllByRecursion (λ p. is_kept p ≡ true) ps
    → attached_of (merged payloads ps) ≡ payloads
attached_merged [] ps marks all = none_attached ps all
attached_merged (a ∷ payloads) ps marks all =
    let n = place_of a.name ps in
    let M = merged payloads (drop n ps) in
    attached_more (take n ps) (attached_pair a ∷ M)
    ∙ ap (λ (bs : List Attached). bs ++ attached_of (attached_pair a ∷ M)) (none_attached (take n ps) (front n ps all))
    ∙ ap (λ (o : Option Attached). before o (attached_of M)) (pair_attaches a marks.0)
    ∙ ap (λ (bs : List Attached). a ∷ bs) (attached_merged payloads (drop n ps) marks.1 (behind n ps all))

skipped : (p : Pair) (ps : List Pair) → is_kept p ≡ false → kept_of (p ∷ ps) ≡ kept_of ps
skipped p ps is = rw is refl

kept_merged : (payloads : List Attached) (ps : List Pair) → AllByRecursion (λ a. is_marked a.name ≡ true) payloads → AllByRecursion (λ p. is_kept p ≡ true) ps
    → kept_of (merged payloads ps) ≡ ps
kept_merged [] ps marks all = all_kept ps all
kept_merged (a ∷ payloads) ps marks all =
    let n = place_of a.name ps in
    let M = merged payloads (drop n ps) in
    kept_more (take n ps) (attached_pair a ∷ M)
    ∙ ap (λ (qs : List Pair). qs ++ kept_of (attached_pair a ∷ M)) (all_kept (take n ps) (front n ps all))
    ∙ ap (λ (qs : List Pair). take n ps ++ qs) (skipped (attached_pair a) M (pair_not_kept a marks.0) ∙ kept_merged payloads (drop n ps) marks.1 (behind n ps all))
    ∙ joined n ps

label_not_attached : (label : ℕ) (x : Item) → attached_in (labelled label x) ≡ None
label_not_attached label x = rw i.outs-Unsigned refl

label_not_kept : (label : ℕ) (x : Item) → is_among labels (Item-F.Unsigned label) ≡ true → is_kept (labelled label x) ≡ false
label_not_kept label x is = rw (i.outs-Unsigned, is) refl

attached_here : (label : ℕ) (x : Item) (ps : List Pair) → attached_of (labelled label x ∷ ps) ≡ attached_of ps
attached_here label x ps = ap (λ (o : Option Attached). before o (attached_of ps)) (label_not_attached label x)

attached_put : (label : ℕ) (x : Item) (ps : List Pair) → attached_of (put label x ps) ≡ attached_of ps
attached_put label x [] = ap attached_of (put_end label x) ∙ attached_here label x []
attached_put label x (p ∷ ps) = by_test (is_below label p) refl (attached_put label x ps) where
  by_test : (b : Bool) → is_below label p ≡ b → attached_of (put label x ps) ≡ attached_of ps → attached_of (put label x (p ∷ ps)) ≡ attached_of (p ∷ ps)
  by_test true is more = ap attached_of (put_behind label x p ps is) ∙ ap (before (attached_in p)) more
  by_test false is more = ap attached_of (put_here label x p ps is) ∙ attached_here label x (p ∷ ps)

kept_front : (p : Pair) (qs rs : List Pair) → kept_of qs ≡ kept_of rs → kept_of (p ∷ qs) ≡ kept_of (p ∷ rs)
kept_front p qs rs same = by_test (is_kept p) refl where
  by_test : (b : Bool) → is_kept p ≡ b → kept_of (p ∷ qs) ≡ kept_of (p ∷ rs)
  by_test true is = rw is (ap (λ (ts : List Pair). p ∷ ts) same)
  by_test false is = rw is same

kept_put : (label : ℕ) (x : Item) (ps : List Pair) → is_among labels (Item-F.Unsigned label) ≡ true → kept_of (put label x ps) ≡ kept_of ps
kept_put label x [] among = ap kept_of (put_end label x) ∙ skipped (labelled label x) [] (label_not_kept label x among)
kept_put label x (p ∷ ps) among = by_test (is_below label p) refl (kept_put label x ps among) where
  by_test : (b : Bool) → is_below label p ≡ b → kept_of (put label x ps) ≡ kept_of ps → kept_of (put label x (p ∷ ps)) ≡ kept_of (p ∷ ps)
  by_test true is more = ap kept_of (put_behind label x p ps is) ∙ kept_front p (put label x ps) ps more
  by_test false is more = ap kept_of (put_here label x p ps is) ∙ skipped (labelled label x) (p ∷ ps) (label_not_kept label x among)

-- ---- the envelope

module _ (v : Envelope) (proper : HasProperFields v) (spelled : Spells (wrapper_item v) (spelling (wrapper_item v))) where
  digest_again : wrapped_digest_of (i.Bytes v.digest_bytes) ≡ Some v.digest
  digest_again =
      ap (λ (r : Result Item FormFault). value_of (and_then (in_array form.Shape digest_in) r)) (content_is form.Shape (i.Bytes v.digest_bytes) v.digest_bytes proper.digest.item (bytes_back v.digest_bytes) proper.digest.spelled)
      ∙ proper.digest.is

  abbrev wrapper : Wrapper
  wrapper = record { digest = v.digest; digest_bytes = v.digest_bytes; blocks = v.blocks }

  parts_again : wrapper_in (wrapper_members v) ≡ Ok wrapper
  parts_again =
      ap (λ (o : Option Digest). made o (bytes_of (i.Bytes v.digest_bytes)) (each_read (shaped (Shape 2) bytes_of) (map (λ (b : List ℕ). i.Bytes b) v.blocks))) digest_again
      ∙ ap (λ (o : Option (List ℕ)). made (Some v.digest) o (each_read (shaped (Shape 2) bytes_of) (map (λ (b : List ℕ). i.Bytes b) v.blocks))) (bytes_back v.digest_bytes)
      ∙ ap (made (Some v.digest) (Some v.digest_bytes)) (blocks_again v.blocks)

  wrapper_again : wrapper_of (wrap wrapper_item v) ≡ Ok wrapper
  wrapper_again =
      ap (and_then (in_array (Shape 2) wrapper_in)) (content_is (Shape 2) (wrap wrapper_item v) (spelling (wrapper_item v)) (wrapper_item v) (bytes_back (spelling (wrapper_item v))) spelled)
      ∙ ap (λ (o : Option (List Item)). and_then wrapper_in (or_fault (Shape 2) o)) (array_back (wrapper_members v)) ∙ parts_again

  manifest_again : wrapped (Shape 3) manifest_of (i.Bytes v.manifest_bytes) ≡ Ok v.manifest
  manifest_again = ap (and_then manifest_of) (content_is (Shape 3) (i.Bytes v.manifest_bytes) v.manifest_bytes proper.manifest.item (bytes_back v.manifest_bytes) proper.manifest.spelled) ∙ proper.manifest.is

  abbrev inner : List Pair
  inner = put 2 (wrap wrapper_item v) (merged v.attached v.other)

  at_two : field 2 (envelope_pairs v) ≡ Some (wrap wrapper_item v)
  at_two = put_skipped 2 3 (i.Bytes v.manifest_bytes) inner refl ∙ put_found 2 (wrap wrapper_item v) (merged v.attached v.other)

  at_three : field 3 (envelope_pairs v) ≡ Some (i.Bytes v.manifest_bytes)
  at_three = put_found 3 (i.Bytes v.manifest_bytes) inner

  attached_is : attached_of (envelope_pairs v) ≡ v.attached
  attached_is = attached_put 3 (i.Bytes v.manifest_bytes) inner ∙ attached_put 2 (wrap wrapper_item v) (merged v.attached v.other) ∙ attached_merged v.attached v.other proper.attached proper.other

  kept_is : kept_of (envelope_pairs v) ≡ v.other
  kept_is = kept_put 3 (i.Bytes v.manifest_bytes) inner refl ∙ kept_put 2 (wrap wrapper_item v) (merged v.attached v.other) refl ∙ kept_merged v.attached v.other proper.attached proper.other

  envelope_again : envelope_in (envelope_pairs v) ≡ Ok v
  envelope_again =
      ap (λ (o : Option Item). built (attached_of (envelope_pairs v)) (kept_of (envelope_pairs v)) (needed_at wrapper_of (Shape 2) o) (needed_at (wrapped (Shape 3) manifest_of) (Shape 3) (field 3 (envelope_pairs v)))
      (needed_at (shaped (Shape 3) bytes_of) (Shape 3) (field 3 (envelope_pairs v)))) at_two
      ∙ ap (λ (o : Option Item). built (attached_of (envelope_pairs v)) (kept_of (envelope_pairs v)) (wrapper_of (wrap wrapper_item v))
      (needed_at (wrapped (Shape 3) manifest_of) (Shape 3) o) (needed_at (shaped (Shape 3) bytes_of) (Shape 3) o)) at_three
      ∙ ap (λ (r : Result Wrapper EnvelopeFault). built (attached_of (envelope_pairs v)) (kept_of (envelope_pairs v)) r
      (wrapped (Shape 3) manifest_of (i.Bytes v.manifest_bytes)) (shaped (Shape 3) bytes_of (i.Bytes v.manifest_bytes))) wrapper_again
      ∙ ap (λ (r : Result Manifest EnvelopeFault). built (attached_of (envelope_pairs v)) (kept_of (envelope_pairs v)) (Ok wrapper) r (shaped (Shape 3) bytes_of (i.Bytes v.manifest_bytes))) manifest_again
      ∙ ap (λ (o : Option (List ℕ)). built (attached_of (envelope_pairs v)) (kept_of (envelope_pairs v)) (Ok wrapper) (Ok v.manifest) (or_fault (Shape 3) o)) (bytes_back v.manifest_bytes)
      ∙ ap (λ (payloads : List Attached). Ok (record v { attached = payloads; other = kept_of (envelope_pairs v) })) attached_is
      ∙ ap (λ (ps : List Pair). Ok (record v { other = ps })) kept_is

  item_again : envelope_of (tagged v) ≡ Ok v
  unfolding envelope_of
  item_again =
      ap (λ (l : Item-F Item Pair). in_map (Shape 0) envelope_in (content_by (tagged v) l)) (i.outs-Tag 107 (untagged v))
      ∙ ap (λ (o : Option (List Pair)). and_then envelope_in (or_fault (Shape 0) o)) (map_back (envelope_pairs v)) ∙ envelope_again

  pub read_again : (bytes : List ℕ) → Spells (tagged v) bytes → EnvelopeIs v bytes
  read_again bytes s = record { item = tagged v; spelled = s; is = item_again }
