-- An item that is an envelope is the one that the envelope is written as, with the tag or without.
use Rattle.std.proofs.Common.{◌≡◌, ◌⊎◌, ℕ, suc, ◌+◌, Bool, true, false, cond, List, [], ◌∷◌, ◌++◌, take, drop, map, Option, Some, None, refl, sym, ap, subst, ◌∙◌, inl, inr, lit<, arith}
use Rattle.std.specs.Prelude.{Result, Ok, Err, IfOk, ◌==◌, not, ◌&&◌}
use Rattle.std.specs.List.{AllByRecursion}
use Rattle.std.proofs.lemmas.Bool.{eqb-true}
use Rattle.base_types.specs.Bytes.{IsBytes}
use Rattle.cbor_core.specs.declared.item.Item.{Item, out-Item}
use Rattle.cbor_core.specs.declared.item.Item.TheOpen.{Item-F}
use Rattle.cbor_core.specs.declared.item.Item.TheVariants as i
use Rattle.cbor_core.specs.declared.item.Item.TheViews.{roll-Item, roll-out-Item}
use Rattle.cbor_core.specs.declared.item.Pair.{Pair}
use Rattle.cbor_core.specs.Spelling.{Spells, spelling, bytes_below, KeysAscend, IsProper, IsInRangeBy, HasRangesWithin}
use Rattle.cbor_core.specs.Views.{bytes_of, array_of, map_of, field, labelled_by}
use Rattle.cbor_core.proofs.Public.Views.{bytes_is, array_is, map_is}
use Rattle.cbor_core.proofs.Public.Ranges.{bytes_within, fewer}
use Rattle.cbor_core.proofs.Public.Parts.{parts_are_proper}
use Rattle.cbor_core.proofs.Public.Spell.{spelling_Tag}
use Rattle.cbor_heads.proofs.Public.Heads.{head_8}
use Rattle.base_types.specs.declared.memory.NoMemory.{NoMemory as WantOfMemory}
use Rattle.cbor_fields.specs.Views.{is_among, is_other, others}
use Rattle.cbor_fields.proofs.Public.Puts.{put_option, restored}
use Rattle.cbor_fields.proofs.Public.Fields.{all_others}
use Rattle.item_codec.specs.Answers.{and_then, mapped, or_fault}
use Rattle.item_codec.specs.Fields.{shaped, needed_at, in_array, in_map}
use Rattle.item_codec.specs.Wrapped.{item_in, wrapped, wrap}
use Rattle.item_codec.proofs.Public.Decoded.{item_spells}
use Rattle.suit_commands.specs.declared.digest.Digest.{Digest}
use Rattle.suit_commands.specs.Digests.{wrapped_digest_of}
use Rattle.suit_envelope.specs.declared.envelope.Attached.{Attached}
use Rattle.suit_envelope.specs.declared.envelope.Envelope.{Envelope}
use Rattle.suit_envelope.specs.declared.envelope.Wrapper.{Wrapper}
use Rattle.suit_envelope.specs.declared.manifest.Manifest.{Manifest}
use Rattle.suit_envelope.specs.declared.fault.EnvelopeFault.{EnvelopeFault}
use Rattle.suit_envelope.specs.declared.fault.EnvelopeFault.TheVariants.{Shape}
use Rattle.suit_envelope.specs.Each.{each_read}
use Rattle.suit_envelope.specs.Wrapper.{wrapper_in, wrapper_of}
use Rattle.suit_envelope.specs.Manifests.{manifest_of}
use Rattle.suit_envelope.specs.Envelopes.{is_marked, attached_by, attached_in, before, attached_of, labels, is_attached_by, is_attached, is_kept, kept_of, envelope_in, content_by, envelope_of, EnvelopeIs}
use Rattle.suit_envelope.specs.Written.{stands_before, attached_pair, place_of, merged, envelope_pairs, untagged, tagged, wrapper_item}
use Rattle.suit_envelope.proofs.Below.{AreAbove, not_both, ascend_above}
use Rattle.suit_envelope.specs.Proper.{IsProperEnvelope, IsTaggedForm}
use Rattle.suit_envelope.proofs.Again.{made, built, not_attached, read_again}

-- ---- the wrapper

-- the array of a wrapper
abbrev pub array_item : Wrapper → Item
array_item w = i.Array (i.Bytes w.digest_bytes ∷ map (λ (b : List ℕ). i.Bytes b) w.blocks)

blocks_are : (xs : List Item) (bs : List (List ℕ)) → each_read (shaped (Shape 2) bytes_of) xs ≡ Ok bs → xs ≡ map (λ (b : List ℕ). i.Bytes b) bs
blocks_are [] bs e = let same : [] ≡ bs = cc in ap (λ (cs : List (List ℕ)). map (λ (b : List ℕ). i.Bytes b) cs) same
blocks_are (x ∷ xs) bs e = by_first (bytes_of x) refl (λ cs h. blocks_are xs cs h) e where
  by_rest : (b : List ℕ) → bytes_of x ≡ Some b → ((cs : List (List ℕ)) → each_read (shaped (Shape 2) bytes_of) xs ≡ Ok cs → xs ≡ map (λ (b : List ℕ). i.Bytes b) cs) → (r : Result (List (List ℕ)) EnvelopeFault)
      → each_read (shaped (Shape 2) bytes_of) xs ≡ r → mapped (λ (cs : List (List ℕ)). b ∷ cs) r ≡ Ok bs → x ∷ xs ≡ map (λ (b : List ℕ). i.Bytes b) bs
  by_rest b at more (Err f) is h = absurd cc
  by_rest b at more (Ok cs) is h =
      let same : b ∷ cs ≡ bs = cc in
      ap (λ (y : Item). y ∷ xs) (bytes_is x b at) ∙ ap (λ (ys : List Item). i.Bytes b ∷ ys) (more cs is) ∙ ap (λ (ds : List (List ℕ)). map (λ (b : List ℕ). i.Bytes b) ds) same

  by_first : (o : Option (List ℕ)) → bytes_of x ≡ o → ((cs : List (List ℕ)) → each_read (shaped (Shape 2) bytes_of) xs ≡ Ok cs → xs ≡ map (λ (b : List ℕ). i.Bytes b) cs)
      → and_then (λ (b : List ℕ). mapped (λ (cs : List (List ℕ)). b ∷ cs) (each_read (shaped (Shape 2) bytes_of) xs)) (or_fault (Shape 2) o) ≡ Ok bs → x ∷ xs ≡ map (λ (b : List ℕ). i.Bytes b) bs
  by_first None at more h = absurd cc
  by_first (Some b) at more h = by_rest b at more (each_read (shaped (Shape 2) bytes_of) xs) refl h

members_are : (xs : List Item) (w : Wrapper) → wrapper_in xs ≡ Ok w → i.Array xs ≡ array_item w
members_are [] w e = absurd cc
members_are (d ∷ xs) w e = by_parts (wrapped_digest_of d) (bytes_of d) (each_read (shaped (Shape 2) bytes_of) xs) refl refl e where
  by_parts : (o : Option Digest) (b : Option (List ℕ)) (r : Result (List (List ℕ)) EnvelopeFault) → bytes_of d ≡ b → each_read (shaped (Shape 2) bytes_of) xs ≡ r
      → made o b r ≡ Ok w → i.Array (d ∷ xs) ≡ array_item w
  by_parts None b r at is h = absurd cc
  by_parts (Some value) None r at is h = absurd cc
  by_parts (Some value) (Some b) (Err f) at is h = absurd cc
  by_parts (Some value) (Some b) (Ok bs) at is h =
      let same : record { digest = value; digest_bytes = b; blocks = bs } ≡ w = cc in
      ap (λ (y : Item). i.Array (y ∷ xs)) (bytes_is d b at) ∙ ap (λ (ys : List Item). i.Array (i.Bytes b ∷ ys)) (blocks_are xs bs is) ∙ ap array_item same

content_array : (y : Item) (w : Wrapper) → in_array (Shape 2) wrapper_in y ≡ Ok w → y ≡ array_item w
content_array y w e = by_array (array_of y) refl e where
  by_array : (o : Option (List Item)) → array_of y ≡ o → and_then wrapper_in (or_fault (Shape 2) o) ≡ Ok w → y ≡ array_item w
  by_array None at h = absurd cc
  by_array (Some xs) at h = array_is y xs at ∙ members_are xs w h

wrapper_is : (x : Item) (d : ℕ) (w : Wrapper) → HasRangesWithin d x → wrapper_of x ≡ Ok w → x ≡ i.Bytes (spelling (array_item w))
wrapper_is x d w ranges e = by_bytes (bytes_of x) refl e where
  by_item : (b : List ℕ) → bytes_of x ≡ Some b → (o : Option Item) → item_in b ≡ o → and_then (in_array (Shape 2) wrapper_in) (or_fault (Shape 2) o) ≡ Ok w → x ≡ i.Bytes (spelling (array_item w))
  by_item b at None in_b h = absurd cc
  by_item b at (Some y) in_b h =
      let are : IsBytes b = bytes_within d b (subst (λ (z : Item). HasRangesWithin d z) (bytes_is x b at) ranges) in
      let s = item_spells b y are in_b in
      bytes_is x b at ∙ ap (λ (t : List ℕ). i.Bytes t) (s.spelled ∙ ap spelling (content_array y w h))

  by_bytes : (o : Option (List ℕ)) → bytes_of x ≡ o → and_then (in_array (Shape 2) wrapper_in) (and_then (λ (b : List ℕ). or_fault (Shape 2) (item_in b)) (or_fault (Shape 2) o)) ≡ Ok w
      → x ≡ i.Bytes (spelling (array_item w))
  by_bytes None at h = absurd cc
  by_bytes (Some b) at h = by_item b at (item_in b) refl h

-- ---- what is parted is merged again

-- all names are above these bytes
abbrev AreNamed : List ℕ → List Attached → Type 0
AreNamed last payloads = AllByRecursion (λ a. bytes_below last (spelling (i.Text a.name)) ≡ true) payloads

-- the pair that attaches a payload is the payload's
pair_by : (k x : Item-F Item Pair) (a : Attached) → attached_by k x ≡ Some a → record { key = roll-Item k; value = roll-Item x } ≡ attached_pair a
pair_by (Item-F.Text name) (Item-F.Bytes bytes) a e = by_mark (is_marked name) e where
  by_mark : (b : Bool) → cond b (Some (record { name = name; bytes = bytes })) None ≡ Some a → record { key = roll-Item (Item-F.Text name); value = roll-Item (Item-F.Bytes bytes) } ≡ attached_pair a
  by_mark true h =
      let same : record { name = name; bytes = bytes } ≡ a = cc in
      ap (λ (y : Item). record { key = y; value = roll-Item (Item-F.Bytes bytes) }) (i.rolls-Text name) ∙ ap (λ (y : Item). record { key = i.Text name; value = y }) (i.rolls-Bytes bytes) ∙ ap attached_pair same
  by_mark false h = absurd cc
pair_by _ _ a e = absurd cc

pair_is : (p : Pair) (a : Attached) → attached_in p ≡ Some a → p ≡ attached_pair a
pair_is p a e =
    ap (λ (y : Item). record { key = y; value = p.value }) (sym (roll-out-Item p.key)) ∙ ap (λ (y : Item). record { key = roll-Item (out-Item p.key); value = y }) (sym (roll-out-Item p.value))
    ∙ pair_by (out-Item p.key) (out-Item p.value) a e

kept_above : (last : List ℕ) (ps : List Pair) → AreAbove last ps → AreAbove last (kept_of ps)
kept_above last [] all = tt
kept_above last (p ∷ ps) all = by_test (is_kept p) refl (kept_above last ps all.1) where
  by_test : (b : Bool) → is_kept p ≡ b → AreAbove last (kept_of ps) → AreAbove last (kept_of (p ∷ ps))
  by_test true is more = rw is (all.0, more)
  by_test false is more = rw is more

named_above : (last : List ℕ) (ps : List Pair) → AreAbove last ps → AreNamed last (attached_of ps)
named_above last [] all = tt
named_above last (p ∷ ps) all = by_case (attached_in p) refl (named_above last ps all.1) where
  by_case : (o : Option Attached) → attached_in p ≡ o → AreNamed last (attached_of ps) → AreNamed last (before o (attached_of ps))
  by_case None is more = more
  by_case (Some a) is more = (subst (λ (q : Pair). bytes_below last (spelling q.key) ≡ true) (pair_is p a is) all.0, more)

-- no pair above a name stands before it
none_before : (name : List ℕ) (ps : List Pair) → AreAbove (spelling (i.Text name)) ps → place_of name ps ≡ 0
none_before name [] all = refl
none_before name (p ∷ ps) all = by_test (stands_before name p) refl where
  by_test : (b : Bool) → stands_before name p ≡ b → place_of name (p ∷ ps) ≡ 0
  by_test true is = absurd (not_both (spelling (i.Text name)) (spelling p.key) all.0 is)
  by_test false is = rw is refl

payload_first : (a : Attached) (payloads : List Attached) (ps : List Pair) → AreAbove (spelling (i.Text a.name)) ps → merged (a ∷ payloads) ps ≡ attached_pair a ∷ merged payloads ps
payload_first a payloads ps all = ap (λ (n : ℕ). take n ps ++ attached_pair a ∷ merged payloads (drop n ps)) (none_before a.name ps all)

one_more : (n : ℕ) → 1 + n ≡ suc n
one_more n = omega arith

pair_first : (p : Pair) (payloads : List Attached) (ps : List Pair) → AreNamed (spelling p.key) payloads → merged payloads (p ∷ ps) ≡ p ∷ merged payloads ps
pair_first p [] ps all = refl
pair_first p (a ∷ payloads) ps all =
    let is : stands_before a.name p ≡ true = all.0 in
    let at : place_of a.name (p ∷ ps) ≡ suc (place_of a.name ps) = rw is (one_more (place_of a.name ps)) in
    ap (λ (n : ℕ). take n (p ∷ ps) ++ attached_pair a ∷ merged payloads (drop n (p ∷ ps))) at

-- a pair that attaches a payload has no label, and is not kept
attached_yes : (p : Pair) (a : Attached) → attached_in p ≡ Some a → is_attached p ≡ true
attached_yes p a e = by_layers (out-Item p.key) (out-Item p.value) e where
  by_layers : (k x : Item-F Item Pair) → attached_by k x ≡ Some a → is_attached_by k x ≡ true
  by_layers (Item-F.Text name) (Item-F.Bytes bytes) h = by_mark (is_marked name) h where
    by_mark : (b : Bool) → cond b (Some (record { name = name; bytes = bytes })) None ≡ Some a → b ≡ true
    by_mark true g = refl
    by_mark false g = absurd cc
  by_layers _ _ h = absurd cc

text_other : (ns : List ℕ) (p : Pair) (a : Attached) → attached_in p ≡ Some a → is_among ns (out-Item p.key) ≡ false
text_other ns p a e = ap (λ (q : Pair). is_among ns (out-Item q.key)) (pair_is p a e) ∙ ap (is_among ns) (i.outs-Text a.name) ∙ none_text ns where
  none_text : (ms : List ℕ) → is_among ms (Item-F.Text a.name) ≡ false
  none_text [] = refl
  none_text (m ∷ ms) = none_text ms

not_true : (b c : Bool) → b && not c ≡ false → c ≡ false → b ≡ false
not_true true true e h = absurd cc
not_true true false e h = absurd cc
not_true false c e h = refl

none_attached_by : (k x : Item-F Item Pair) → attached_by k x ≡ None → is_attached_by k x ≡ false
none_attached_by (Item-F.Text name) (Item-F.Bytes bytes) h = by_mark (record { name = name; bytes = bytes }) (is_marked name) h where
  by_mark : (a : Attached) (b : Bool) → cond b (Some a) None ≡ None → b ≡ false
  by_mark a true g = absurd cc
  by_mark a false g = refl
none_attached_by _ _ h = refl

-- what is attached and what is kept, merged, are all pairs but those of the labels
parted_back : (last : List ℕ) (ps : List Pair) → KeysAscend last ps → merged (attached_of ps) (kept_of ps) ≡ others labels ps
parted_back last [] ascend = refl
parted_back last (p ∷ ps) ascend = by_case (attached_in p) (is_kept p) refl refl (parted_back (spelling p.key) ps ascend.1) where
  above : AreAbove (spelling p.key) ps
  above = ascend_above (spelling p.key) ps ascend.1

  by_case : (o : Option Attached) (b : Bool) → attached_in p ≡ o → is_kept p ≡ b → merged (attached_of ps) (kept_of ps) ≡ others labels ps
      → merged (before (attached_in p) (attached_of ps)) (kept_of (p ∷ ps)) ≡ others labels (p ∷ ps)
  by_case (Some a) true at is more = absurd (let h = sym at ∙ not_attached p is in cc)
  by_case (Some a) false at is more =
      let other : is_other labels p ≡ true = ap not (text_other labels p a at) in
      let named : AreAbove (spelling (i.Text a.name)) (kept_of ps) = subst (λ (q : Pair). AreAbove (spelling q.key) (kept_of ps)) (pair_is p a at) (kept_above (spelling p.key) ps above) in
      rw (at, is, other) (payload_first a (attached_of ps) (kept_of ps) named ∙ ap (λ (q : Pair). q ∷ merged (attached_of ps) (kept_of ps)) (sym (pair_is p a at)) ∙ ap (λ (qs : List Pair). p ∷ qs) more)
  by_case None true at is more =
      let other : is_other labels p ≡ true = kept_other (is_other labels p) (is_attached p) is in
      rw (at, is, other) (pair_first p (attached_of ps) (kept_of ps) (named_above (spelling p.key) ps above) ∙ ap (λ (qs : List Pair). p ∷ qs) more) where
        kept_other : (b c : Bool) → b && not c ≡ true → b ≡ true
        kept_other true c h = refl
        kept_other false c h = absurd cc
  by_case None false at is more =
      let other : is_other labels p ≡ false = not_true (is_other labels p) (is_attached p) is (none_attached_by (out-Item p.key) (out-Item p.value) at) in
      rw (at, is, other) more

-- ---- the pairs

-- what is read of the pairs of an envelope
pub record Parts (ps : List Pair) (v : Envelope) : Type 0 where
  pub two : Item
  pub three : Item
  pub wrapper : Wrapper
  pub at_two : field 2 ps ≡ Some two
  pub at_three : field 3 ps ≡ Some three
  pub is_wrapper : wrapper_of two ≡ Ok wrapper
  pub is_bytes : bytes_of three ≡ Some v.manifest_bytes
  pub is_manifest : wrapped (Shape 3) manifest_of three ≡ Ok v.manifest
  pub digest : wrapper.digest ≡ v.digest
  pub digest_bytes : wrapper.digest_bytes ≡ v.digest_bytes
  pub blocks : wrapper.blocks ≡ v.blocks
  pub attached : attached_of ps ≡ v.attached
  pub other : kept_of ps ≡ v.other

pub parts_of : (ps : List Pair) (v : Envelope) → envelope_in ps ≡ Ok v → Parts ps v
parts_of ps v e = by_two (field 2 ps) (field 3 ps) refl refl e where
  by_bytes : (x y : Item) (w : Wrapper) (m : Manifest) → field 2 ps ≡ Some x → field 3 ps ≡ Some y → wrapper_of x ≡ Ok w
      → wrapped (Shape 3) manifest_of y ≡ Ok m → (o : Option (List ℕ)) → bytes_of y ≡ o → built (attached_of ps) (kept_of ps) (Ok w) (Ok m) (or_fault (Shape 3) o) ≡ Ok v → Parts ps v
  by_bytes x y w m at_two at_three is_w is_m None is_b h = absurd cc
  by_bytes x y w m at_two at_three is_w is_m (Some b) is_b h =
      let same : record {
        digest = w.digest;
        digest_bytes = w.digest_bytes;
        blocks = w.blocks;
        manifest_bytes = b;
        manifest = m;
        attached = attached_of ps;
        other = kept_of ps;
      } ≡ v = cc in
      record {
        two = x;
        three = y;
        wrapper = w;
        at_two = at_two;
        at_three = at_three;
        is_wrapper = is_w;
        is_bytes = is_b ∙ ap (λ (u : Envelope). Some u.manifest_bytes) same;
        is_manifest = is_m ∙ ap (λ (u : Envelope). Ok u.manifest) same;
        digest = ap (λ (u : Envelope). u.digest) same;
        digest_bytes = ap (λ (u : Envelope). u.digest_bytes) same;
        blocks = ap (λ (u : Envelope). u.blocks) same;
        attached = ap (λ (u : Envelope). u.attached) same;
        other = ap (λ (u : Envelope). u.other) same;
      }

  by_manifest : (x y : Item) (w : Wrapper) → field 2 ps ≡ Some x → field 3 ps ≡ Some y → wrapper_of x ≡ Ok w → (r : Result Manifest EnvelopeFault)
      → wrapped (Shape 3) manifest_of y ≡ r → built (attached_of ps) (kept_of ps) (Ok w) r (shaped (Shape 3) bytes_of y) ≡ Ok v → Parts ps v
  by_manifest x y w at_two at_three is_w (Err f) is_m h = absurd cc
  by_manifest x y w at_two at_three is_w (Ok m) is_m h = by_bytes x y w m at_two at_three is_w is_m (bytes_of y) refl h

  by_wrapper : (x y : Item) → field 2 ps ≡ Some x → field 3 ps ≡ Some y → (r : Result Wrapper EnvelopeFault) → wrapper_of x ≡ r
      → built (attached_of ps) (kept_of ps) r (wrapped (Shape 3) manifest_of y) (shaped (Shape 3) bytes_of y) ≡ Ok v → Parts ps v
  by_wrapper x y at_two at_three (Err f) is h = absurd cc
  by_wrapper x y at_two at_three (Ok w) is h = by_manifest x y w at_two at_three is (wrapped (Shape 3) manifest_of y) refl h

  by_none : (r : Result Wrapper EnvelopeFault) → built (attached_of ps) (kept_of ps) r (Err (Shape 3)) (Err (Shape 3)) ≡ Ok v → ⊥
  by_none (Err f) h = cc
  by_none (Ok w) h = cc

  by_two : (o q : Option Item) → field 2 ps ≡ o → field 3 ps ≡ q
      → built (attached_of ps) (kept_of ps) (needed_at wrapper_of (Shape 2) o) (needed_at (wrapped (Shape 3) manifest_of) (Shape 3) q) (needed_at (shaped (Shape 3) bytes_of) (Shape 3) q) ≡ Ok v → Parts ps v
  by_two None q at_two at_three h = absurd cc
  by_two (Some x) None at_two at_three h = absurd (by_none (wrapper_of x) h)
  by_two (Some x) (Some y) at_two at_three h = by_wrapper x y at_two at_three (wrapper_of x) refl h

pub ranged : (label : ℕ) (ps : List Pair) (x : Item) → AllByRecursion (λ p. HasRangesWithin 14 p.key × HasRangesWithin 14 p.value) ps → field label ps ≡ Some x → HasRangesWithin 14 x
ranged label [] x all e = absurd cc
ranged label (p ∷ ps) x all e = here (labelled_by label (out-Item p.key)) refl (λ later. ranged label ps x all.1 later) where
  here : (b : Bool) → labelled_by label (out-Item p.key) ≡ b → (field label ps ≡ Some x → HasRangesWithin 14 x) → HasRangesWithin 14 x
  here true is later =
      let value : Some p.value ≡ Some x = rw is at e in
      let same : p.value ≡ x = cc in
      subst (λ (y : Item). HasRangesWithin 14 y) same all.0.1
  here false is later = later (rw is at e)

-- the pairs of an envelope are those that it is written as
pub pairs_are : (ps : List Pair) (v : Envelope) → KeysAscend [] ps → AllByRecursion (λ p. HasRangesWithin 14 p.key × HasRangesWithin 14 p.value) ps → envelope_in ps ≡ Ok v → envelope_pairs v ≡ ps
pairs_are ps v ascend ranges e =
    let p = parts_of ps v e in
    let array : array_item p.wrapper ≡ wrapper_item v = ap (λ (b : List ℕ). i.Array (i.Bytes b ∷ map (λ (c : List ℕ). i.Bytes c) p.wrapper.blocks)) p.digest_bytes
    ∙ ap (λ (bs : List (List ℕ)). i.Array (i.Bytes v.digest_bytes ∷ map (λ (c : List ℕ). i.Bytes c) bs)) p.blocks in
    let two : p.two ≡ wrap wrapper_item v = wrapper_is p.two 14 p.wrapper (ranged 2 ps p.two ranges p.at_two) p.is_wrapper ∙ ap (λ (y : Item). i.Bytes (spelling y)) array in
    let three : p.three ≡ i.Bytes v.manifest_bytes = bytes_is p.three v.manifest_bytes p.is_bytes in
    let inside : merged v.attached v.other ≡ others (2 ∷ 3 ∷ []) ps = ap (λ (payloads : List Attached). merged payloads v.other) (sym p.attached) ∙ ap (merged (attached_of ps)) (sym p.other) ∙ parted_back [] ps ascend in
    let second : put_option 2 (Some (wrap wrapper_item v)) (others (2 ∷ 3 ∷ []) ps) ≡ others (3 ∷ []) ps =
    ap (λ (o : Option Item). put_option 2 o (others (2 ∷ 3 ∷ []) ps)) (sym (p.at_two ∙ ap (λ (y : Item). Some y) two)) ∙ restored 2 (3 ∷ []) (lit< tt) refl [] ps ascend in
    let third : put_option 3 (Some (i.Bytes v.manifest_bytes)) (others (3 ∷ []) ps) ≡ others [] ps =
    ap (λ (o : Option Item). put_option 3 o (others (3 ∷ []) ps)) (sym (p.at_three ∙ ap (λ (y : Item). Some y) three)) ∙ restored 3 [] (lit< tt) refl [] ps ascend in
    ap (λ (qs : List Pair). put_option 3 (Some (i.Bytes v.manifest_bytes)) (put_option 2 (Some (wrap wrapper_item v)) qs)) inside
    ∙ ap (put_option 3 (Some (i.Bytes v.manifest_bytes))) second ∙ third ∙ all_others ps

-- ---- the item

map_form : (y : Item) (v : Envelope) → IsProper y → HasRangesWithin 15 y → in_map (Shape 0) envelope_in y ≡ Ok v → y ≡ untagged v
map_form y v proper ranges e = by_map (map_of y) refl e where
  by_map : (o : Option (List Pair)) → map_of y ≡ o → and_then envelope_in (or_fault (Shape 0) o) ≡ Ok v → y ≡ untagged v
  by_map None at h = absurd cc
  by_map (Some ps) at h =
      let is = map_is y ps at in
      let ascend = parts_are_proper.keys ps (subst IsProper is proper) in
      let within : IsInRangeBy (HasRangesWithin 14) (Item-F.Map ps) = subst (λ (l : Item-F Item Pair). IsInRangeBy (HasRangesWithin 14) l) (i.outs-Map ps) (subst (λ (z : Item). HasRangesWithin 15 z) is ranges) in
      is ∙ ap (λ (qs : List Pair). i.Map qs) (sym (pairs_are ps v ascend within.0 h))

item_form : (x : Item) (v : Envelope) → Spells x (spelling x) → envelope_of x ≡ Ok v → (x ≡ untagged v) ⊎ (x ≡ tagged v)
unfolding envelope_of
item_form x v s e = by_layer (out-Item x) refl e where
  plain : in_map (Shape 0) envelope_in x ≡ Ok v → (x ≡ untagged v) ⊎ (x ≡ tagged v)
  plain h = inl (map_form x v s.proper (fewer 15 x s.ranges) h)

  by_tag : (n : ℕ) (y : Item) → out-Item x ≡ Item-F.Tag n y → (b : Bool) → (n == 107) ≡ b → in_map (Shape 0) envelope_in (cond b y x) ≡ Ok v → (x ≡ untagged v) ⊎ (x ≡ tagged v)
  by_tag n y at false is h = plain h
  by_tag n y at true is h =
      let tag : x ≡ i.Tag n y = sym (roll-out-Item x) ∙ ap roll-Item at ∙ i.rolls-Tag n y in
      let within : IsInRangeBy (HasRangesWithin 15) (Item-F.Tag n y) = subst (λ (l : Item-F Item Pair). IsInRangeBy (HasRangesWithin 15) l) at s.ranges in
      inr (tag ∙ ap (λ (k : ℕ). i.Tag k y) (eqb-true n 107 is) ∙ ap (λ (z : Item). i.Tag 107 z) (map_form y v (parts_are_proper.content n y (subst IsProper tag s.proper)) within.0 h))

  by_layer : (l : Item-F Item Pair) → out-Item x ≡ l → in_map (Shape 0) envelope_in (content_by x l) ≡ Ok v → (x ≡ untagged v) ⊎ (x ≡ tagged v)
  by_layer (Item-F.Tag n y) at h = by_tag n y at (n == 107) refl h
  by_layer _ at h = plain h

-- the bytes of an envelope are its tagged form, or that form without the tag's two bytes
pub in_tagged_form : (v : Envelope) (written bytes : List ℕ) → Spells (tagged v) written → EnvelopeIs v bytes → IsTaggedForm bytes written
in_tagged_form v written bytes s is = by_form (item_form is.item v (record { proper = is.spelled.proper; ranges = is.spelled.ranges; spelled = refl }) is.is) where
  by_form : (is.item ≡ untagged v) ⊎ (is.item ≡ tagged v) → IsTaggedForm bytes written
  by_form (inr same) = inl (s.spelled ∙ ap spelling (sym same) ∙ sym is.spelled.spelled)
  by_form (inl same) =
      inr (s.spelled ∙ spelling_Tag 107 (untagged v) ∙ ap (λ (front : List ℕ). front ++ spelling (untagged v)) (head_8 6 107 (omega arith) (omega arith))
      ∙ ap (λ (t : List ℕ). 0xd8 ∷ 0x6b ∷ t) (ap spelling (sym same) ∙ sym is.spelled.spelled))

-- ---- what a writer answers

pub writes_again : (v : Envelope) (x : Item) (r : Result (List ℕ) WantOfMemory) → x ≡ tagged v → Spells (wrapper_item v) (spelling (wrapper_item v)) → IfOk r (λ bytes. Spells x bytes)
    → IfOk r (λ bytes. IsProperEnvelope v → EnvelopeIs v bytes)
writes_again v x (Ok bytes) same wrapper s = λ proper. read_again v proper.fields wrapper bytes (subst (λ (y : Item). Spells y bytes) same s)
writes_again v x (Err e) same wrapper s = tt

pub writes_form : (v : Envelope) (x : Item) (r : Result (List ℕ) WantOfMemory) → x ≡ tagged v → IfOk r (λ bytes. Spells x bytes)
    → IfOk r (λ written. (bytes : List ℕ) → EnvelopeIs v bytes → IsTaggedForm bytes written)
writes_form v x (Ok written) same s = λ bytes is. in_tagged_form v written bytes (subst (λ (y : Item). Spells y written) same s) is
writes_form v x (Err e) same s = tt
