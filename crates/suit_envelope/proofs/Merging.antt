-- Attached payloads are merged into the pairs that are kept.
use Rattle.std.proofs.Common.{◌≡◌, ℕ, zero, suc, ◌+◌, ◌<◌, Bool, true, false, List, [], ◌∷◌, ◌++◌, length, take, drop, get_or, map, refl, sym, ap, subst, ◌∙◌, append_assoc}
use Rattle.std.specs.Prelude.{◌↔◌, IsTrue}
use Rattle.std.specs.List.{AllByRecursion, prefix_len}
use Rattle.cbor_core.specs.declared.item.Item.{Item}
use Rattle.cbor_core.specs.declared.item.Item.TheVariants as i
use Rattle.cbor_core.specs.declared.item.Pair.{Pair}
use Rattle.cbor_core.specs.Spelling.{spelling, bytes_below, IsProper, IsProperWithin}
use Rattle.cbor_core.proofs.Public.Parts.{parts_are_proper}
use Rattle.cbor_fields.specs.Written.{labelled, is_below, put}
use Rattle.cbor_fields.proofs.Public.Puts.{put_behind, put_here}
use Rattle.suit_envelope.specs.declared.envelope.Attached.{Attached}
use Rattle.suit_envelope.specs.declared.envelope.Envelope.{Envelope}
use Rattle.suit_envelope.specs.Written.{key_bytes, stands_before, attached_pair, place_of, merged, envelope_pairs, untagged, tagged}
use Rattle.suit_envelope.proofs.Each.{one_at}

-- ---- what holds of all pairs that are written holds of those that are kept

module _ (P : Pair → Type 0) where
  all_put : (label : ℕ) (x : Item) (ps : List Pair) → AllByRecursion P (put label x ps) → AllByRecursion P ps
  all_put label x [] all = tt
  all_put label x (p ∷ ps) all = by_test (is_below label p) refl (all_put label x ps) where
    by_test : (b : Bool) → is_below label p ≡ b → (AllByRecursion P (put label x ps) → AllByRecursion P ps) → AllByRecursion P (p ∷ ps)
    by_test true is more = let h : AllByRecursion P (p ∷ put label x ps) = subst (λ (qs : List Pair). AllByRecursion P qs) (put_behind label x p ps is) all in (h.0, more h.1)
    by_test false is more = let h : AllByRecursion P (labelled label x ∷ p ∷ ps) = subst (λ (qs : List Pair). AllByRecursion P qs) (put_here label x p ps is) all in h.1

  all_front : (ps qs : List Pair) → AllByRecursion P (ps ++ qs) → AllByRecursion P ps
  all_front [] qs all = tt
  all_front (p ∷ ps) qs all = (all.0, all_front ps qs all.1)

  all_behind : (ps qs : List Pair) → AllByRecursion P (ps ++ qs) → AllByRecursion P qs
  all_behind [] qs all = all
  all_behind (p ∷ ps) qs all = all_behind ps qs all.1

  all_parts : (n : ℕ) (ps : List Pair) → AllByRecursion P (take n ps) → AllByRecursion P (drop n ps) → AllByRecursion P ps
  all_parts zero ps front behind = behind
  all_parts (suc n) [] front behind = tt
  all_parts (suc n) (p ∷ ps) front behind = (front.0, all_parts n ps front.1 behind)

  all_merged : (payloads : List Attached) (ps : List Pair) → AllByRecursion P (merged payloads ps) → AllByRecursion P ps
  all_merged [] ps all = all
  all_merged (a ∷ payloads) ps all =
      let n = place_of a.name ps in
      let behind : AllByRecursion P (attached_pair a ∷ merged payloads (drop n ps)) = all_behind (take n ps) (attached_pair a ∷ merged payloads (drop n ps)) all in
      all_parts n ps (all_front (take n ps) (attached_pair a ∷ merged payloads (drop n ps)) all) (all_merged payloads (drop n ps) behind.1)

  pub all_kept : (v : Envelope) → AllByRecursion P (envelope_pairs v) → AllByRecursion P v.other
  all_kept v all = all_merged v.attached v.other (all_put 2 _ _ (all_put 3 _ _ all))

keys_of : (ps : List Pair) → AllByRecursion (λ p. IsProper p.key × IsProper p.value) ps → AllByRecursion (λ p. IsProper p.key) ps
keys_of [] all = tt
keys_of (p ∷ ps) all = (all.0.0, keys_of ps all.1)

-- the keys of a proper envelope may be encoded alone
pub keys_proper : (v : Envelope) → IsProper (tagged v) → AllByRecursion (λ p. IsProper p.key) v.other
keys_proper v proper = keys_of v.other (all_kept (λ p. IsProper p.key × IsProper p.value) v (parts_are_proper.pairs (envelope_pairs v) (parts_are_proper.content 107 (untagged v) proper)))

-- ---- one payload more

-- as many keys stand before a name as their pairs
pub same_place : (name : List ℕ) (ps : List Pair) → prefix_len (λ (key : List ℕ). bytes_below key (spelling (i.Text name))) (map key_bytes ps) ≡ place_of name ps
same_place name [] = refl
same_place name (p ∷ ps) = by_test (stands_before name p) refl (same_place name ps) where
  by_test : (b : Bool) → stands_before name p ≡ b → prefix_len (λ (key : List ℕ). bytes_below key (spelling (i.Text name))) (map key_bytes ps) ≡ place_of name ps
      → prefix_len (λ (key : List ℕ). bytes_below key (spelling (i.Text name))) (map key_bytes (p ∷ ps)) ≡ place_of name (p ∷ ps)
  by_test true is more = rw (is, more) refl
  by_test false is more = rw is refl

pub goes_on : (payloads : List Attached) (k : ℕ) (a d : Attached) (pairs rest total : List Pair) (place : ℕ) → k < length payloads → a ≡ get_or payloads k d → place ≡ place_of a.name rest
    → pairs ++ merged (drop k payloads) rest ≡ total → (pairs ++ (take place rest ++ attached_pair a ∷ [])) ++ merged (drop (k + 1) payloads) (drop place rest) ≡ total
goes_on payloads k a d pairs rest total place lt is at so_far =
    let one : merged (drop k payloads) rest ≡ take place rest ++ attached_pair a ∷ merged (drop (k + 1) payloads) (drop place rest) =
    ap (λ (bs : List Attached). merged bs rest) (one_at payloads k a d lt is) ∙ ap (λ (n : ℕ). take n rest ++ attached_pair a ∷ merged (drop (k + 1) payloads) (drop n rest)) (sym at) in
    append_assoc pairs (take place rest ++ attached_pair a ∷ []) (merged (drop (k + 1) payloads) (drop place rest))
    ∙ ap (λ (qs : List Pair). pairs ++ qs) (append_assoc (take place rest) (attached_pair a ∷ []) (merged (drop (k + 1) payloads) (drop place rest)) ∙ sym one) ∙ so_far

-- ---- the wrapper

strings_proper : (bs : List (List ℕ)) → AllByRecursion (IsProperWithin 15) (map (λ (b : List ℕ). i.Bytes b) bs)
strings_proper [] = tt
strings_proper (b ∷ bs) = (rw i.outs-Bytes tt, strings_proper bs)

-- an array of byte strings is proper
pub array_proper : (xs : List Item) (first : List ℕ) (bs : List (List ℕ)) → xs ≡ i.Bytes first ∷ map (λ (b : List ℕ). i.Bytes b) bs → IsProper (i.Array xs)
array_proper xs first bs is = subst (λ (ys : List Item). IsProper (i.Array ys)) (sym is) (rw i.outs-Array (refl, (rw i.outs-Bytes tt, strings_proper bs)))

-- ---- a step of the merge

dropped : (n : ℕ) (ps : List Pair) → drop n (map key_bytes ps) ≡ map key_bytes (drop n ps)
dropped zero ps = refl
dropped (suc n) [] = refl
dropped (suc n) (p ∷ ps) = dropped n ps

pub place_is : (rest : List Pair) (keys : List (List ℕ)) (name text own : List ℕ) (place : ℕ) → place ≡ prefix_len (λ (key : List ℕ). bytes_below key name) keys → name ≡ spelling (i.Text text) → text ≡ own
    → keys ≡ map key_bytes rest → place ≡ place_of own rest
place_is rest keys name text own place at is_name is_text is_keys =
    at ∙ ap (λ (n : List ℕ). prefix_len (λ (key : List ℕ). bytes_below key n) keys) (is_name ∙ ap (λ (t : List ℕ). spelling (i.Text t)) is_text)
    ∙ ap (λ (ks : List (List ℕ)). prefix_len (λ (key : List ℕ). bytes_below key (spelling (i.Text own))) ks) is_keys ∙ same_place own rest

pub keys_behind : (rest back : List Pair) (keys keys_back : List (List ℕ)) (place : ℕ) → keys ≡ map key_bytes rest → back ≡ drop place rest → keys_back ≡ drop place keys → keys_back ≡ map key_bytes back
keys_behind rest back keys keys_back place is_keys is_back is =
    is ∙ ap (λ (ks : List (List ℕ)). drop place ks) is_keys ∙ dropped place rest ∙ ap (λ (ps : List Pair). map key_bytes ps) (sym is_back)

pub step_written : (payloads : List Attached) (k : ℕ) (a : Attached) (pairs total new front back rest : List Pair) (place : ℕ)
    → new ≡ pairs ++ (front ++ attached_pair a ∷ []) → front ≡ take place rest → back ≡ drop place rest
    → (pairs ++ (take place rest ++ attached_pair a ∷ [])) ++ merged (drop (k + 1) payloads) (drop place rest) ≡ total → new ++ merged (drop (k + 1) payloads) back ≡ total
step_written payloads k a pairs total new front back rest place is_new is_front is_back at =
    ap (λ (ps : List Pair). ps ++ merged (drop (k + 1) payloads) back) (is_new ∙ ap (λ (fs : List Pair). pairs ++ (fs ++ attached_pair a ∷ [])) is_front)
    ∙ ap (λ (bs : List Pair). (pairs ++ (take place rest ++ attached_pair a ∷ [])) ++ merged (drop (k + 1) payloads) bs) is_back ∙ at

-- keys that are not proper are those of no envelope that may be written
pub not_writable : (v : Envelope) (b : Bool) (ps : List Pair) → IsTrue b ↔ AllByRecursion (λ p. IsProper p.key) ps → ps ≡ v.other → b ≡ false → IsTrue false ↔ IsProper (tagged v)
not_writable v b ps is same at = (λ no_truth. absurd cc, λ proper. subst IsTrue at (is.1 (subst (λ (qs : List Pair). AllByRecursion (λ p. IsProper p.key) qs) (sym same) (keys_proper v proper))))
