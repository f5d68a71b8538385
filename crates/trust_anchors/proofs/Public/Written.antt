-- Anchors that are written: they are proper, and take at most 2,307 bytes.
use Rattle.std.proofs.Common.{◌≡◌, ℕ, suc, ◌+◌, ◌*◌, ◌≤◌, List, [], ◌∷◌, length, map, arith}
use Rattle.std.specs.Prelude.{None}
use Rattle.std.specs.List.{AllZip, AllByRecursion}
use Rattle.std.proofs.lemmas.List.{length-map}
use Rattle.cbor_core.specs.declared.item.Item.{Item}
use Rattle.cbor_core.specs.declared.item.Pair.{Pair}
use Rattle.cbor_core.specs.declared.item.Item.TheVariants as i
use Rattle.cbor_core.specs.Spelling.{IsProperWithin, spelling, spellings}
use Rattle.cbor_core.proofs.Public.Sizes.{more_members, more_pairs}
use Rattle.cbor_core.proofs.Public.Small.{small_number, small_negative, small_string, small_array, small_map}
use Rattle.cbor_core.proofs.Public.Proper.{string_proper, array_proper}
use Rattle.hss_verify.proofs.Public.Sizes.{hss_size}
use Rattle.cose_core.specs.Key.{written_key}
use Rattle.trust_anchors.specs.declared.anchors.Anchors.{Anchors}
use Rattle.trust_anchors.specs.Anchors.{Wraps, AnchorsIs, wrapped_key, written_anchors}
use Rattle.trust_anchors.proofs.Lists.{zip_length}

-- ---- they are proper

keys_proper : (depth : ℕ) (keys : List (List ℕ)) → AllByRecursion (IsProperWithin depth) (map wrapped_key keys)
keys_proper depth [] = tt
keys_proper depth (k ∷ keys) = (string_proper depth (spelling (written_key (record { kid = None; public = k }))), keys_proper depth keys)

pub anchors_proper : (depth : ℕ) (v : Anchors) → IsProperWithin (suc (suc depth)) (written_anchors v)
anchors_proper depth v =
    array_proper (suc depth) (i.Array (map wrapped_key v.manager) ∷ i.Array (map wrapped_key v.author) ∷ [])
    (array_proper depth (map wrapped_key v.manager) (keys_proper depth v.manager), (array_proper depth (map wrapped_key v.author) (keys_proper depth v.author), tt))

-- ---- how long they are

-- {1: 5, 3: -46, -1: public}
key_bytes : (public : List ℕ) → length public ≡ 60 → length (spelling (written_key (record { kid = None; public = public }))) ≤ 70
key_bytes public is =
    let last : Pair = record { key = i.Negative 0; value = i.Bytes public } in
    let second : Pair = record { key = i.Unsigned 3; value = i.Negative 45 } in
    let first : Pair = record { key = i.Unsigned 1; value = i.Unsigned 5 } in
    omega (
      arith,
      small_map (first ∷ second ∷ last ∷ []) (omega arith),
      more_pairs (i.Unsigned 1) (i.Unsigned 5) (second ∷ last ∷ []),
      more_pairs (i.Unsigned 3) (i.Negative 45) (last ∷ []),
      more_pairs (i.Negative 0) (i.Bytes public) [],
      small_number 1 (omega arith),
      small_number 5 (omega arith),
      small_number 3 (omega arith),
      small_negative 45 (omega arith),
      small_negative 0 (omega arith),
      small_string public (omega arith),
      is,
    )

wrapped_size : (public : List ℕ) (x : Item) → Wraps public x → length (spelling (wrapped_key public)) ≤ 72
wrapped_size public x w =
    let short : length (spelling (written_key (record { kid = None; public = public }))) ≤ 70 = key_bytes public (hss_size public w.known) in
    omega (arith, small_string (spelling (written_key (record { kid = None; public = public }))) (omega arith), short)

keys_size : (keys : List (List ℕ)) (xs : List Item) → AllZip Wraps keys xs → length (spellings (map wrapped_key keys)) ≤ 72 * length keys
keys_size [] [] all = omega arith
keys_size [] (x ∷ xs) all = absurd all
keys_size (k ∷ keys) [] all = absurd all
keys_size (k ∷ keys) (x ∷ xs) all = rw (more_members (wrapped_key k) (map wrapped_key keys)) (omega (arith, wrapped_size k x all.0, keys_size keys xs all.1))

role_size : (keys : List (List ℕ)) (xs : List Item) → AllZip Wraps keys xs → length xs ≤ 16 → length (spelling (i.Array (map wrapped_key keys))) ≤ 1153
role_size keys xs all few =
    let count : length keys ≤ 16 = omega (arith, zip_length Wraps keys xs all, few) in
    let members : length (map wrapped_key keys) ≡ length keys = length-map keys wrapped_key in
    omega (arith, small_array (map wrapped_key keys) (omega arith), keys_size keys xs all, count)

pub anchors_size : (v : Anchors) (x : Item) → AnchorsIs v x → length (spelling (written_anchors v)) ≤ 2307
anchors_size v x is =
    let ms = map wrapped_key v.manager in
    let bs = map wrapped_key v.author in
    omega (
      arith,
      small_array (i.Array ms ∷ i.Array bs ∷ []) (omega arith),
      more_members (i.Array ms) (i.Array bs ∷ []),
      more_members (i.Array bs) [],
      role_size v.manager is.managers is.manager is.small.manager,
      role_size v.author is.authors is.author is.small.author,
    )
