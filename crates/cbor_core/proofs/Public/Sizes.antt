-- How long an encoding is at most.
use Rattle.std.proofs.Common.{◌≡◌, ℕ, ◌+◌, ◌≤◌, List, ◌∷◌, length, ap, ◌∙◌, arith}
use Rattle.std.proofs.lemmas.List.{length-append}
use Rattle.cbor_core.specs.declared.item.Item.{Item}
use Rattle.cbor_core.specs.declared.item.Item.TheVariants as i
use Rattle.cbor_core.specs.declared.item.Pair.{Pair}
use Rattle.cbor_heads.specs.Head.{head}
use Rattle.cbor_core.specs.Spelling.{spelling, spellings, pair_spelling, pair_spellings}
use Rattle.cbor_core.proofs.Public.Spell.{spelling_Unsigned, spelling_Negative, spelling_Bytes, spelling_Array, spelling_Map, pair_spelling_out}
use Rattle.cbor_heads.proofs.Public.Sizes.{head_size}

pub number_size : (n : ℕ) → length (spelling (i.Unsigned n)) ≤ 9
number_size n = rw (spelling_Unsigned n) (head_size 0 n)

pub string_size : (bytes : List ℕ) → length (spelling (i.Bytes bytes)) ≤ 9 + length bytes
string_size bytes = rw (spelling_Bytes bytes, length-append (head 2 (length bytes)) bytes) (omega (arith, head_size 2 (length bytes)))

pub array_size : (xs : List Item) → length (spelling (i.Array xs)) ≤ 9 + length (spellings xs)
array_size xs = rw (spelling_Array xs, length-append (head 4 (length xs)) (spellings xs)) (omega (arith, head_size 4 (length xs)))

pub negative_size : (n : ℕ) → length (spelling (i.Negative n)) ≤ 9
negative_size n = rw (spelling_Negative n) (head_size 1 n)

pub map_size : (ps : List Pair) → length (spelling (i.Map ps)) ≤ 9 + length (pair_spellings ps)
map_size ps = rw (spelling_Map ps, length-append (head 5 (length ps)) (pair_spellings ps)) (omega (arith, head_size 5 (length ps)))

-- ---- parts, one more

pub more_members : (x : Item) (xs : List Item) → length (spellings (x ∷ xs)) ≡ length (spelling x) + length (spellings xs)
more_members x xs = length-append (spelling x) (spellings xs)

pub more_pairs : (key value : Item) (ps : List Pair) → length (pair_spellings (record { key = key; value = value } ∷ ps)) ≡ length (spelling key) + length (spelling value) + length (pair_spellings ps)
more_pairs key value ps =
    let p : Pair = record { key = key; value = value } in
    let one : length (pair_spelling p) ≡ length (spelling key) + length (spelling value) = ap length (pair_spelling_out p) ∙ length-append (spelling key) (spelling value) in
    length-append (pair_spelling p) (pair_spellings ps) ∙ ap (λ (n : ℕ). n + length (pair_spellings ps)) one
