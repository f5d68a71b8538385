-- What a front of a text says: an item and the place behind it, or the place of the first fault.
use Rattle.std.specs.Prelude.{ℕ, zero, suc, ◌+◌, ◌*◌, ◌-◌, ◌^◌, ◌≡◌, nat_lt, nat_eq, ◌==◌, Bool, true, false, if◌then◌else◌, List, [], ◌∷◌, ◌++◌, length, slice_index, codes, decimal, Result, Ok, Err, Option, Some, None}
use Rattle.std.specs.List.{take_while}
use Rattle.std.specs.Char.{is_ascii_digit}
use Rattle.std.specs.Cmp.Lexicographic.{pointwise}
use Rattle.std.specs.Str.{is_utf8}
use Rattle.std.specs.Str.Parse.{digits_value}
use Rattle.cbor_core.specs.declared.item.Item.{Item}
use Rattle.cbor_core.specs.declared.item.Item.TheVariants as i
use Rattle.cbor_core.specs.declared.item.Pair.{Pair}
use Rattle.cbor_heads.specs.Place.{Place, start, skip, begins}
use Rattle.cbor_heads.specs.Reading.{Outcome, Reader, ◌>>=◌, nested}
use Rattle.cbor_core.specs.Spelling.{spelling, bytes_below}
use Rattle.cbor_core.specs.Faulty.{last_key}
use Rattle.diag_text.specs.declared.fault.DiagFault.{DiagFault}
use Rattle.diag_text.specs.declared.fault.DiagFault.TheVariants as faults
use Rattle.diag_text.specs.Printed.{hex_byte, escaped}

-- the place of the fault that an answer names; none for want of memory
abbrev pub place_in : DiagFault → Option ℕ
place_in (faults.Bad f) = Some f.at
place_in faults.NoMemory = None

-- ---- tokens

-- what is read behind a token, which is to stand at the place
abbrev pub past : {A : Type 0} → List ℕ → Place → (Place → Outcome ℕ A) → Outcome ℕ A
past token p f = if begins token p.rest then f (skip (length token) p) else Err p.at

-- the digits at the front
abbrev pub digits : List ℕ → List ℕ
digits = take_while is_ascii_digit

-- two lists are the same
abbrev pub same : List ℕ → List ℕ → Bool
same = pointwise nat_eq

-- the number of some digits, where it is below the limit
abbrev pub value_below : ℕ → List ℕ → Option ℕ
value_below limit ds = if nat_lt (digits_value 10 ds) limit then Some (digits_value 10 ds) else None

-- a number, where the digits are its decimal form
abbrev pub if_decimal : List ℕ → Option ℕ → Option ℕ
if_decimal ds None = None
if_decimal ds (Some n) = if same (decimal n) ds then Some n else None

-- the number below the limit that has this decimal form
unfoldable pub numeral_value : ℕ → List ℕ → Option ℕ
numeral_value limit ds = if_decimal ds (value_below limit ds)

-- what some digits are read as
abbrev pub number_by : ℕ → List ℕ → Place → Option ℕ → Outcome ℕ ℕ
number_by at ds p None = Err at
number_by at ds p (Some n) = Ok (n, skip (length ds) p)

-- all the digits at the place, in a token that began at an offset
abbrev pub number_at : ℕ → ℕ → Reader ℕ ℕ
number_at at limit p = number_by at (digits p.rest) p (numeral_value limit (digits p.rest))

-- the value of a hexadecimal digit in lower case, and 0 for other bytes
abbrev pub hex_value : ℕ → ℕ
hex_value c = if nat_lt c 48 then 0 else (if nat_lt c 58 then c - 48 else (if nat_lt c 97 then 0 else (if nat_lt c 103 then c - 87 else 0)))

-- the byte that two hexadecimal digits write
abbrev pub hex_pair : ℕ → ℕ → ℕ
hex_pair a b = hex_value a * 16 + hex_value b

-- the byte that the front of some bytes can only write
unfoldable pub hex_guess : List ℕ → ℕ
hex_guess bytes = hex_pair (slice_index bytes 0) (slice_index bytes 1)

-- the byte of a text that the front of some bytes can only write, by itself or as an escape
unfoldable pub text_guess : List ℕ → ℕ
text_guess bytes =
    if slice_index bytes 0 == 92 then (if slice_index bytes 1 == 117 then hex_pair (slice_index bytes 4) (slice_index bytes 5) else slice_index bytes 1)
    else slice_index bytes 0

-- The bytes up to the closing mark, in a token that began at an offset. At most n pieces are looked at.
unfoldable pub pieces_at : (ℕ → List ℕ) → (List ℕ → ℕ) → List ℕ → ℕ → ℕ → List ℕ → Reader ℕ (List ℕ)
pieces_at spell guess close at zero found p = Err at
pieces_at spell guess close at (suc n) found p =
    if begins close p.rest then Ok (found, skip (length close) p)
    else (if begins (spell (guess p.rest)) p.rest
    then pieces_at spell guess close at n (found ++ guess p.rest ∷ []) (skip (length (spell (guess p.rest))) p)
    else Err at)

-- the bytes of a byte string, up to its closing mark
abbrev pub bytes_at : ℕ → Reader ℕ (List ℕ)
bytes_at at p = pieces_at hex_byte hex_guess (codes "'") at (length p.rest) [] p

-- the bytes of a text, up to its closing mark
abbrev pub text_at : ℕ → Reader ℕ (List ℕ)
text_at at p = pieces_at escaped text_guess (codes "\"") at (length p.rest) [] p

-- ---- parts of containers

-- Parts behind those found, up to the closing mark. At most n parts are looked at.
unfoldable pub parts_at : {X : Type 0} → (List X → Reader ℕ X) → List ℕ → ℕ → List X → Reader ℕ (List X)
parts_at part close zero found p = Err p.at
parts_at part close (suc n) found p = part found p >>= λ x.
    if begins close x.1.rest then Ok (found ++ x.0 ∷ [], skip (length close) x.1)
    else past (codes ", ") x.1 (λ q. parts_at part close n (found ++ x.0 ∷ []) q)

-- all parts behind the opening mark
abbrev pub inside_at : {X : Type 0} → (List X → Reader ℕ X) → List ℕ → Reader ℕ (List X)
inside_at part close p = if begins close p.rest then Ok ([], skip (length close) p) else parts_at part close (length p.rest) [] p

-- a member of an array, whatever stands before it
unfoldable pub member_at : Reader ℕ Item → List Item → Reader ℕ Item
member_at inner found p = inner p

-- a key whose encoding is above the last one
abbrev pub key_at : Reader ℕ Item → List ℕ → Reader ℕ Item
key_at inner last p = inner p >>= λ key. if bytes_below last (spelling key.0) then Ok key else Err p.at

-- a key above those found, a colon and a space, and its value
abbrev pub pair_at : Reader ℕ Item → List Pair → Reader ℕ Pair
pair_at inner found p = key_at inner (last_key [] found) p >>= λ key.
    past (codes ": ") key.1 (λ q. inner q >>= λ value. Ok (record { key = key.0; value = value.0 }, value.1))

-- ---- items; a container holds what the inner reader reads, and where there is none, no container may stand

-- the members of an array, behind its mark
abbrev pub array_at : Option (Reader ℕ Item) → ℕ → Reader ℕ Item
array_at None at p = Err at
array_at (Some inner) at p = inside_at (member_at inner) (codes "]") p >>= λ x. Ok (i.Array x.0, x.1)

-- the pairs of a map, behind its mark
abbrev pub map_at : Option (Reader ℕ Item) → ℕ → Reader ℕ Item
map_at None at p = Err at
map_at (Some inner) at p = inside_at (pair_at inner) (codes "}") p >>= λ x. Ok (i.Map x.0, x.1)

-- the content of the tag n and the bracket behind it
abbrev pub tag_at : Option (Reader ℕ Item) → ℕ → ℕ → Reader ℕ Item
tag_at None at n p = Err at
tag_at (Some inner) at n p = inner p >>= λ x. past (codes ")") x.1 (λ q. Ok (i.Tag n x.0, q))

-- a number, or a tag where a bracket stands behind it
abbrev pub number_or_tag : Option (Reader ℕ Item) → ℕ → ℕ × Place → Outcome ℕ Item
number_or_tag inner at x =
    if begins (codes "(") x.1.rest then tag_at inner at x.0 (skip 1 x.1) else Ok (i.Unsigned x.0, x.1)

-- the negative number -n, where n is above 0
abbrev pub negative_by : ℕ → ℕ × Place → Outcome ℕ Item
negative_by at x = if nat_lt 0 x.0 then Ok (i.Negative (x.0 - 1), x.1) else Err at

-- the bytes are a text
abbrev pub text_by : ℕ → List ℕ × Place → Outcome ℕ Item
text_by at x = if is_utf8 x.0 then Ok (i.Text x.0, x.1) else Err at

-- a text, up to its closing mark
abbrev pub string_at : ℕ → Reader ℕ Item
string_at at p = text_at at p >>= text_by at

-- an unsigned number, or a tag
abbrev pub plain_at : Option (Reader ℕ Item) → Reader ℕ Item
plain_at inner p = number_at p.at (2 ^ 64) p >>= number_or_tag inner p.at

-- a negative number, behind its mark
abbrev pub negative_at : ℕ → Reader ℕ Item
negative_at at p = number_at at (2 ^ 64 + 1) p >>= negative_by at

-- an item whose parts the inner reader reads
abbrev pub item_by : Option (Reader ℕ Item) → Reader ℕ Item
item_by inner p =
    if begins (codes "true") p.rest then Ok (i.Truth true, skip 4 p)
    else (if begins (codes "false") p.rest then Ok (i.Truth false, skip 5 p)
    else (if begins (codes "null") p.rest then Ok (i.Null, skip 4 p)
    else (if begins (codes "h'") p.rest then (bytes_at p.at (skip 2 p) >>= λ x. Ok (i.Bytes x.0, x.1))
    else (if begins (codes "\"") p.rest then string_at p.at (skip 1 p)
    else (if begins (codes "[") p.rest then array_at inner p.at (skip 1 p)
    else (if begins (codes "{") p.rest then map_at inner p.at (skip 1 p)
    else (if begins (codes "-") p.rest then negative_at p.at (skip 1 p)
    else plain_at inner p)))))))

-- an item inside which so many containers may still stand
abbrev pub item_at : ℕ → Reader ℕ Item
item_at depth = nested item_by depth

-- an item that is all of the text
abbrev pub alone : Item × Place → Result Item ℕ
alone x = if nat_lt 0 (length x.1.rest) then Err x.1.at else Ok x.0

-- an item and nothing behind it, or the place of the fault
abbrev pub alone_by : Outcome ℕ Item → Result Item ℕ
alone_by (Ok x) = alone x
alone_by (Err at) = Err at

-- what all of a text says
abbrev pub whole_at : List ℕ → Result Item ℕ
whole_at text = alone_by (item_at 16 (start text))

-- the answer for a whole text
abbrev pub Decides : Result Item ℕ → Result Item DiagFault → Type 0
Decides outcome (Ok x) = outcome ≡ Ok x
Decides outcome (Err (faults.Bad f)) = outcome ≡ Err f.at
Decides outcome (Err faults.NoMemory) = Unit {0}

-- The text is read as this item, unless memory ran out.
abbrev pub IsTextRead : Result Item DiagFault → Item → Type 0
IsTextRead (Ok y) x = y ≡ x
IsTextRead (Err (faults.Bad f)) x = ⊥
IsTextRead (Err faults.NoMemory) x = Unit {0}

-- The text is refused at this place, unless memory ran out.
abbrev pub IsTextRefused : Result Item DiagFault → ℕ → Type 0
IsTextRefused (Ok y) at = ⊥
IsTextRefused (Err (faults.Bad f)) at = f.at ≡ at
IsTextRefused (Err faults.NoMemory) at = Unit {0}
