-- The diagnostic text of an item (after RFC 8949, section 8), in one spelling.
use Rattle.std.specs.Prelude.{ℕ, ◌+◌, ◌/◌, ◌%◌, ◌≡◌, nat_lt, ◌==◌, ◌||◌, Bool, if◌then◌else◌, List, [], ◌∷◌, ◌++◌, codes, decimal}
use Rattle.std.specs.List.{flat_map}
use Rattle.cbor_core.specs.declared.item.Item.{Item}
use Rattle.cbor_core.specs.declared.item.Pair.{Pair}
use Rattle.cbor_core.specs.declared.item.Item.TheFolds.{fold-Item, fold-Pair}
use Rattle.cbor_core.specs.declared.item.Item.TheOpen.{Item-F, Pair-F}
use Rattle.cbor_core.specs.Spelling.{IsProper, HasRanges}

-- ---- bytes and characters

-- a hexadecimal digit, in lower case
abbrev pub hex_digit : ℕ → ℕ
hex_digit n = if nat_lt n 10 then 48 + n else 87 + n

-- a byte in two hexadecimal digits
abbrev pub hex_byte : ℕ → List ℕ
hex_byte b = hex_digit (b / 16) ∷ hex_digit (b % 16) ∷ []

-- A byte of a text: a backslash before a quotation mark (34) and a backslash (92), four hexadecimal digits for
-- a control character (below 32, and 127), and else the byte as it is.
abbrev pub escaped : ℕ → List ℕ
escaped b =
    if (b == 34) || (b == 92) then 92 ∷ b ∷ []
    else (if nat_lt b 32 || (b == 127) then codes "\\u00" ++ hex_byte b else b ∷ [])

-- ---- items

-- texts in a row, with a comma and a space between each two
abbrev pub listed : {X : Type 0} → (X → List ℕ) → List X → List ℕ
listed text [] = []
listed text (x ∷ xs) = text x ++ flat_map (λ y. codes ", " ++ text y) xs

-- the word of false or true
abbrev pub word : Bool → List ℕ
word b = if b then codes "true" else codes "false"

-- an item's text, from those of its parts
abbrev pub item_step : Item-F (List ℕ) (List ℕ) → List ℕ
item_step (Item-F.Unsigned n) = decimal n
item_step (Item-F.Negative n) = codes "-" ++ decimal (n + 1)
item_step (Item-F.Bytes bytes) = codes "h'" ++ (flat_map hex_byte bytes ++ codes "'")
item_step (Item-F.Text text) = codes "\"" ++ (flat_map escaped text ++ codes "\"")
item_step (Item-F.Array members) = codes "[" ++ (listed (λ t. t) members ++ codes "]")
item_step (Item-F.Map pairs) = codes "{" ++ (listed (λ t. t) pairs ++ codes "}")
item_step (Item-F.Tag n content) = decimal n ++ (codes "(" ++ (content ++ codes ")"))
item_step (Item-F.Truth b) = word b
item_step Item-F.Null = codes "null"

-- a pair's text is its key's, a colon and a space, and its value's
abbrev pub pair_step : Pair-F (List ℕ) (List ℕ) → List ℕ
pair_step p = p.key ++ (codes ": " ++ p.value)

-- the text of an item, and of a pair
unfoldable pub printed : Item → List ℕ
printed = fold-Item (List ℕ) (List ℕ) item_step pair_step

-- the text of a pair
unfoldable pub pair_printed : Pair → List ℕ
pair_printed = fold-Pair (List ℕ) (List ℕ) item_step pair_step

-- the text is that of the item, which is proper
pub record Prints (x : Item) (text : List ℕ) : Type 0 where
  pub proper : IsProper x
  pub ranges : HasRanges x
  pub printed : text ≡ printed x
