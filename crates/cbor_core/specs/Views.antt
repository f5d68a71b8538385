-- What a typed reader sees of an item.
use Rattle.std.specs.Prelude.{ℕ, Bool, true, false, ◌==◌, List, [], ◌∷◌, Option, Some, None, if◌then◌else◌}
use Rattle.cbor_core.specs.declared.item.Item.{Item, out-Item}
use Rattle.cbor_core.specs.declared.item.Item.TheOpen.{Item-F}
use Rattle.cbor_core.specs.declared.item.Pair.{Pair}

-- the number of an unsigned integer, by its layer
abbrev pub unsigned_by : Item-F Item Pair → Option ℕ
unsigned_by (Item-F.Unsigned n) = Some n
unsigned_by _ = None

-- the number n of Unsigned(n)
abbrev pub unsigned_of : Item → Option ℕ
unsigned_of x = unsigned_by (out-Item x)

-- the bytes of a byte string, by its layer
abbrev pub bytes_by : Item-F Item Pair → Option (List ℕ)
bytes_by (Item-F.Bytes bytes) = Some bytes
bytes_by _ = None

-- the bytes of a byte string
abbrev pub bytes_of : Item → Option (List ℕ)
bytes_of x = bytes_by (out-Item x)

-- the bytes of a text, by its layer
abbrev pub text_by : Item-F Item Pair → Option (List ℕ)
text_by (Item-F.Text text) = Some text
text_by _ = None

-- the bytes of a text
abbrev pub text_of : Item → Option (List ℕ)
text_of x = text_by (out-Item x)

-- the members of an array, by its layer
abbrev pub array_by : Item-F Item Pair → Option (List Item)
array_by (Item-F.Array members) = Some members
array_by _ = None

-- the members of an array
abbrev pub array_of : Item → Option (List Item)
array_of x = array_by (out-Item x)

-- the pairs of a map, by its layer
abbrev pub map_by : Item-F Item Pair → Option (List Pair)
map_by (Item-F.Map pairs) = Some pairs
map_by _ = None

-- the pairs of a map
abbrev pub map_of : Item → Option (List Pair)
map_of x = map_by (out-Item x)

-- false or true, by its layer
abbrev pub truth_by : Item-F Item Pair → Option Bool
truth_by (Item-F.Truth b) = Some b
truth_by _ = None

-- false or true
abbrev pub truth_of : Item → Option Bool
truth_of x = truth_by (out-Item x)

-- the n of a negative integer -1-n, by its layer
abbrev pub negative_by : Item-F Item Pair → Option ℕ
negative_by (Item-F.Negative n) = Some n
negative_by _ = None

-- the n of a negative integer -1-n
abbrev pub negative_of : Item → Option ℕ
negative_of x = negative_by (out-Item x)

-- the number of a tag and what it is put on, by its layer
abbrev pub tagged_by : Item-F Item Pair → Option (ℕ × Item)
tagged_by (Item-F.Tag n content) = Some (n, content)
tagged_by _ = None

-- the number of a tag and what it is put on
abbrev pub tagged_of : Item → Option (ℕ × Item)
tagged_of x = tagged_by (out-Item x)

-- an item is null, by its layer
abbrev pub is_null : Item-F Item Pair → Bool
is_null Item-F.Null = true
is_null _ = false

-- a key is the number
abbrev pub labelled_by : ℕ → Item-F Item Pair → Bool
labelled_by label (Item-F.Unsigned n) = n == label
labelled_by label _ = false

-- the value of the first pair whose key is the number
abbrev pub field : ℕ → List Pair → Option Item
field label [] = None
field label (p ∷ ps) = if labelled_by label (out-Item p.key) then Some p.value else field label ps
