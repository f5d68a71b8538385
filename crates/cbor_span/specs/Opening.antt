-- What the head of an item tells of it.
use Rattle.std.specs.Prelude.{ℕ, Bool, true, false, if◌then◌else◌, List, [], length, Option, Some, None}
use Rattle.cbor_heads.specs.declared.head.Head.{Head}
use Rattle.cbor_heads.specs.declared.head.Kind.TheVariants as k
use Rattle.cbor_core.specs.declared.item.Item.{Item, out-Item}
use Rattle.cbor_core.specs.declared.item.Item.TheOpen.{Item-F}
use Rattle.cbor_core.specs.declared.item.Pair.{Pair}
use Rattle.cbor_core.specs.Spelling.{spelling, spellings, pair_spellings}

-- the head of an item, and the bytes of it behind the head (RFC 8949, sections 3 and 3.3)
abbrev pub opening : Item-F Item Pair → Head × List ℕ
opening (Item-F.Unsigned n) = (record { kind = k.Unsigned; argument = n }, [])
opening (Item-F.Negative n) = (record { kind = k.Negative; argument = n }, [])
opening (Item-F.Bytes bytes) = (record { kind = k.Bytes; argument = length bytes }, bytes)
opening (Item-F.Text text) = (record { kind = k.Text; argument = length text }, text)
opening (Item-F.Array members) = (record { kind = k.Array; argument = length members }, spellings members)
opening (Item-F.Map pairs) = (record { kind = k.Map; argument = length pairs }, pair_spellings pairs)
opening (Item-F.Tag n content) = (record { kind = k.Tag; argument = n }, spelling content)
opening (Item-F.Truth b) = (record { kind = k.Simple; argument = if b then 21 else 20 }, [])
opening Item-F.Null = (record { kind = k.Simple; argument = 22 }, [])
