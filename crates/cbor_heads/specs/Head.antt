-- The head of a data item: its major type and its argument (RFC 8949, section 3).
use Rattle.std.specs.Prelude.{ℕ, ◌+◌, ◌*◌, nat_lt, ◌==◌, List, [], ◌∷◌, if◌then◌else◌}
use Rattle.std.specs.Int.{to_be_bytes, w16, w32, w64}
use Rattle.cbor_heads.specs.declared.head.Kind.{Kind}
use Rattle.cbor_heads.specs.declared.head.Kind.TheVariants as k

-- what a major type begins (RFC 8949, section 3.1)
abbrev pub kind_of : ℕ → Kind
kind_of major =
    if major == 0 then k.Unsigned else (if major == 1 then k.Negative else (if major == 2 then k.Bytes else (if major == 3 then k.Text
    else (if major == 4 then k.Array else (if major == 5 then k.Map else (if major == 6 then k.Tag else k.Simple))))))

-- the shortest head of a major type with an argument (RFC 8949, sections 3 and 4.2.1)
unfoldable pub head : ℕ → ℕ → List ℕ
head major n =
    if nat_lt n 24 then (32 * major + n) ∷ []
    else (if nat_lt n 256 then (32 * major + 24) ∷ n ∷ []
    else (if nat_lt n 65536 then (32 * major + 25) ∷ to_be_bytes w16 n
    else (if nat_lt n 4294967296 then (32 * major + 26) ∷ to_be_bytes w32 n
    else (32 * major + 27) ∷ to_be_bytes w64 n)))
