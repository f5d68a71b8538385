-- The head that stands at a place, or the first rule that the bytes there break (RFC 8949, sections 3, 3.3 and 4.2.1).
use Rattle.std.specs.Prelude.{ℕ, ◌/◌, ◌%◌, nat_lt, ◌==◌, ◌&&◌, ◌||◌, if◌then◌else◌, List, [], ◌∷◌, length, take, Ok, Err}
use Rattle.std.specs.Int.{Width, w8, w16, w32, w64, byte_len, from_be_bytes}
use Rattle.cbor_heads.specs.declared.fault.Fault.{Fault}
use Rattle.cbor_heads.specs.declared.fault.Why.{Why}
use Rattle.cbor_heads.specs.declared.fault.Why.TheVariants as why
use Rattle.cbor_heads.specs.declared.head.Head.{Head}
use Rattle.cbor_heads.specs.Place.{Place, skip}
use Rattle.cbor_heads.specs.Reading.{Outcome, Reader}
use Rattle.cbor_heads.specs.Head.{kind_of}

-- a rule is broken at an offset
abbrev pub fault : {A : Type 0} → ℕ → Why → Outcome Fault A
fault at w = Err (record { at = at; why = w })

-- an argument, which no shorter head could hold
abbrev pub argument_by : ℕ → ℕ → ℕ → ℕ → Place → Outcome Fault Head
argument_by at major least n q = if nat_lt n least then fault at why.LongForm else Ok (record { kind = kind_of major; argument = n }, q)

-- an argument of w bytes
unfoldable pub argument_at : ℕ → ℕ → Width → ℕ → Reader Fault Head
argument_at at major w least q =
    if nat_lt (length q.rest) (byte_len w) then fault at why.CutHead
    else argument_by at major least (from_be_bytes w (take (byte_len w) q.rest)) (skip (byte_len w) q)

-- what stands behind the first byte of a head at the offset
unfoldable pub head_with : ℕ → ℕ → ℕ → Reader Fault Head
head_with at major info q =
    if nat_lt 27 info then fault at why.BadInfo
    else (if (major == 7) && (nat_lt info 20 || nat_lt 22 info) then fault at why.BadSimple
    else (if nat_lt info 24 then Ok (record { kind = kind_of major; argument = info }, q)
    else (if info == 24 then argument_at at major w8 24 q
    else (if info == 25 then argument_at at major w16 256 q
    else (if info == 26 then argument_at at major w32 65536 q
    else argument_at at major w64 4294967296 q)))))

-- the head whose first byte is that of the bytes left
abbrev pub head_by : Place → List ℕ → Outcome Fault Head
head_by p [] = fault p.at why.CutHead
head_by p (first ∷ behind) = head_with p.at (first / 32) (first % 32) (skip 1 p)

-- the head at a place
unfoldable pub head_at : Reader Fault Head
head_at p = head_by p p.rest
