-- COSE_Key with an HSS/LMS public key: which bytes are one, and why others are not (RFC 9052, section 7; RFC 8778, section 3).
use Rattle.std.specs.Prelude.{◌==◌, ◌&&◌, ℕ, Bool, true, false, List, [], ◌∷◌, ◌++◌, Option, None, Some, Result, Ok, Err, if◌then◌else◌}
use Rattle.cbor_core.specs.declared.item.Item.{Item, out-Item}
use Rattle.cbor_core.specs.declared.item.Item.TheOpen.{Item-F}
use Rattle.cbor_core.specs.declared.item.Item.TheVariants as i
use Rattle.cbor_core.specs.declared.item.Pair.{Pair}
use Rattle.cbor_core.specs.Views.{field, bytes_of}
use Rattle.cbor_fields.specs.Views.{negative_field}
use Rattle.item_codec.specs.Fields.{shaped, known, required, in_map}
use Rattle.item_codec.specs.Whole.{HasValue, HasRefusal}
use Rattle.cose_core.specs.declared.key.CoseKey.{CoseKey}
use Rattle.cose_core.specs.declared.fault.KeyFault.{KeyFault}
use Rattle.cose_core.specs.declared.fault.KeyFault.TheVariants as faults
use Rattle.cose_core.specs.declared.labels.TheConstants.{ALG_HSS_LMS, KEY_KTY, KEY_KID, KEY_ALG, KEY_PUB, KTY_HSS_LMS}

-- ---- what is read

-- the key type, by its layer
abbrev pub is_kty_by : Item-F Item Pair → Bool
is_kty_by (Item-F.Unsigned n) = n == KTY_HSS_LMS
is_kty_by _ = false

-- the key type is there, and it is HSS-LMS (RFC 8778, section 3)
abbrev pub is_kty : Option Item → Bool
is_kty None = false
is_kty (Some x) = is_kty_by (out-Item x)

-- the algorithm, by its layer
abbrev pub is_alg_by : Item-F Item Pair → Bool
is_alg_by (Item-F.Negative n) = n == ALG_HSS_LMS
is_alg_by _ = false

-- the algorithm is HSS/LMS (RFC 8778, section 3), or none is named
abbrev pub is_alg_if : Option Item → Bool
is_alg_if None = true
is_alg_if (Some x) = is_alg_by (out-Item x)

-- The key of a map: for HSS/LMS and no other algorithm, with its identifier where there is one, and its public part.
-- What stands under other labels is passed over.
abbrev pub key_in : List Pair → Result CoseKey KeyFault
key_in ps =
    if is_kty (field KEY_KTY ps) && is_alg_if (field KEY_ALG ps) then
    known (shaped faults.Shape bytes_of) (field KEY_KID ps) (λ kid.
    required (shaped faults.Shape bytes_of) faults.Shape (negative_field KEY_PUB ps) (λ public.
    Ok (record { kid = kid; public = public })))
    else Err faults.Shape

-- the key of an item, which is a map
abbrev pub key_of : Item → Result CoseKey KeyFault
key_of = in_map faults.Shape key_in

-- the bytes spell an item that is this key
abbrev pub KeyIs : CoseKey → List ℕ → Type 0
KeyIs v bytes = HasValue key_of bytes v

-- the bytes spell no item, and NotCbor says why, or an item that is refused so
abbrev pub KeyRefusedAs : List ℕ → KeyFault → Type 0
KeyRefusedAs bytes fault = HasRefusal (λ f. faults.NotCbor f) key_of bytes fault

-- ---- what is written

-- the pair of a key identifier, where there is one
abbrev pub kid_pairs : Option (List ℕ) → List Pair
kid_pairs None = []
kid_pairs (Some kid) = record { key = i.Unsigned KEY_KID; value = i.Bytes kid } ∷ []

-- {1: 5, 2: kid, 3: -46, -1: public}, without 2 where there is no kid
abbrev pub written_key : CoseKey → Item
written_key v = i.Map (record { key = i.Unsigned KEY_KTY; value = i.Unsigned KTY_HSS_LMS } ∷ (kid_pairs v.kid
    ++ record { key = i.Unsigned KEY_ALG; value = i.Negative ALG_HSS_LMS } ∷ record { key = i.Negative KEY_PUB; value = i.Bytes v.public } ∷ []))
