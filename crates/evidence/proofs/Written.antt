-- Pieces written one behind the other spell the evidence.
use Rattle.std.proofs.Common.{◌≡◌, ℕ, ◌<◌, ◌^◌, List, [], ◌∷◌, ◌++◌, length, arith}
use Rattle.std.proofs.lemmas.List.{append-nil, append_assoc}
use Rattle.base_types.specs.Bytes.{IsBytes}
use Rattle.cbor_heads.specs.Head.{head}
use Rattle.cbor_core.specs.declared.item.Item.TheVariants as i
use Rattle.cbor_core.specs.Spelling.{IsProper, Spells}
use Rattle.cbor_core.proofs.Public.KeyOrder.{layers}
use Rattle.cbor_core.proofs.Public.Spell.{spelling_Unsigned, spelling_Bytes, spelling_Array}
use Rattle.cbor_core.proofs.Public.Ranges.{number_ranges, string_ranges, array_ranges}
use Rattle.evidence.specs.declared.ids.DeviceIds.{DeviceIds}
use Rattle.evidence.specs.Claims.{evidence_item}

claims_proper : (ids : DeviceIds) (challenge : List ℕ) → IsProper (evidence_item ids challenge)
claims_proper ids challenge = grind (arith, layers)

-- a byte string of a running program, which has a range and a length
pub record IsString (bytes : List ℕ) : Type 0 where
  pub are : IsBytes bytes
  pub len : length bytes < 2 ^ 64

pub claims_spelled : (ids : DeviceIds) (challenge w0 w1 w2 w3 w4 w5 w6 : List ℕ) → IsString ids.device → IsString ids.vendor → IsString ids.class → IsString challenge
    → w0 ≡ [] → w1 ≡ w0 ++ head 4 5 → w2 ≡ w1 ++ head 0 1 → w3 ≡ w2 ++ (head 2 (length ids.device) ++ ids.device) → w4 ≡ w3 ++ (head 2 (length ids.vendor) ++ ids.vendor)
    → w5 ≡ w4 ++ (head 2 (length ids.class) ++ ids.class) → w6 ≡ w5 ++ (head 2 (length challenge) ++ challenge) → Spells (evidence_item ids challenge) w6
claims_spelled ids challenge w0 w1 w2 w3 w4 w5 w6 device vendor class asked e0 e1 e2 e3 e4 e5 e6 = record {
  proper = claims_proper ids challenge;
  ranges = array_ranges 15 (i.Unsigned 1 ∷ i.Bytes ids.device ∷ i.Bytes ids.vendor ∷ i.Bytes ids.class ∷ i.Bytes challenge ∷ []) (
    number_ranges 15 1 (omega arith),
    (
      string_ranges 15 ids.device device.are device.len,
      (
        string_ranges 15 ids.vendor vendor.are vendor.len,
        (string_ranges 15 ids.class class.are class.len, (string_ranges 15 challenge asked.are asked.len, tt)),
      ),
    ),
  ) (omega arith);
  spelled = rw (e6, e5, e4, e3, e2, e1, e0) (simp (spelling_Array, spelling_Unsigned, spelling_Bytes, append_assoc, append-nil));
}
