-- Pieces that are written one behind the other spell a signed payload.
use Rattle.std.proofs.Common.{◌≡◌, ℕ, ◌<◌, ◌^◌, List, [], ◌∷◌, ◌++◌, length, subst, arith}
use Rattle.std.proofs.lemmas.List.{append-nil, append_assoc}
use Rattle.base_types.specs.Bytes.{IsBytes}
use Rattle.cbor_heads.specs.Head.{head}
use Rattle.cbor_core.specs.declared.item.Item.TheVariants as i
use Rattle.cbor_core.specs.Spelling.{IsProper, Spells}
use Rattle.cbor_core.proofs.Public.KeyOrder.{layers}
use Rattle.cbor_core.proofs.Public.Spell.{spelling_Unsigned, spelling_Bytes, spelling_Array, spelling_Map, spelling_Tag, pair_spelling_out}
use Rattle.cbor_core.proofs.Public.Ranges.{number_ranges, string_ranges, array_ranges, map_ranges}
use Rattle.cbor_fields.specs.Written.{labelled}
use Rattle.cose_core.specs.Sign1.{tagged}
use Rattle.agent_replies.specs.Envelope.{enveloped}
use Rattle.agent_replies.specs.Signing.{protected}

envelope_proper : (device payload signature : List ℕ) → IsProper (tagged (enveloped device payload signature))
envelope_proper device payload signature = grind (arith, layers)

-- a byte string of a running program, which has a range and a length
pub record IsString (bytes : List ℕ) : Type 0 where
  pub are : IsBytes bytes
  pub len : length bytes < 2 ^ 64

pub envelope_spelled : (headers device payload signature w0 w1 w2 w3 w4 w5 w6 w7 w8 : List ℕ) → headers ≡ protected → IsString headers → IsString device → IsString payload → IsString signature
    → w0 ≡ [] → w1 ≡ w0 ++ head 6 18 → w2 ≡ w1 ++ head 4 4 → w3 ≡ w2 ++ (head 2 (length headers) ++ headers) → w4 ≡ w3 ++ head 5 1 → w5 ≡ w4 ++ head 0 4
    → w6 ≡ w5 ++ (head 2 (length device) ++ device) → w7 ≡ w6 ++ (head 2 (length payload) ++ payload) → w8 ≡ w7 ++ (head 2 (length signature) ++ signature)
    → Spells (tagged (enveloped device payload signature)) w8
envelope_spelled headers device payload signature w0 w1 w2 w3 w4 w5 w6 w7 w8 is front number content signed e0 e1 e2 e3 e4 e5 e6 e7 e8 =
    let heads : IsString protected = subst IsString is front in
    let third : w3 ≡ w2 ++ (head 2 (length protected) ++ protected) = subst (λ (h : List ℕ). w3 ≡ w2 ++ (head 2 (length h) ++ h)) is e3 in
    record {
      proper = envelope_proper device payload signature;
      ranges = rw i.outs-Tag (
        array_ranges 14 (i.Bytes protected ∷ i.Map (labelled 4 (i.Bytes device) ∷ []) ∷ i.Bytes payload ∷ i.Bytes signature ∷ []) (
          string_ranges 14 protected heads.are heads.len,
          (
            map_ranges 13 (labelled 4 (i.Bytes device) ∷ []) ((number_ranges 13 4 (omega arith), string_ranges 13 device number.are number.len), tt) (omega arith),
            (string_ranges 14 payload content.are content.len, (string_ranges 14 signature signed.are signed.len, tt)),
          ),
        ) (omega arith),
        omega arith,
      );
      spelled = rw (e8, e7, e6, e5, e4, third, e2, e1, e0) (simp (spelling_Tag, spelling_Array, spelling_Map, pair_spelling_out, spelling_Unsigned, spelling_Bytes, append_assoc, append-nil));
    }
