-- Pieces that are written one behind the other spell the item that they are parts of.
use Rattle.std.proofs.Common.{rules, ◌≡◌, ℕ, ◌<◌, ◌^◌, List, [], ◌∷◌, ◌++◌, length, Option, Some, None, codes, sym, ap, subst, arith}
use Rattle.std.proofs.lemmas.List.{append-nil, append_assoc}
use Rattle.std.proofs.lemmas.Str.{IsUtf8-from_ascii}
use Rattle.base_types.specs.Bytes.{IsBytes}
use Rattle.cbor_heads.specs.Head.{head}
use Rattle.cbor_core.specs.declared.item.Item.TheVariants as i
use Rattle.cbor_core.specs.Spelling.{spelling, IsProper, HasRangesWithin, Spells}
use Rattle.cbor_core.proofs.Public.KeyOrder.{layers}
use Rattle.cbor_core.proofs.Public.Spell.{spelling_Bytes, spelling_Text, spelling_Array, spelling_Tag, spelling_Null}
use Rattle.cbor_core.proofs.Public.Parts.{parts_are_proper}
use Rattle.cose_core.specs.declared.sign1.Sign1.{Sign1}
use Rattle.cose_core.specs.Sign1.{payload_item, untagged, tagged}
use Rattle.cose_core.specs.Signed.{signed_item}
use Rattle.cbor_core.proofs.Public.Ranges.{two_fewer, string_ranges, text_ranges, array_ranges}

-- ---- what is signed

signed_proper : (protected payload : List ℕ) → IsProper (signed_item protected payload)
signed_proper protected payload = grind (arith, layers)

-- the heads and what stands between them
pub signed_joined : (protected payload text nothing w0 w1 w2 w3 v0 v1 v2 : List ℕ) → w0 ≡ [] → w1 ≡ w0 ++ head 4 4 → text ≡ codes "Signature1" → w2 ≡ w1 ++ (head 3 (length text) ++ text)
    → w3 ≡ w2 ++ head 2 (length protected) → v0 ≡ [] → nothing ≡ [] → v1 ≡ v0 ++ (head 2 (length nothing) ++ nothing) → v2 ≡ v1 ++ head 2 (length payload)
    → w3 ++ (protected ++ (v2 ++ payload)) ≡ spelling (signed_item protected payload)
signed_joined protected payload text nothing w0 w1 w2 w3 v0 v1 v2 e0 e1 is_text e2 e3 f0 is_nothing f1 f2 =
    rw (e3, e2, e1, e0, f2, f1, f0, is_text, is_nothing) (simp (spelling_Array, spelling_Text, spelling_Bytes, append_assoc, append-nil))

-- four pieces, written one behind the other
pub in_pieces : (a b c d w0 w1 w2 w3 w4 : List ℕ) → w0 ≡ [] → w1 ≡ w0 ++ a → w2 ≡ w1 ++ b → w3 ≡ w2 ++ c → w4 ≡ w3 ++ d → w4 ≡ a ++ (b ++ (c ++ d))
in_pieces a b c d w0 w1 w2 w3 w4 e0 e1 e2 e3 e4 = rw (e4, e3, e2, e1, e0) (simp append_assoc)

-- bytes with the heads between them are what a signature is of
pub signed_spelled : (protected payload bytes : List ℕ) → IsBytes protected → length protected < 2 ^ 64 → IsBytes payload → length payload < 2 ^ 64
    → bytes ≡ spelling (signed_item protected payload) → Spells (signed_item protected payload) bytes
signed_spelled protected payload bytes are len payload_are payload_len is = record {
  proper = signed_proper protected payload;
  ranges = array_ranges 15 (i.Text (codes "Signature1") ∷ i.Bytes protected ∷ i.Bytes [] ∷ i.Bytes payload ∷ []) (
    text_ranges 15 (codes "Signature1") (IsUtf8-from_ascii (codes "Signature1") (search rules)) (omega arith),
    (
      string_ranges 15 protected are len,
      (string_ranges 15 [] (λ k. omega arith) (omega arith), (string_ranges 15 payload payload_are payload_len, tt)),
    ),
  ) (omega arith);
  spelled = is;
}

-- ---- a COSE_Sign1

-- the headers of a proper message are proper, to be encoded alone
pub headers_proper : (v : Sign1) → IsProper (tagged v) → IsProper (i.Map v.unprotected)
headers_proper v proper = (parts_are_proper.members (i.Bytes v.protected ∷ i.Map v.unprotected ∷ payload_item v.payload ∷ i.Bytes v.signature ∷ []) (parts_are_proper.content 18 (untagged v) proper)).1.0

pub sign1_spelled : (v : Sign1) (headers w0 w1 w2 w3 w4 w5 w6 : List ℕ) → IsProper (tagged v) → Spells (i.Map v.unprotected) headers → w0 ≡ [] → w1 ≡ w0 ++ head 6 18 → w2 ≡ w1 ++ head 4 4
    → IsBytes v.protected → length v.protected < 2 ^ 64 → w3 ≡ w2 ++ (head 2 (length v.protected) ++ v.protected) → w4 ≡ w3 ++ headers
    → HasRangesWithin 14 (payload_item v.payload) → w5 ≡ w4 ++ spelling (payload_item v.payload) → IsBytes v.signature → length v.signature < 2 ^ 64 → w6 ≡ w5 ++ (head 2 (length v.signature) ++ v.signature)
    → Spells (tagged v) w6
sign1_spelled v headers w0 w1 w2 w3 w4 w5 w6 proper h e0 e1 e2 are len e3 e4 payload e5 signature_are signature_len e6 = record {
  proper = proper;
  ranges = rw i.outs-Tag (
    array_ranges 14 (i.Bytes v.protected ∷ i.Map v.unprotected ∷ payload_item v.payload ∷ i.Bytes v.signature ∷ [])
        (string_ranges 14 v.protected are len, (two_fewer (i.Map v.unprotected) h.ranges, (payload, (string_ranges 14 v.signature signature_are signature_len, tt)))) (omega arith),
    omega arith,
  );
  spelled = rw (e6, e5, e4, e3, e2, e1, e0, h.spelled) (simp (spelling_Tag, spelling_Array, spelling_Bytes, append_assoc, append-nil));
}

-- the same of the parts as they were seen
pub sign1_written : (v : Sign1) (headers p g s w0 w1 w2 w3 w4 w5 w6 : List ℕ) → IsProper (tagged v) → Spells (i.Map v.unprotected) headers → p ≡ v.protected → g ≡ headers → s ≡ v.signature
    → w0 ≡ [] → w1 ≡ w0 ++ head 6 18 → w2 ≡ w1 ++ head 4 4 → IsBytes p → length p < 2 ^ 64 → w3 ≡ w2 ++ (head 2 (length p) ++ p) → w4 ≡ w3 ++ g
    → HasRangesWithin 14 (payload_item v.payload) → w5 ≡ w4 ++ spelling (payload_item v.payload) → IsBytes s → length s < 2 ^ 64 → w6 ≡ w5 ++ (head 2 (length s) ++ s)
    → Spells (tagged v) w6
sign1_written v headers p g s w0 w1 w2 w3 w4 w5 w6 proper h is_p is_g is_s e0 e1 e2 p_are p_len e3 e4 payload e5 s_are s_len e6 =
    sign1_spelled v headers w0 w1 w2 w3 w4 w5 w6 proper h e0 e1 e2
    (subst IsBytes is_p p_are) (subst (λ (t : List ℕ). length t < 2 ^ 64) is_p p_len) (subst (λ (t : List ℕ). w3 ≡ w2 ++ (head 2 (length t) ++ t)) is_p e3)
    (subst (λ (t : List ℕ). w4 ≡ w3 ++ t) is_g e4) payload e5
    (subst IsBytes is_s s_are) (subst (λ (t : List ℕ). length t < 2 ^ 64) is_s s_len) (subst (λ (t : List ℕ). w6 ≡ w5 ++ (head 2 (length t) ++ t)) is_s e6)

-- ---- a payload

null_ranges : HasRangesWithin 14 (payload_item None)
null_ranges = rw i.outs-Null tt

pub null_in_range : (payload : Option (List ℕ)) → payload ≡ None → HasRangesWithin 14 (payload_item payload)
null_in_range payload is = subst (λ (o : Option (List ℕ)). HasRangesWithin 14 (payload_item o)) (sym is) null_ranges

pub null_written : (old : List ℕ) (payload : Option (List ℕ)) → payload ≡ None → old ++ 246 ∷ [] ≡ old ++ spelling (payload_item payload)
null_written old payload is = rw is (ap (λ (t : List ℕ). old ++ t) (sym spelling_Null))

pub string_in_range : (payload : Option (List ℕ)) (bytes seen : List ℕ) → payload ≡ Some bytes → seen ≡ bytes → IsBytes seen → length seen < 2 ^ 64 → HasRangesWithin 14 (payload_item payload)
string_in_range payload bytes seen is same are len = subst (λ (o : Option (List ℕ)). HasRangesWithin 14 (payload_item o)) (sym is) (string_ranges 14 bytes (subst IsBytes same are) (subst (λ (t : List ℕ). length t < 2 ^ 64) same len))

pub string_written : (old : List ℕ) (payload : Option (List ℕ)) (bytes seen : List ℕ) → payload ≡ Some bytes → seen ≡ bytes → old ++ (head 2 (length seen) ++ seen) ≡ old ++ spelling (payload_item payload)
string_written old payload bytes seen is same = rw (is, same) (ap (λ (t : List ℕ). old ++ t) (sym (spelling_Bytes bytes)))
