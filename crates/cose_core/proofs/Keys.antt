-- What items give as COSE_Key, and what is written.
use Rattle.std.proofs.Common.{◌≡◌, ℕ, Bool, true, false, List, [], ◌∷◌, ◌++◌, Option, None, Some, arith}
use Rattle.std.specs.Prelude.{Result, Ok, Err, if◌then◌else◌}
use Rattle.cbor_core.specs.declared.item.Item.{Item}
use Rattle.cbor_core.specs.declared.item.Pair.{Pair}
use Rattle.cbor_core.specs.declared.item.Item.TheVariants as i
use Rattle.cbor_core.specs.Spelling.{Spells, IsProper}
use Rattle.cbor_core.specs.Views.{field, bytes_of, map_of}
use Rattle.cbor_core.proofs.Public.KeyOrder.{layers}
use Rattle.cbor_fields.specs.Views.{negative_field}
use Rattle.item_codec.specs.Answers.{IsSettled, or_fault}
use Rattle.item_codec.specs.Fields.{shaped, optional_at, needed_at, required}
use Rattle.item_codec.proofs.Public.Settled.{fault_settled, then_settled, optional_settled, needed_settled}
use Rattle.cose_core.specs.declared.key.CoseKey.{CoseKey}
use Rattle.cose_core.specs.declared.fault.KeyFault.{KeyFault}
use Rattle.cose_core.specs.declared.fault.KeyFault.TheVariants as faults
use Rattle.cose_core.specs.declared.labels.TheConstants.{ALG_HSS_LMS, KEY_KTY, KEY_KID, KEY_ALG, KEY_PUB, KTY_HSS_LMS}
use Rattle.cose_core.specs.Key.{KeyIs, key_in, key_of, kid_pairs, written_key}

-- ---- no refusal is want of memory

told : faults.Shape ≡ faults.NoMemory → ⊥
told e = cc

string_settled : (x : Item) → IsSettled faults.NoMemory (shaped faults.Shape bytes_of x)
string_settled x = fault_settled faults.NoMemory faults.Shape told (bytes_of x)

if_settled : (b : Bool) (r : Result CoseKey KeyFault) → IsSettled faults.NoMemory r → IsSettled faults.NoMemory (if b then r else Err faults.Shape)
if_settled true r s = s
if_settled false r s = told

abbrev with_kid : List Pair → Option (List ℕ) → Result CoseKey KeyFault
with_kid ps kid = required (shaped faults.Shape bytes_of) faults.Shape (negative_field KEY_PUB ps) (λ public. Ok (record { kid = kid; public = public }))

kid_settled : (ps : List Pair) (kid : Option (List ℕ)) → IsSettled faults.NoMemory (with_kid ps kid)
kid_settled ps kid = then_settled faults.NoMemory (λ (public : List ℕ). Ok (record { kid = kid; public = public })) (needed_at (shaped faults.Shape bytes_of) faults.Shape (negative_field KEY_PUB ps))
    (needed_settled faults.NoMemory (shaped faults.Shape bytes_of) string_settled faults.Shape told (negative_field KEY_PUB ps)) (λ _. tt)

pairs_settled : (ps : List Pair) → IsSettled faults.NoMemory (key_in ps)
pairs_settled ps = if_settled _ _ (then_settled faults.NoMemory (with_kid ps) (optional_at (shaped faults.Shape bytes_of) (field KEY_KID ps))
    (optional_settled faults.NoMemory (shaped faults.Shape bytes_of) string_settled (field KEY_KID ps)) (kid_settled ps))

pub key_settled : (x : Item) → IsSettled faults.NoMemory (key_of x)
key_settled x = then_settled faults.NoMemory key_in (or_fault faults.Shape (map_of x)) (fault_settled faults.NoMemory faults.Shape told (map_of x)) pairs_settled

-- ---- what is written

abbrev key_pairs : Option (List ℕ) → List ℕ → List Pair
key_pairs kid public = record { key = i.Unsigned KEY_KTY; value = i.Unsigned KTY_HSS_LMS } ∷ (kid_pairs kid
    ++ record { key = i.Unsigned KEY_ALG; value = i.Negative ALG_HSS_LMS } ∷ record { key = i.Negative KEY_PUB; value = i.Bytes public } ∷ [])

key_proper_by : (kid : Option (List ℕ)) (public : List ℕ) → IsProper (i.Map (key_pairs kid public))
key_proper_by None public = grind (arith, layers)
key_proper_by (Some kid) public = grind (arith, layers)

pub key_proper : (v : CoseKey) → IsProper (written_key v)
key_proper v = key_proper_by v.kid v.public

seen_by : (kid : Option (List ℕ)) (public : List ℕ) → key_in (key_pairs kid public) ≡ Ok (record { kid = kid; public = public })
seen_by None public = simp (i.outs-Unsigned, i.outs-Negative, i.outs-Bytes)
seen_by (Some kid) public = simp (i.outs-Unsigned, i.outs-Negative, i.outs-Bytes)

key_seen : (v : CoseKey) → key_of (written_key v) ≡ Ok v
key_seen v = rw i.outs-Map (seen_by v.kid v.public)

pub key_again : (v : CoseKey) (bytes : List ℕ) → Spells (written_key v) bytes → KeyIs v bytes
key_again v bytes s = record { item = written_key v; spelled = s; is = key_seen v }
