-- No envelope is refused for want of memory.
use Rattle.std.proofs.Common.{◌≡◌, ℕ, Bool, true, false, cond, List, [], ◌∷◌, Option}
use Rattle.std.specs.Prelude.{Result, Ok, Err, nat_le, length, ◌&&◌}
use Rattle.cbor_core.specs.declared.item.Item.{Item}
use Rattle.cbor_core.specs.declared.item.Pair.{Pair}
use Rattle.cbor_core.specs.Views.{unsigned_of, bytes_of, array_of, map_of, field}
use Rattle.cbor_fields.specs.Views.{id_of}
use Rattle.base_types.specs.declared.limits.TheConstants.{COMPONENTS_LIMIT, COMPONENT_ID_LIMIT}
use Rattle.item_codec.specs.Answers.{and_then, mapped, or_fault, IsSettled}
use Rattle.item_codec.specs.Fields.{shaped, within, needed_at, optional_at, required, known, in_array, in_map}
use Rattle.item_codec.specs.Wrapped.{item_in, unwrapped, wrapped}
use Rattle.item_codec.proofs.Public.Settled.{fault_settled, then_settled, optional_settled, needed_settled}
use Rattle.suit_commands.specs.Digests.{wrapped_digest_of}
use Rattle.suit_envelope.specs.declared.fault.EnvelopeFault.{EnvelopeFault}
use Rattle.suit_envelope.specs.declared.fault.EnvelopeFault.TheVariants.{Shape, NoMemory}
use Rattle.suit_envelope.specs.Each.{each_read}
use Rattle.suit_envelope.specs.Wrapper.{wrapper_in, wrapper_of}
use Rattle.suit_envelope.specs.Manifests.{identifier, are_distinct, distinct, components_in, components_of, common_in, common_of, is_version, versioned_in, manifest_in, manifest_of}
use Rattle.suit_envelope.specs.Envelopes.{content_of, envelope_in, envelope_of}

told : (n : ℕ) → Shape n ≡ NoMemory → ⊥
told n e = cc

-- ---- forms

form : {V : Type 0} (n : ℕ) (view : Item → Option V) (x : Item) → IsSettled NoMemory (shaped (Shape n) view x)
form n view x = fault_settled NoMemory (Shape n) (told n) (view x)

unwraps : (n : ℕ) (x : Item) → IsSettled NoMemory (unwrapped (Shape n) x)
unwraps n x = then_settled NoMemory (λ bytes. or_fault (Shape n) (item_in bytes)) (or_fault (Shape n) (bytes_of x)) (fault_settled NoMemory (Shape n) (told n) (bytes_of x))
    (λ bytes. fault_settled NoMemory (Shape n) (told n) (item_in bytes))

module _ {V : Type 0} (n : ℕ) where
  wraps : (view : Item → Result V EnvelopeFault) → ((x : Item) → IsSettled NoMemory (view x)) → (x : Item) → IsSettled NoMemory (wrapped (Shape n) view x)
  wraps view settled x = then_settled NoMemory view (unwrapped (Shape n) x) (unwraps n x) settled

  array : (members : List Item → Result V EnvelopeFault) → ((xs : List Item) → IsSettled NoMemory (members xs)) → (x : Item) → IsSettled NoMemory (in_array (Shape n) members x)
  array members settled x = then_settled NoMemory members (or_fault (Shape n) (array_of x)) (fault_settled NoMemory (Shape n) (told n) (array_of x)) settled

  map : (pairs : List Pair → Result V EnvelopeFault) → ((ps : List Pair) → IsSettled NoMemory (pairs ps)) → (x : Item) → IsSettled NoMemory (in_map (Shape n) pairs x)
  map pairs settled x = then_settled NoMemory pairs (or_fault (Shape n) (map_of x)) (fault_settled NoMemory (Shape n) (told n) (map_of x)) settled

  each : (view : Item → Result V EnvelopeFault) → ((x : Item) → IsSettled NoMemory (view x)) → (xs : List Item) → IsSettled NoMemory (each_read view xs)
  each view settled [] = tt
  each view settled (x ∷ xs) = then_settled NoMemory (λ (v : V). mapped (λ (vs : List V). v ∷ vs) (each_read view xs)) (view x) (settled x)
      (λ v. then_settled NoMemory (λ (vs : List V). Ok (v ∷ vs)) (each_read view xs) (each view settled xs) (λ _. tt))

  -- a field that must be there, and then the others
  module _ {S : Type 0} (view : Item → Result V EnvelopeFault) (settled : (x : Item) → IsSettled NoMemory (view x)) (o : Option Item) where
    must : (others : V → Result S EnvelopeFault) → ((v : V) → IsSettled NoMemory (others v)) → IsSettled NoMemory (required view (Shape n) o others)
    must others more = then_settled NoMemory others (needed_at view (Shape n) o) (needed_settled NoMemory view settled (Shape n) (told n) o) more

    may : (others : Option V → Result S EnvelopeFault) → ((v : Option V) → IsSettled NoMemory (others v)) → IsSettled NoMemory (known view o others)
    may others more = then_settled NoMemory others (optional_at view o) (optional_settled NoMemory view settled o) more

-- ---- the wrapper

wrapper_parts : (xs : List Item) → IsSettled NoMemory (wrapper_in xs)
wrapper_parts [] = told 2
wrapper_parts (d ∷ blocks) = then_settled NoMemory _ (shaped (Shape 2) wrapped_digest_of d) (form 2 wrapped_digest_of d) (λ value.
    then_settled NoMemory _ (shaped (Shape 2) bytes_of d) (form 2 bytes_of d) (λ bytes.
    then_settled NoMemory _ (each_read (shaped (Shape 2) bytes_of) blocks) (each 2 (shaped (Shape 2) bytes_of) (form 2 bytes_of) blocks) (λ _. tt)))

wrapper : (x : Item) → IsSettled NoMemory (wrapper_of x)
wrapper x = wraps 2 (in_array (Shape 2) wrapper_in) (array 2 wrapper_in wrapper_parts) x

-- ---- the manifest

by_test : {V : Type 0} (n : ℕ) (b : Bool) (r : Result V EnvelopeFault) → IsSettled NoMemory r → IsSettled NoMemory (cond b r (Err (Shape n)))
by_test n true r settled = settled
by_test n false r settled = told n

id_settled : (n : ℕ) (x : Item) → IsSettled NoMemory (identifier (Shape n) x)
id_settled n x = then_settled NoMemory (within 0 COMPONENT_ID_LIMIT (Shape n)) (shaped (Shape n) id_of x) (form n id_of x)
    (λ bytes. by_test n (nat_le 0 (length bytes) && nat_le (length bytes) COMPONENT_ID_LIMIT) (Ok bytes) tt)

components : (x : Item) → IsSettled NoMemory (components_of x)
components x = array 13 components_in (λ xs. by_test 13 (nat_le 1 (length xs) && nat_le (length xs) COMPONENTS_LIMIT) (and_then distinct (each_read (identifier (Shape 13)) xs))
    (then_settled NoMemory distinct (each_read (identifier (Shape 13)) xs) (each 13 (identifier (Shape 13)) (id_settled 13) xs) (λ ids. by_test 13 (are_distinct ids) (Ok ids) tt))) x

common : (x : Item) → IsSettled NoMemory (common_of x)
common x = wraps 13 (in_map (Shape 13) common_in) (map 13 common_in (λ ps.
    must 13 components_of components (field 2 ps) _ (λ ids.
    may 13 (shaped (Shape 13) bytes_of) (form 13 bytes_of) (field 4 ps) _ (λ shared. tt)))) x

manifest : (x : Item) → IsSettled NoMemory (manifest_of x)
unfolding manifest_of
manifest x = map 3 manifest_in (λ ps. by_test 3 (is_version (field 1 ps)) (versioned_in ps) (
    must 12 (shaped (Shape 12) unsigned_of) (form 12 unsigned_of) (field 2 ps) _ (λ sequence.
    must 13 common_of common (field 3 ps) _ (λ common.
    must 15 (identifier (Shape 15)) (id_settled 15) (field 5 ps) _ (λ id. tt))))) x

-- ---- the envelope

pub envelope_settled : (x : Item) → IsSettled NoMemory (envelope_of x)
unfolding envelope_of
envelope_settled x = map 0 envelope_in (λ ps.
    must 2 wrapper_of wrapper (field 2 ps) _ (λ wrapper.
    must 3 (wrapped (Shape 3) manifest_of) (wraps 3 manifest_of manifest) (field 3 ps) _ (λ manifest.
    must 3 (shaped (Shape 3) bytes_of) (form 3 bytes_of) (field 3 ps) _ (λ manifest_bytes. tt)))) (content_of x)
