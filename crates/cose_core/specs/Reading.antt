-- How an item is looked at to find the members of a COSE_Sign1 in it.
use Rattle.std.specs.Prelude.{◌≡◌, ◌==◌, ℕ, List, [], ◌∷◌, Option, None, Some, Result, Ok, Err, if◌then◌else◌, option_map, option_and_then}
use Rattle.cbor_core.specs.declared.item.Item.{Item, out-Item}
use Rattle.cbor_core.specs.declared.item.Item.TheOpen.{Item-F}
use Rattle.cbor_core.specs.declared.item.Pair.{Pair}
use Rattle.cbor_core.specs.Views.{bytes_of, map_of}
use Rattle.cose_core.specs.declared.sign1.Sign1.{Sign1}
use Rattle.cose_core.specs.declared.fault.CoseFault.{CoseFault}
use Rattle.cose_core.specs.declared.fault.CoseFault.TheVariants as faults
use Rattle.cose_core.specs.declared.labels.TheConstants.{SIGN1_TAG}
use Rattle.cose_core.specs.Headers.{Wraps, IsHssLms, IsUncritical, HasGoodHeaders}

-- a payload: bytes, or null for none
abbrev pub payload_by : Item-F Item Pair → Option (Option (List ℕ))
payload_by (Item-F.Bytes bytes) = Some (Some bytes)
payload_by Item-F.Null = Some None
payload_by _ = None

-- the payload of an item: a byte string, or null where it is not here
abbrev pub payload_of : Item → Option (Option (List ℕ))
payload_of x = payload_by (out-Item x)

-- the value of four members, each of its form
abbrev pub four_by : Item → Item → Item → Item → Option Sign1
four_by protected unprotected payload signature =
    option_and_then (λ s. option_and_then (λ c. option_and_then (λ u.
    option_map (λ p. record { protected = p; unprotected = u; payload = c; signature = s })
    (bytes_of protected)) (map_of unprotected)) (payload_of payload)) (bytes_of signature)

-- the four members
abbrev pub members_by : List Item → Option Sign1
members_by (p ∷ u ∷ c ∷ s ∷ []) = four_by p u c s
members_by _ = None

-- an item without the tag, by its layer
abbrev pub content_by : Item → Item-F Item Pair → Item
content_by x (Item-F.Tag n y) = if n == SIGN1_TAG then y else x
content_by x _ = x

-- an item without the tag, where it has it
abbrev pub content_of : Item → Item
content_of x = content_by x (out-Item x)

-- what stands in an array, by its layer
abbrev pub array_members : Item-F Item Pair → Option Sign1
array_members (Item-F.Array members) = members_by members
array_members _ = None

-- what stands in an item, with the tag or without
abbrev pub form_of : Item → Option Sign1
form_of x = array_members (out-Item (content_of x))

-- ---- the answers of the parts of the reader

-- what the reader of protected bytes answers
pub record IsWrongAlg (bytes : List ℕ) : Type 0 where
  pub headers : List Pair
  pub wrapped : Wraps bytes headers
  pub wrong : ¬ (IsHssLms headers)

-- all else is good, and a header is critical
pub record IsCritical (bytes : List ℕ) : Type 0 where
  pub headers : List Pair
  pub wrapped : Wraps bytes headers
  pub algorithm : IsHssLms headers
  pub critical : ¬ (IsUncritical headers)

-- what a look at the protected headers says
abbrev pub CheckedAs : {T : Type 0} → List ℕ → Result T CoseFault → Type 0
CheckedAs bytes (Ok _) = HasGoodHeaders bytes
CheckedAs bytes (Err (faults.NotCose f)) = ⊥
CheckedAs bytes (Err faults.Shape) = (headers : List Pair) → Wraps bytes headers → ⊥
CheckedAs bytes (Err faults.WrongAlg) = IsWrongAlg bytes
CheckedAs bytes (Err faults.Critical) = IsCritical bytes
CheckedAs bytes (Err faults.NoMemory) = Unit {0}

-- what the reader of an item answers
abbrev pub ReadAs : Item → Result Sign1 CoseFault → Type 0
ReadAs x (Ok v) = (form_of x ≡ Some v) × HasGoodHeaders v.protected
ReadAs x (Err (faults.NotCose f)) = ⊥
ReadAs x (Err faults.Shape) = (v : Sign1) → form_of x ≡ Some v → (headers : List Pair) → Wraps v.protected headers → ⊥
ReadAs x (Err faults.WrongAlg) = (v : Sign1) × (form_of x ≡ Some v) × IsWrongAlg v.protected
ReadAs x (Err faults.Critical) = (v : Sign1) × (form_of x ≡ Some v) × IsCritical v.protected
ReadAs x (Err faults.NoMemory) = Unit {0}
