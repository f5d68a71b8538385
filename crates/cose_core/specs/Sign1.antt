-- COSE_Sign1: which bytes are one, and why others are not (RFC 9052, section 4.2).
use Rattle.std.specs.Prelude.{◌≡◌, ◌⊎◌, ℕ, List, [], ◌∷◌, Option, None, Some, Result, Ok, Err}
use Rattle.cbor_core.specs.declared.item.Item.{Item}
use Rattle.cbor_core.specs.declared.item.Item.TheVariants as i
use Rattle.cbor_core.specs.declared.item.Pair.{Pair}
use Rattle.cbor_core.specs.Spelling.{IsProper, Spells}
use Rattle.cbor_core.specs.Law.{IsFaultyWhole}
use Rattle.cose_core.specs.declared.sign1.Sign1.{Sign1}
use Rattle.cose_core.specs.declared.fault.CoseFault.{CoseFault}
use Rattle.cose_core.specs.declared.fault.CoseFault.TheVariants as faults
use Rattle.cose_core.specs.declared.labels.TheConstants.{SIGN1_TAG}
use Rattle.cose_core.specs.Headers.{Wraps, IsHssLms, IsUncritical, HasGoodHeaders}

-- a payload that is not here is null (RFC 9052, section 4.1)
abbrev pub payload_item : Option (List ℕ) → Item
payload_item None = i.Null
payload_item (Some bytes) = i.Bytes bytes

-- [protected, unprotected, payload, signature]
abbrev pub untagged : Sign1 → Item
untagged v = i.Array (i.Bytes v.protected ∷ i.Map v.unprotected ∷ payload_item v.payload ∷ i.Bytes v.signature ∷ [])

-- the same with the tag (RFC 9052, section 4.2)
abbrev pub tagged : Sign1 → Item
tagged v = i.Tag SIGN1_TAG (untagged v)

-- The bytes spell the four members, with the tag or without, and the protected bytes stand for these headers.
pub record HasForm (v : Sign1) (bytes : List ℕ) : Type 0 where
  pub spelled : Spells (untagged v) bytes ⊎ Spells (tagged v) bytes
  pub headers : List Pair
  pub wrapped : Wraps v.protected headers

-- the bytes are this COSE_Sign1
pub record Sign1Is (v : Sign1) (bytes : List ℕ) : Type 0 where
  pub form : HasForm v bytes
  pub algorithm : IsHssLms form.headers
  pub uncritical : IsUncritical form.headers

-- an item is spelled, and it has not the form
pub record HasNoForm (bytes : List ℕ) : Type 0 where
  pub item : Item
  pub spelled : Spells item bytes
  pub no_form : (v : Sign1) → HasForm v bytes → ⊥

-- the form is there, and the protected headers do not name HSS/LMS
pub record HasWrongAlg (bytes : List ℕ) : Type 0 where
  pub value : Sign1
  pub form : HasForm value bytes
  pub wrong : ¬ (IsHssLms form.headers)

-- all else is good, and a protected header is critical
pub record HasCritical (bytes : List ℕ) : Type 0 where
  pub value : Sign1
  pub form : HasForm value bytes
  pub algorithm : IsHssLms form.headers
  pub critical : ¬ (IsUncritical form.headers)

-- the bytes are refused so: what comes before in this order is good, and this is bad
abbrev pub RefusedAs : List ℕ → CoseFault → Type 0
RefusedAs bytes (faults.NotCose f) = IsFaultyWhole bytes f
RefusedAs bytes faults.Shape = HasNoForm bytes
RefusedAs bytes faults.WrongAlg = HasWrongAlg bytes
RefusedAs bytes faults.Critical = HasCritical bytes
RefusedAs bytes faults.NoMemory = ⊥

-- the answer is this value, unless memory ran out
abbrev pub IsFound : Result Sign1 CoseFault → Sign1 → Type 0
IsFound (Ok w) v = w ≡ v
IsFound (Err faults.NoMemory) v = Unit {0}
IsFound (Err _) v = ⊥

-- the answer is this refusal, unless memory ran out
abbrev pub IsRefused : Result Sign1 CoseFault → CoseFault → Type 0
IsRefused (Ok w) e = ⊥
IsRefused (Err d) e = (d ≡ e) ⊎ (d ≡ faults.NoMemory)

-- A value that is written and read again: its tagged form is proper, and its headers are taken.
pub record IsProperSign1 (v : Sign1) : Type 0 where
  pub encoded : IsProper (tagged v)
  pub headers : HasGoodHeaders v.protected

-- the tagged form of bytes that are a COSE_Sign1: these bytes, or the tag's one byte and these bytes
pub record IsTaggedForm (v : Sign1) (written : List ℕ) : Type 0 where
  pub with_tag : (bytes : List ℕ) → Spells (tagged v) bytes → written ≡ bytes
  pub without : (bytes : List ℕ) → Spells (untagged v) bytes → written ≡ 0xd2 ∷ bytes
