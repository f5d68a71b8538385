-- Which items are anchors, and why others are not.
use Rattle.std.specs.Prelude.{◌≡◌, ◌⊎◌, ℕ, ◌≤◌, ◌<◌, List, [], ◌∷◌, length, None, Result, Ok, Err, map}
use Rattle.std.specs.List.{AllByRecursion, AllZip}
use Rattle.cbor_core.specs.declared.item.Item.{Item}
use Rattle.cbor_core.specs.declared.item.Item.TheVariants as i
use Rattle.cbor_core.specs.Spelling.{spelling}
use Rattle.cose_core.specs.declared.key.CoseKey.{CoseKey}
use Rattle.cose_core.specs.Key.{KeyIs, written_key}
use Rattle.hss_verify.specs.Hss.{IsHssPublic}
use Rattle.trust_anchors.specs.declared.anchors.Anchors.{Anchors}
use Rattle.base_types.specs.declared.limits.TheConstants.{ANCHORS_LIMIT}
use Rattle.trust_anchors.specs.declared.role.Role.{Role}
use Rattle.trust_anchors.specs.declared.role.Role.TheVariants as role
use Rattle.trust_anchors.specs.declared.fault.AnchorFault.{AnchorFault}
use Rattle.trust_anchors.specs.declared.fault.AnchorFault.TheVariants as faults
use Rattle.trust_anchors.specs.First.{FirstAt}

-- the keys of a role
abbrev pub keys_of : Role → Anchors → List (List ℕ)
keys_of role.Manager v = v.manager
keys_of role.Author v = v.author

-- the item is a byte string
abbrev pub IsString : Item → Type 0
IsString x = (bytes : List ℕ) × (x ≡ i.Bytes bytes)

-- The item is a byte string that wraps a COSE_Key (RFC 9052, section 7) whose public part is this HSS key (RFC 8554, section 6.1).
-- An identifier in it is read and not kept.
pub record Wraps (public : List ℕ) (x : Item) : Type 0 where
  pub bytes : List ℕ
  pub string : x ≡ i.Bytes bytes
  pub key : CoseKey
  pub wrapped : KeyIs key bytes
  pub same : key.public ≡ public
  pub known : IsHssPublic public

-- the item wraps some key
abbrev pub IsGood : Item → Type 0
IsGood x = (public : List ℕ) × Wraps public x

-- the item wraps no key
abbrev pub IsBad : Item → Type 0
IsBad x = (public : List ℕ) → Wraps public x → ⊥

-- the item is an array of two arrays of byte strings
pub record HasForm (managers authors : List Item) (x : Item) : Type 0 where
  pub array : x ≡ i.Array (i.Array managers ∷ i.Array authors ∷ [])
  pub manager : AllByRecursion IsString managers
  pub author : AllByRecursion IsString authors

-- it has this form, and at most 16 of each role
pub record IsSmall (managers authors : List Item) (x : Item) : Type 0 where
  pub form : HasForm managers authors x
  pub manager : length managers ≤ ANCHORS_LIMIT
  pub author : length authors ≤ ANCHORS_LIMIT

-- the item is these anchors
pub record AnchorsIs (v : Anchors) (x : Item) : Type 0 where
  pub managers : List Item
  pub authors : List Item
  pub small : IsSmall managers authors x
  pub manager : AllZip Wraps v.manager managers
  pub author : AllZip Wraps v.author authors

-- more than 16 keys of the role, and of the manager no more where it is the author
abbrev pub IsOver : Role → List Item → List Item → Type 0
IsOver role.Manager managers authors = ANCHORS_LIMIT < length managers
IsOver role.Author managers authors = (length managers ≤ ANCHORS_LIMIT) × (ANCHORS_LIMIT < length authors)

-- the first byte string that is no key, and where it is the author's, all of the manager's are keys
abbrev pub IsBadAt : Role → ℕ → List Item → List Item → Type 0
IsBadAt role.Manager at managers authors = FirstAt IsGood IsBad managers at
IsBadAt role.Author at managers authors = AllByRecursion IsGood managers × FirstAt IsGood IsBad authors at

-- the form is there, and the role has too many keys
pub record HasTooMany (r : Role) (x : Item) : Type 0 where
  pub managers : List Item
  pub authors : List Item
  pub form : HasForm managers authors x
  pub over : IsOver r managers authors

-- the form is there with few keys, and the one at this place is the first bad one
pub record HasBadKey (r : Role) (at : ℕ) (x : Item) : Type 0 where
  pub managers : List Item
  pub authors : List Item
  pub small : IsSmall managers authors x
  pub bad : IsBadAt r at managers authors

-- the item is refused so: what comes before in this order is good, and this is bad
abbrev pub RefusedAs : Item → AnchorFault → Type 0
RefusedAs x faults.Shape = (managers authors : List Item) → HasForm managers authors x → ⊥
RefusedAs x (faults.TooMany r) = HasTooMany r x
RefusedAs x (faults.BadKey r at) = HasBadKey r at x
RefusedAs x faults.NoMemory = ⊥

-- the answer is these anchors, unless memory ran out
abbrev pub IsFound : Result Anchors AnchorFault → Anchors → Type 0
IsFound (Ok w) v = w ≡ v
IsFound (Err faults.NoMemory) v = Unit {0}
IsFound (Err _) v = ⊥

-- the answer is this refusal, unless memory ran out
abbrev pub IsRefused : Result Anchors AnchorFault → AnchorFault → Type 0
IsRefused (Ok w) e = ⊥
IsRefused (Err d) e = (d ≡ e) ⊎ (d ≡ faults.NoMemory)

-- what the reader of one role's keys answers
abbrev pub KeysReadAs : Role → List Item → Result (List (List ℕ)) AnchorFault → Type 0
KeysReadAs r xs (Ok keys) = AllZip Wraps keys xs
KeysReadAs r xs (Err (faults.BadKey s at)) = (s ≡ r) × FirstAt IsGood IsBad xs at
KeysReadAs r xs (Err faults.NoMemory) = Unit {0}
KeysReadAs r xs (Err _) = ⊥

-- all members are byte strings
abbrev pub AreStrings : List Item → List Item → Type 0
AreStrings managers authors = AllByRecursion IsString managers × AllByRecursion IsString authors

-- each role has 16 keys at most
abbrev pub AreFew : List Item → List Item → Type 0
AreFew managers authors = (length managers ≤ ANCHORS_LIMIT) × (length authors ≤ ANCHORS_LIMIT)

-- what the reader of both roles' keys answers
abbrev pub RolesReadAs : List Item → List Item → Result Anchors AnchorFault → Type 0
RolesReadAs ms bs (Ok v) = AreStrings ms bs × AreFew ms bs × AllZip Wraps v.manager ms × AllZip Wraps v.author bs
RolesReadAs ms bs (Err faults.Shape) = AllByRecursion IsString ms → AllByRecursion IsString bs → ⊥
RolesReadAs ms bs (Err (faults.TooMany r)) = AreStrings ms bs × IsOver r ms bs
RolesReadAs ms bs (Err (faults.BadKey r at)) = AreStrings ms bs × AreFew ms bs × IsBadAt r at ms bs
RolesReadAs ms bs (Err faults.NoMemory) = Unit {0}

-- ---- what is written

-- a key without an identifier, wrapped
abbrev pub wrapped_key : List ℕ → Item
wrapped_key public = i.Bytes (spelling (written_key (record { kid = None; public = public })))

-- the item that anchors are written as
abbrev pub written_anchors : Anchors → Item
written_anchors v = i.Array (i.Array (map wrapped_key v.manager) ∷ i.Array (map wrapped_key v.author) ∷ [])
