-- Which states a device may be in.
use Rattle.std.specs.Prelude.{◌≡◌, ◌≢◌, ◌≤◌, ℕ, Bool, true, false, List, [], ◌∷◌, length, map, flat_map, IfSome, AllPairs, IsTrue}
use Rattle.std.specs.List.{AllByRecursion}
use Rattle.base_types.specs.declared.limits.TheConstants.{COMPONENT_ID_LIMIT, COMPONENTS_LIMIT, ANCHORS_LIMIT}
use Rattle.cbor_core.specs.Spelling.{bytes_below}
use Rattle.cbor_fields.specs.Views.{IsIdentifier}
use Rattle.suit_commands.specs.Digests.{IsProperDigest}
use Rattle.hss_sign.specs.Params.{capacity}
use Rattle.trust_anchors.specs.declared.anchors.Anchors.{Anchors}
use Rattle.device_state.specs.declared.rows.ComponentRow.{ComponentRow}
use Rattle.device_state.specs.declared.rows.ManifestRow.{ManifestRow}
use Rattle.device_state.specs.State.{State, weight}

-- the encoding of a component identifier (draft-ietf-suit-manifest, "SUIT_Component_Identifier"), of at most 128 bytes
pub record IsShortId (id : List ℕ) : Type 0 where
  pub identifier : IsIdentifier id
  pub short : length id ≤ COMPONENT_ID_LIMIT

-- a component has such an identifier, and the digest that is kept of it is one
pub record IsComponent (c : ComponentRow) : Type 0 where
  pub id : IsShortId c.id
  pub digest : IfSome c.digest IsProperDigest

-- a manifest that is present has 1 to 16 components, and one that is not has none
abbrev pub IsCount : Bool → ℕ → Type 0
IsCount true n = (1 ≤ n) × (n ≤ COMPONENTS_LIMIT)
IsCount false n = n ≡ 0

-- a manifest has such an identifier, such a count of components, and each of them is one
pub record IsRow (row : ManifestRow) : Type 0 where
  pub id : IsShortId row.id
  pub count : IsCount row.present (length row.components)
  pub components : AllByRecursion IsComponent row.components

-- the identifiers of all components, manifest by manifest
abbrev pub owned : List ManifestRow → List (List ℕ)
owned rows = flat_map (λ row. map (λ c. c.id) row.components) rows

-- no two of these are the same: each component stands once, and has one owner
abbrev pub NoneTwice : List (List ℕ) → Type 0
NoneTwice ids = AllPairs (λ a b. a ≢ b) ids

-- at most 16 keys of each role
pub record AreFew (anchors : Anchors) : Type 0 where
  pub manager : length anchors.manager ≤ ANCHORS_LIMIT
  pub author : length anchors.author ≤ ANCHORS_LIMIT

-- all that a state must be but for its weight
pub record IsSound (s : State) : Type 0 where
  pub leaf : s.leaf ≤ capacity s.config.params
  pub rows : AllByRecursion IsRow s.rows
  pub one_owner : NoneTwice (owned s.rows)
  pub anchors : AreFew s.config.anchors

-- a state that a device may be in: it is sound, and weighs no more than the quota
pub record IsValid (s : State) : Type 0 where
  pub sound : IsSound s
  pub light : weight s ≤ s.config.quota
