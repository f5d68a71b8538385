-- Bytes are one change at most, and the reader finds it.
use Rattle.std.proofs.Common.{◌≡◌, ℕ, Bool, true, false, List, [], ◌∷◌, Option, Some, None, Result, Ok, Err, refl, ap, sym, subst, ◌∙◌}
use Rattle.std.specs.Prelude.{IfOk}
use Rattle.cbor_core.specs.declared.item.Item.{Item, out-Item}
use Rattle.cbor_core.specs.declared.item.Item.TheVariants as i
use Rattle.cbor_core.specs.Spelling.{Spells}
use Rattle.cbor_core.specs.Views.{is_null}
use Rattle.cbor_core.proofs.Public.Whole.{one_for_one}
use Rattle.trust_anchors.specs.declared.anchors.Anchors.{Anchors}
use Rattle.trust_anchors.specs.Anchors.{AnchorsIs}
use Rattle.trust_anchors.specs.Anchors as Trusted
use Rattle.trust_anchors.proofs.Public.OneAnchors.{one_set}
use Rattle.trust_anchors.specs.declared.fault.AnchorFault.{AnchorFault}
use Rattle.trust_anchors.specs.declared.fault.AnchorFault.TheVariants as anchors
use Rattle.device_state.specs.declared.rows.ManifestRow.{ManifestRow}
use Rattle.device_state.specs.declared.change.Change.{Change}
use Rattle.commit_records.specs.declared.fault.ChangeFault.{ChangeFault}
use Rattle.commit_records.specs.declared.fault.ChangeFault.TheVariants as faults
use Rattle.commit_records.specs.Changes.{AnchorsOrNull, IsFirst, IsSecond, PartsAre, IsChangeItem, ChangeIs}
use Rattle.commit_records.specs.Answers.{Answers, HasAnchors, IsFound, fault_of}
use Rattle.commit_records.specs.Law.{OneChange}

same_some : {A : Type 0} {o : Option A} {a b : A} → o ≡ Some a → o ≡ Some b → a ≡ b
same_some first second = cc

-- the item of anchors is an array, and so it is not null
not_null : (x : Item) (v : Anchors) → AnchorsIs v x → is_null (out-Item x) ≡ true → ⊥
not_null x v is null =
    let array : is_null (out-Item x) ≡ false = ap (λ (y : Item). is_null (out-Item y)) is.small.form.array ∙ rw i.outs-Array refl in
    absurd cc

one_anchors : (x : Item) (a b : Option Anchors) → AnchorsOrNull x a → AnchorsOrNull x b → a ≡ b
one_anchors x None None first second = refl
one_anchors x None (Some w) first second = absurd (not_null x w second first)
one_anchors x (Some v) None first second = absurd (not_null x v first second)
one_anchors x (Some v) (Some w) first second = ap (λ (u : Anchors). Some u) (one_set x v w first second)

abbrev change_of : ℕ → List ManifestRow → Option Anchors → Change
change_of leaf rows anchors = record { leaf = leaf; rows = rows; anchors = anchors }

one_of_parts : (parts : List Item) (v w : Change) → PartsAre parts v → PartsAre parts w → v ≡ w
one_of_parts (version ∷ leaf ∷ rows ∷ []) v w first second =
    ap (λ (n : ℕ). change_of n v.rows v.anchors) (same_some first.leaf_is second.leaf_is)
    ∙ ap (λ (rs : List ManifestRow). change_of w.leaf rs v.anchors) (same_some first.rows_are second.rows_are)
    ∙ ap (λ (o : Option Anchors). change_of w.leaf w.rows o) (first.anchors_are ∙ sym second.anchors_are)
one_of_parts (version ∷ leaf ∷ rows ∷ anchors ∷ []) v w first second =
    ap (λ (n : ℕ). change_of n v.rows v.anchors) (same_some first.leaf_is second.leaf_is)
    ∙ ap (λ (rs : List ManifestRow). change_of w.leaf rs v.anchors) (same_some first.rows_are second.rows_are)
    ∙ ap (λ (o : Option Anchors). change_of w.leaf w.rows o) (one_anchors anchors v.anchors w.anchors first.anchors_are second.anchors_are)
one_of_parts [] v w first second = absurd first
one_of_parts (a ∷ []) v w first second = absurd first
one_of_parts (a ∷ b ∷ []) v w first second = absurd first
one_of_parts (a ∷ b ∷ c ∷ d ∷ e ∷ more) v w first second = absurd first

one_of_item : (x : Item) (v w : Change) → IsChangeItem x v → IsChangeItem x w → v ≡ w
one_of_item x v w first second =
    let same : second.0 ≡ first.0 = same_some second.1 first.1 in
    one_of_parts first.0 v w first.2 (subst (λ (l : List Item). PartsAre l w) same second.2)

-- a change of the bytes is one of the item that they spell
at_item : (bytes : List ℕ) (x : Item) (v : Change) → Spells x bytes → ChangeIs v bytes → IsChangeItem x v
at_item bytes x v spelled is = subst (λ (y : Item). IsChangeItem y v) (one_for_one.one_item is.item x bytes is.spelled spelled) is.change_is

-- bytes are one change at most
pub one_change : OneChange
one_change bytes v w first second = one_of_item first.item v w first.change_is (at_item bytes first.item w first.spelled second)

pub found : (bytes : List ℕ) (x : Item) (r : Result Change ChangeFault) → Spells x bytes → Answers (IsChangeItem x) r → IfOk r (λ v. ChangeIs v bytes)
found bytes x (Ok v) spelled h = record { item = x; spelled = spelled; change_is = h }
found bytes x (Err e) spelled h = tt

pub only : (bytes : List ℕ) (x : Item) (r : Result Change ChangeFault) → Spells x bytes → Answers (IsChangeItem x) r → (v : Change) → ChangeIs v bytes → IsFound r v
only bytes x (Ok w) spelled h v is = one_of_item x w v h (at_item bytes x v spelled is)
only bytes x (Err faults.BadChange) spelled h v is = h v (at_item bytes x v spelled is)
only bytes x (Err faults.NoMemory) spelled h v is = tt

-- what is refused as anchors is refused here
pub anchors_refused : (x : Item) (e : AnchorFault) → ((v : Anchors) → AnchorsIs v x → Trusted.IsFound (Err e) v) → Answers (HasAnchors x) (Err (fault_of e))
anchors_refused x anchors.Shape h = λ v is. h v is
anchors_refused x (anchors.TooMany r) h = λ v is. h v is
anchors_refused x (anchors.BadKey r at) h = λ v is. h v is
anchors_refused x anchors.NoMemory h = tt

-- and so where null may stand, which the item is not
pub null_refused : (x : Item) (e : ChangeFault) → is_null (out-Item x) ≡ false → Answers (HasAnchors x) (Err e) → Answers (AnchorsOrNull x) (Err e)
null_refused x faults.NoMemory other refused = tt
null_refused x faults.BadChange other refused = by_anchors where
  by_anchors : (o : Option Anchors) → AnchorsOrNull x o → ⊥
  by_anchors None null = absurd cc
  by_anchors (Some v) is = refused v is

-- a change whose anchors are refused is refused
pub second_refused : (version leaf rows x : Item) (e : ChangeFault) → Answers (AnchorsOrNull x) (Err e) → Answers (IsSecond version leaf rows x) (Err e)
second_refused version leaf rows x faults.BadChange refused = λ v is. refused v.anchors is.anchors_are
second_refused version leaf rows x faults.NoMemory refused = tt
