-- A whole state as bodies: one for each row leads from the head to it, and they have room in a half.
use Rattle.std.proofs.Common.{◌≡◌, ◌≤◌, ◌<◌, ◌+◌, ◌^◌, ℕ, List, [], ◌∷◌, ◌++◌, length, map, Option, Some, None, Result, Ok, Err, Vec, Global, refl, sym, ap, subst, ◌∙◌, arith}
use Rattle.std.specs.Prelude.{IfOk}
use Rattle.std.specs.Prelude.{◌==◌, ◌&&◌, Bool, true, false, nat_eq, vec_len}
use Rattle.std.specs.List.{AllByRecursion}
use Rattle.std.specs.Cmp.Lexicographic.{pointwise, bytes_decides}
use Rattle.std.proofs.lemmas.Slice.Eq.{slice_eq-Decides}
use Rattle.std.proofs.lemmas.List.{length-append}
use Rattle.std.proofs.lemmas.List.Sums.{sum_by-cons}
use Rattle.journal_core.specs.Frames.{frame, frames, AreBodies}
use Rattle.std.specs.Int.{to_be_bytes, w32}
use Rattle.trust_anchors.specs.declared.anchors.Anchors.{Anchors}
use Rattle.commit_records.specs.Changes.{ChangeIs, HasDigest, HaveDigests, anchors_room}
use Rattle.device_config.specs.declared.config.Config.{Config}
use Rattle.device_state.specs.declared.change.Change.{Change}
use Rattle.device_state.specs.declared.rows.ComponentRow.{ComponentRow}
use Rattle.device_state.specs.declared.rows.ManifestRow.{ManifestRow}
use Rattle.device_state.specs.State.{State, new_state, changed, folded, put_row, put_rows, ordered, with_anchors, row_weight, rows_weight}
use Rattle.device_state.specs.Valid.{IsComponent, IsRow}
use Rattle.device_state.specs.Law.{AreInOrder}
use Rattle.device_state.proofs.Orders.{changes_keep_order}
use Rattle.device_image.specs.Stands.{Leads}
use Rattle.device_image.proofs.Leading.{more_leads, none_leads}
use Rattle.component_store.specs.Replacing.{row_changes, LeadFor}

-- ---- what the changes make of a new device

folded_rows : (leaf : ℕ) (rows base : List ManifestRow) (config : Config)
    → folded (row_changes leaf None rows) (record { config = config; leaf = leaf; rows = base }) ≡ record { config = config; leaf = leaf; rows = put_rows rows base }
folded_rows leaf [] base config = refl
folded_rows leaf (row ∷ rows) base config = folded_rows leaf rows (put_row (ordered row) base) config

folded_all : (leaf : ℕ) (anchors : Option Anchors) (row : ManifestRow) (rows : List ManifestRow) (config : Config)
    → folded (row_changes leaf anchors (row ∷ rows)) (new_state config) ≡ record { config = with_anchors anchors config; leaf = leaf; rows = put_rows (row ∷ rows) [] }
folded_all leaf anchors row rows config = folded_rows leaf rows (put_row (ordered row) []) (with_anchors anchors config)

-- a state by its parts
abbrev state_with : ℕ → Config → List ManifestRow → State
state_with leaf config rows = record { config = config; leaf = leaf; rows = rows }

state_by : (leaf : ℕ) {config other : Config} {rows others : List ManifestRow} → config ≡ other → rows ≡ others → state_with leaf config rows ≡ state_with leaf other others
state_by leaf {config} {other} {rows} {others} same equal =
    ap (λ (c : Config). state_with leaf c rows) same ∙ ap (state_with leaf other) equal

-- rows in order, each by itself, lead to the state that has them
pub rows_lead : (leaf : ℕ) (anchors : Option Anchors) (rows : List ManifestRow) (head becomes : Config) (bodies : List (List ℕ)) → AreInOrder rows → (rows ≡ [] → ⊥)
    → with_anchors anchors head ≡ becomes → LeadFor (row_changes leaf anchors rows) bodies → Leads head bodies (record { config = becomes; leaf = leaf; rows = rows })
rows_lead leaf anchors [] head becomes bodies order some same lead = absurd (some refl)
rows_lead leaf anchors (row ∷ rows) head becomes bodies order some same lead =
    subst (λ (s : State). Leads head bodies s) (folded_all leaf anchors row rows head ∙ state_by leaf same (changes_keep_order.again (row ∷ rows) order)) (lead head)

-- and so does the one of a state without rows
pub bare_leads : (leaf : ℕ) (anchors : Option Anchors) (rows : List ManifestRow) (head becomes : Config) (bodies : List (List ℕ)) → rows ≡ []
    → with_anchors anchors head ≡ becomes → LeadFor (record { leaf = leaf; rows = []; anchors = anchors } ∷ []) bodies → Leads head bodies (record { config = becomes; leaf = leaf; rows = rows })
bare_leads leaf anchors rows head becomes bodies none same lead =
    subst (λ (s : State). Leads head bodies s) (state_by leaf same (sym none)) (lead head)

-- ---- body by body

-- the bodies lead to a state, from where the rest of the changes leads to what all lead to
pub record Going (changes rest : List Change) (leaf : ℕ) (bodies : List (List ℕ)) (config : Config) : Type 0 where
  pub state : State
  pub leads : Leads config bodies state
  pub below : state.leaf ≤ leaf
  pub same : folded rest state ≡ folded changes (new_state config)

pub begun : (changes : List Change) (leaf : ℕ) (config : Config) → Going changes changes leaf [] config
begun changes leaf config = record { state = new_state config; leads = none_leads config; below = omega arith; same = refl }

pub gone_on : (changes rest : List Change) (leaf : ℕ) (bodies : List (List ℕ)) (config : Config) (change : Change) (body : List ℕ) → change.leaf ≡ leaf → ChangeIs change body
    → Going changes (change ∷ rest) leaf bodies config → Going changes rest leaf (bodies ++ body ∷ []) config
gone_on changes rest leaf bodies config change body leaf_is is going = record {
  state = changed change going.state;
  leads = more_leads config bodies going.state change body going.leads is (omega (arith, going.below, leaf_is));
  below = omega (arith, leaf_is);
  same = going.same;
}

pub gone_through : (changes : List Change) (leaf : ℕ) (bodies : List (List ℕ)) (config : Config) → Going changes [] leaf bodies config → Leads config bodies (folded changes (new_state config))
gone_through changes leaf bodies config going = subst (λ (s : State). Leads config bodies s) going.same going.leads

-- ---- how long they are

frame_size : (body : List ℕ) → length (frame body) ≡ 5 + length body
frame_size body = (let number : length (to_be_bytes w32 (length body)) ≡ 4 = refl in omega (arith, number, length-append (0xa5 ∷ to_be_bytes w32 (length body)) body))

pub frames_one : (body : List ℕ) → length (frames (body ∷ [])) ≡ 5 + length body
frames_one body = omega (arith, length-append (frame body) [], frame_size body)

pub frames_more : (bodies : List (List ℕ)) (body : List ℕ) → length (frames (bodies ++ body ∷ [])) ≡ length (frames bodies) + 5 + length body
frames_more [] body = omega (arith, frames_one body)
frames_more (b ∷ bodies) body = omega (arith, length-append (frame b) (frames (bodies ++ body ∷ [])), length-append (frame b) (frames bodies), frames_more bodies body)

-- bodies that are not long together are not long each
pub short_bodies : (bodies : List (List ℕ)) → length (frames bodies) < 2 ^ 32 → AreBodies bodies
short_bodies [] short = tt
short_bodies (body ∷ bodies) short =
    let long : length (frames (body ∷ bodies)) ≡ length (frame body) + length (frames bodies) = length-append (frame body) (frames bodies) in
    (omega (arith, short, long, frame_size body), short_bodies bodies (omega (arith, short, long)))

pub weight_more : (row : ManifestRow) (rows : List ManifestRow) → rows_weight (row ∷ rows) ≡ row_weight row + rows_weight rows
weight_more row rows = sum_by-cons (λ n. n) (row_weight row) (map row_weight rows)

pub anchors_least : (o : Option Anchors) → anchors_room o ≤ 2400
anchors_least None = omega arith
anchors_least (Some anchors) = omega arith

-- ---- the digests of a sound state's rows

digests_of : (cs : List ComponentRow) → AllByRecursion IsComponent cs → AllByRecursion HasDigest cs
digests_of [] all = tt
digests_of (c ∷ cs) all = (all.0.digest, digests_of cs all.1)

pub have_digests : (rows : List ManifestRow) → AllByRecursion IsRow rows → AllByRecursion HaveDigests rows
have_digests [] all = tt
have_digests (row ∷ rows) all = (digests_of row.components all.0.components, have_digests rows all.1)

-- ---- the anchors

pub anchors_none : (first change : Option Anchors) (config : Config) → (with_anchors change config).anchors ≡ (with_anchors first config).anchors → with_anchors first config ≡ with_anchors change config
anchors_none None None config same = refl
anchors_none None (Some b) config same = ap (λ (a : Anchors). record config { anchors = a }) (sym same)
anchors_none (Some a) None config same = ap (λ (x : Anchors). record config { anchors = x }) (sym same)
anchors_none (Some a) (Some b) config same = ap (λ (x : Anchors). record config { anchors = x }) (sym same)

pub anchors_some : (first change : Option Anchors) (config : Config) → with_anchors (Some (with_anchors change config).anchors) (with_anchors first config) ≡ with_anchors change config
anchors_some None None config = refl
anchors_some None (Some b) config = refl
anchors_some (Some a) None config = refl
anchors_some (Some a) (Some b) config = refl

abbrev the_anchors : List (List ℕ) → List (List ℕ) → Anchors
the_anchors manager author = record { manager = manager; author = author }

-- an answer that has one property has another
pub led : {V E : Type 0} {P Q : V → Type 0} (r : Result V E) → ((v : V) → P v → Q v) → IfOk r P → IfOk r Q
led (Ok v) more p = more v p
led (Err e) more p = tt

-- rows of which there are some
pub not_empty : (rows : Vec ManifestRow Global) → (vec_len rows == 0) ≡ false → rows.items ≡ [] → ⊥
not_empty rows some none = (let count : vec_len rows ≡ 0 = rows.ok.0 ∙ ap length none in let no : true ≡ false = subst (λ (n : ℕ). (n == 0) ≡ false) count some in cc)

-- ---- anchors that are found to be the same

and_true : (a b : Bool) → (a && b) ≡ true → (a ≡ true) × (b ≡ true)
and_true true b is = (refl, is)
and_true false b is = absurd cc

keys_same : (a b : List (List ℕ)) → pointwise (pointwise nat_eq) a b ≡ true → a ≡ b
keys_same a b is = (slice_eq-Decides {E = pointwise nat_eq} bytes_decides a b (pointwise (pointwise nat_eq) a b) refl).0 is

pub anchors_same : (a b : Anchors) → (pointwise (pointwise nat_eq) a.manager b.manager && pointwise (pointwise nat_eq) a.author b.author) ≡ true → a ≡ b
anchors_same a b is =
    let both = and_true (pointwise (pointwise nat_eq) a.manager b.manager) (pointwise (pointwise nat_eq) a.author b.author) is in
    ap (λ (ks : List (List ℕ)). the_anchors ks a.author) (keys_same a.manager b.manager both.0) ∙ ap (the_anchors b.manager) (keys_same a.author b.author both.1)

keys_equal : (ks : List (List ℕ)) → pointwise (pointwise nat_eq) ks ks ≡ true
keys_equal ks = (slice_eq-Decides {E = pointwise nat_eq} bytes_decides ks ks (pointwise (pointwise nat_eq) ks ks) refl).1 refl

-- anchors that are the same are found to be
pub anchors_equal : (a b : Anchors) → a ≡ b → (pointwise (pointwise nat_eq) a.manager b.manager && pointwise (pointwise nat_eq) a.author b.author) ≡ true
anchors_equal a b is =
    subst (λ (c : Anchors). (pointwise (pointwise nat_eq) a.manager c.manager && pointwise (pointwise nat_eq) a.author c.author) ≡ true) is
    (rw (keys_equal a.manager, keys_equal a.author) refl)
