-- Components that are put in their places one by one ascend, and each of them stands once.
use Rattle.std.proofs.Common.{◌≡◌, ℕ, ◌+◌, ◌<◌, take, get_or, cond, List, [], ◌∷◌, ◌++◌, length, map, append-nil, refl, sym, ap, subst, ◌∙◌, arith}
use Rattle.std.specs.Prelude.{◌≢◌}
use Rattle.std.specs.List.{AllByRecursion, flat_map}
use Rattle.std.specs.List.Sorted.{IsPermutation, IsStrictlySortedBy}
use Rattle.std.specs.declared.cmp.Ordering.{Ordering}
use Rattle.std.specs.declared.cmp.Ordering.TheVariants.{Less, Equal, Greater}
use Rattle.std.proofs.lemmas.List.{length-map, map_more, take_more, flat_map_more}
use Rattle.std.proofs.lemmas.List.Sorted.{IsPermutation-refl, IsPermutation-sym, IsPermutation-cons, IsPermutation-append_left, IsPermutation-append_right, IsPermutation-append_comm, IsPermutation-middle, IsPermutation-trans, length_permutation}
use Rattle.std.proofs.lemmas.List.Sums.{sum_by-cons}
use Rattle.device_state.specs.Places.{place, put_by, Ascend}
use Rattle.device_state.specs.declared.rows.ComponentRow.{ComponentRow}
use Rattle.device_state.specs.State.{State}
use Rattle.device_state.specs.Valid.{IsValid}
use Rattle.device_state.proofs.Putting.{C, equal_same, put_ascends}
use Rattle.component_store.specs.Keeping.{components}
use Rattle.device_reports.specs.declared.findings.Finding.{Finding}
use Rattle.device_reports.specs.declared.findings.Finding.TheVariants.{Good, Bad, Unknown}
use Rattle.device_reports.specs.declared.findings.Audited.{Audited}
use Rattle.device_reports.specs.Audit.{audited, placed, findings, is_of}
use Rattle.device_reports.specs.Law.{AuditsAreWhole, count_of}
use Rattle.device_reports.proofs.Owners.{Apart, Distinct, all_both, distinct_components}

-- the identifier
abbrev pub key : Audited → List ℕ
key a = a.id

-- ---- in order

pub placed_ascends : (more all : List Audited) → Ascend key all → Ascend key (placed more all)
placed_ascends [] all up = up
placed_ascends (a ∷ more) all up = placed_ascends more (put_by key a all) (put_ascends key a all up)

pub none_ascend : Ascend key []
unfolding IsStrictlySortedBy
none_ascend = tt

-- more of them, one behind the other
pub placed_more : (front back all : List Audited) → placed (front ++ back) all ≡ placed back (placed front all)
placed_more [] back all = refl
placed_more (a ∷ front) back all = placed_more front back (put_by key a all)

-- one more of those that are gone through
pub placed_next : {X : Type 0} (f : X → Audited) (xs : List X) (i : ℕ) (x : X) (a : Audited) (first mid new : List Audited) → i < length xs → x ≡ get_or xs i x
    → a ≡ f x → mid ≡ placed (map f (take i xs)) first → new ≡ put_by key a mid → new ≡ placed (map f (take (i + 1) xs)) first
placed_next f xs i x a first mid new within is made so put =
    put ∙ ap (λ (b : Audited). put_by key b mid) (made ∙ ap f is) ∙ ap (λ (all : List Audited). put_by key (f (get_or xs i x)) all) so
    ∙ sym (placed_more (map f (take i xs)) (f (get_or xs i x) ∷ []) first) ∙ ap (λ (more : List Audited). placed more first) (sym (map_more f xs i x within))

-- those of one row more
pub placed_rows : {X : Type 0} (f : X → List Audited) (xs : List X) (i : ℕ) (x : X) (first mid new : List Audited) → i < length xs → x ≡ get_or xs i x
    → mid ≡ placed (flat_map f (take i xs)) first → new ≡ placed (f x) mid → new ≡ placed (flat_map f (take (i + 1) xs)) first
placed_rows f xs i x first mid new within is so put =
    put ∙ ap (placed (f x)) so ∙ sym (placed_more (flat_map f (take i xs)) (f x) first)
    ∙ ap (λ (more : List Audited). placed more first) (flat_map_more f [] (take i xs) x ∙ ap (flat_map f) (ap (λ y. take i xs ++ y ∷ []) is ∙ sym (take_more xs i x within)))

-- ---- each once

swapped : (a b : Audited) (all : List Audited) → IsPermutation (a ∷ b ∷ all) (b ∷ a ∷ all)
swapped a b all = IsPermutation-append_left all (a ∷ b ∷ []) (b ∷ a ∷ []) (IsPermutation-append_comm (a ∷ []) (b ∷ []))

put_moves : (a : Audited) (all : List Audited) → Apart key a.id all → IsPermutation (a ∷ all) (put_by key a all)
put_moves a [] apart = IsPermutation-refl (a ∷ [])
put_moves a (b ∷ all) apart = by_place (C a.id b.id) refl (put_moves a all apart.1) where
  by_place : (o : Ordering) → C a.id b.id ≡ o → IsPermutation (a ∷ all) (put_by key a all) → IsPermutation (a ∷ b ∷ all) (place o a b all (put_by key a all))
  by_place Less is later = IsPermutation-refl (a ∷ b ∷ all)
  by_place Equal is later = absurd (apart.0 (equal_same a.id b.id is))
  by_place Greater is later = IsPermutation-trans (a ∷ b ∷ all) (b ∷ a ∷ all) (b ∷ put_by key a all) (swapped a b all) (IsPermutation-cons b (a ∷ all) (put_by key a all) later)

apart_put : (k : List ℕ) (a : Audited) (all : List Audited) → k ≢ a.id → Apart key k all → Apart key k (put_by key a all)
apart_put k a [] other apart = (other, tt)
apart_put k a (b ∷ all) other apart = by_place (C a.id b.id) (apart_put k a all other apart.1) where
  by_place : (o : Ordering) → Apart key k (put_by key a all) → Apart key k (place o a b all (put_by key a all))
  by_place Less later = (other, apart)
  by_place Equal later = (other, apart.1)
  by_place Greater later = (apart.0, later)

placed_moves : (more all : List Audited) → Distinct key more → AllByRecursion (λ a. Apart key a.id all) more → IsPermutation (more ++ all) (placed more all)
placed_moves [] all distinct apart = IsPermutation-refl all
placed_moves (a ∷ more) all distinct apart =
    let back : IsPermutation (a ∷ (more ++ all)) (more ++ a ∷ all) = IsPermutation-sym (more ++ a ∷ all) (a ∷ (more ++ all)) (IsPermutation-middle more a all) in
    let put : IsPermutation (more ++ a ∷ all) (more ++ put_by key a all) = IsPermutation-append_right more (a ∷ all) (put_by key a all) (put_moves a all apart.0) in
    let others : AllByRecursion (λ b. Apart key b.id (put_by key a all)) more =
    all_both (λ (b : Audited) (other : a.id ≢ b.id) (far : Apart key b.id all). apart_put b.id a all (λ same. other (sym same)) far) more distinct.0 apart.1 in
    IsPermutation-trans (a ∷ (more ++ all)) (more ++ a ∷ all) (placed more (put_by key a all)) back
    (IsPermutation-trans (more ++ a ∷ all) (more ++ put_by key a all) (placed more (put_by key a all)) put (placed_moves more (put_by key a all) distinct.1 others))

apart_none : (more : List Audited) → AllByRecursion (λ a. Apart key a.id []) more
apart_none [] = tt
apart_none (a ∷ more) = (tt, apart_none more)

apart_audited : (id : List ℕ) (cs : List ComponentRow) → Apart (λ (c : ComponentRow). c.id) id cs → Apart key id (map audited cs)
apart_audited id [] apart = tt
apart_audited id (c ∷ cs) apart = (apart.0, apart_audited id cs apart.1)

distinct_audited : (cs : List ComponentRow) → Distinct (λ (c : ComponentRow). c.id) cs → Distinct key (map audited cs)
distinct_audited [] distinct = tt
distinct_audited (c ∷ cs) distinct = (apart_audited c.id cs distinct.0, distinct_audited cs distinct.1)

each_once : (s : State) → IsValid s → IsPermutation (map audited (components s.rows)) (findings s)
each_once s valid =
    let all = map audited (components s.rows) in
    subst (λ (front : List Audited). IsPermutation front (findings s)) (append-nil all)
    (placed_moves all [] (distinct_audited (components s.rows) (distinct_components s.rows valid.sound.one_owner)) (apart_none all))

-- ---- the counts

one_kind : (f : Finding) → cond (is_of Good f) 1 0 + cond (is_of Bad f) 1 0 + cond (is_of Unknown f) 1 0 ≡ 1
one_kind Good = refl
one_kind Bad = refl
one_kind Unknown = refl

all_counted : (all : List Audited) → count_of Good all + count_of Bad all + count_of Unknown all ≡ length all
all_counted [] = refl
all_counted (a ∷ all) =
    let later : count_of Good all + count_of Bad all + count_of Unknown all ≡ length all = all_counted all in
    let one : cond (is_of Good a.finding) 1 0 + cond (is_of Bad a.finding) 1 0 + cond (is_of Unknown a.finding) 1 0 ≡ 1 = one_kind a.finding in
    let good : count_of Good (a ∷ all) ≡ cond (is_of Good a.finding) 1 0 + count_of Good all = sum_by-cons (λ (b : Audited). cond (is_of Good b.finding) 1 0) a all in
    let bad : count_of Bad (a ∷ all) ≡ cond (is_of Bad a.finding) 1 0 + count_of Bad all = sum_by-cons (λ (b : Audited). cond (is_of Bad b.finding) 1 0) a all in
    let unknown : count_of Unknown (a ∷ all) ≡ cond (is_of Unknown a.finding) 1 0 + count_of Unknown all = sum_by-cons (λ (b : Audited). cond (is_of Unknown b.finding) 1 0) a all in
    omega (arith, later, one, good, bad, unknown)

whole_count : (s : State) → IsValid s → length (findings s) ≡ length (components s.rows)
whole_count s valid = length_permutation (map audited (components s.rows)) (findings s) (each_once s valid) ∙ length-map (components s.rows) audited

pub audits_are_whole : AuditsAreWhole
audits_are_whole s valid = record {
  each_once = each_once s valid;
  ascend = placed_ascends (map audited (components s.rows)) [] none_ascend;
  count = whole_count s valid;
  counts = all_counted (findings s) ∙ whole_count s valid;
}
