-- What becomes of the counts of steps where one device passes that did not.
use Rattle.std.proofs.Common.{◌≡◌, ℕ, suc, ◌+◌, ◌<◌, ◌≤◌, Bool, true, false, cond, List, [], ◌∷◌, length, map, refl, sym, ap, subst, ◌∙◌, inl, inr, arith}
use Rattle.std.specs.Prelude.{not, count_by, flat_map}
use Rattle.std.specs.List.{position_or_len, IsDistinct}
use Rattle.std.proofs.lemmas.Bool.{or_cases, or_parts, cases_Bool, lt-ltb}
use Rattle.std.proofs.lemmas.List.Sums.{sum_by-cons, count_by-le-length}
use Rattle.std.proofs.lemmas.List.Folds.{list_any-append}
use Rattle.wave_core.specs.declared.wave.Step.{Step}
use Rattle.wave_core.specs.Ledger.{same_bytes}
use Rattle.wave_core.specs.Waves.{lists}
use Rattle.wave_core.specs.Counting.{one_more, more_at, size_at}
use Rattle.wave_core.proofs.Apart.{among, same, left, right, first_alone, rest_apart, one_side}

-- how many devices of each step pass
abbrev pub counted : (List ℕ → Bool) → List Step → List ℕ
counted passes steps = map (λ step. count_by passes step.devices) steps

-- the devices of all steps
abbrev pub all_devices : List Step → List (List ℕ)
all_devices steps = flat_map (λ step. step.devices) steps

count_cons : (t : List ℕ → Bool) (x : List ℕ) (xs : List (List ℕ)) → count_by t (x ∷ xs) ≡ cond (t x) 1 0 + count_by t xs
count_cons t x xs = sum_by-cons (λ y. cond (t y) 1 0) x xs

-- ---- two tests that agree count the same

pub count_agree : (t u : List ℕ → Bool) → ((x : List ℕ) → u x ≡ t x) → (xs : List (List ℕ)) → count_by u xs ≡ count_by t xs
count_agree t u agree [] = refl
count_agree t u agree (x ∷ xs) =
    let rest : count_by u xs ≡ count_by t xs = count_agree t u agree xs in
    count_cons u x xs ∙ ap (λ (b : Bool). cond b 1 0 + count_by u xs) (agree x) ∙ ap (λ (n : ℕ). cond (t x) 1 0 + n) rest ∙ sym (count_cons t x xs)

pub counted_agree : (t u : List ℕ → Bool) → ((x : List ℕ) → u x ≡ t x) → (steps : List Step) → counted u steps ≡ counted t steps
counted_agree t u agree [] = refl
counted_agree t u agree (s ∷ ss) =
    ap (λ (n : ℕ). n ∷ counted u ss) (count_agree t u agree s.devices) ∙ ap (λ (ns : List ℕ). count_by t s.devices ∷ ns) (counted_agree t u agree ss)

-- ---- one device passes the second test, and not the first; at all others they agree

module _ (device : List ℕ) (t u : List ℕ → Bool) (others : (x : List ℕ) → same_bytes x device ≡ false → u x ≡ t x) (before : t device ≡ false) (after : u device ≡ true) where
  -- where the device does not stand
  count_without : (xs : List (List ℕ)) → among device xs ≡ false → count_by u xs ≡ count_by t xs
  count_without [] none = refl
  count_without (x ∷ xs) none =
      let parts = or_parts (same_bytes x device) (among device xs) none in
      let rest : count_by u xs ≡ count_by t xs = count_without xs parts.1 in
      count_cons u x xs ∙ ap (λ (b : Bool). cond b 1 0 + count_by u xs) (others x parts.0) ∙ ap (λ (n : ℕ). cond (t x) 1 0 + n) rest ∙ sym (count_cons t x xs)

  -- where it stands, and once alone
  count_with : (xs : List (List ℕ)) → among device xs ≡ true → IsDistinct same_bytes xs → count_by u xs ≡ count_by t xs + 1
  count_with [] is apart = absurd cc
  count_with (x ∷ xs) is apart = elim (cases_Bool (same_bytes x device)) [
    | inl here ↦ (
        let x_is : x ≡ device = same x device here in
        let alone : among device xs ≡ false = subst (λ (y : List ℕ). among y xs ≡ false) x_is (first_alone x xs apart) in
        let rest : count_by u xs ≡ count_by t xs = count_without xs alone in
        let now : u x ≡ true = subst (λ (y : List ℕ). u y ≡ true) (sym x_is) after in
        let then : t x ≡ false = subst (λ (y : List ℕ). t y ≡ false) (sym x_is) before in
        let one : count_by u (x ∷ xs) ≡ 1 + count_by u xs = count_cons u x xs ∙ ap (λ (b : Bool). cond b 1 0 + count_by u xs) now in
        let none : count_by t (x ∷ xs) ≡ 0 + count_by t xs = count_cons t x xs ∙ ap (λ (b : Bool). cond b 1 0 + count_by t xs) then in
        omega (arith, one, none, rest)
        )
    | inr other ↦ (
        let there : among device xs ≡ true = elim (or_cases (same_bytes x device) (among device xs) is) [ inl here ↦ absurd cc | inr there ↦ there ] in
        let rest : count_by u xs ≡ count_by t xs + 1 = count_with xs there (rest_apart x xs apart) in
        let one : count_by u (x ∷ xs) ≡ cond (t x) 1 0 + count_by u xs = count_cons u x xs ∙ ap (λ (b : Bool). cond b 1 0 + count_by u xs) (others x other) in
        let none : count_by t (x ∷ xs) ≡ cond (t x) 1 0 + count_by t xs = count_cons t x xs in
        omega (arith, one, none, rest)
        )
  ]

  -- steps of which none lists the device
  counted_without : (steps : List Step) → among device (all_devices steps) ≡ false → counted u steps ≡ counted t steps
  counted_without [] none = refl
  counted_without (s ∷ ss) none =
      let parts = or_parts (among device s.devices) (among device (all_devices ss)) (sym (list_any-append (λ y. same_bytes y device) s.devices (all_devices ss)) ∙ none) in
      ap (λ (n : ℕ). n ∷ counted u ss) (count_without s.devices parts.0) ∙ ap (λ (ns : List ℕ). count_by t s.devices ∷ ns) (counted_without ss parts.1)

  -- one more is within the number of the step's devices
  one_within : (xs : List (List ℕ)) → count_by u xs ≡ count_by t xs + 1 → count_by u xs ≡ one_more (length xs) (count_by t xs)
  one_within xs more =
      let most : count_by u xs ≤ length xs = count_by-le-length u xs in
      let below : count_by t xs < length xs = omega (arith, most, more) in
      more ∙ sym (ap (λ (b : Bool). cond b (count_by t xs + 1) (count_by t xs)) (lt-ltb (count_by t xs) (length xs) below))

  at_place : List Step → ℕ → List ℕ
  at_place steps place = more_at place (size_at steps place) (counted t steps)

  -- one more in the step that lists the device
  pub counted_more : (steps : List Step) → IsDistinct same_bytes (all_devices steps)
      → counted u steps ≡ (let place = position_or_len (lists device) steps in more_at place (size_at steps place) (counted t steps))
  unfolding at_place
  counted_more [] apart = refl
  counted_more (s ∷ ss) apart =
      let later : ℕ = position_or_len (lists device) ss in
      elim (cases_Bool (lists device s)) [
        | inl here ↦ (
            let alone : among device (all_devices ss) ≡ false = one_side device s.devices (all_devices ss) apart here in
            let first : count_by u s.devices ≡ one_more (length s.devices) (count_by t s.devices)
            = one_within s.devices (count_with s.devices here (left s.devices (all_devices ss) apart)) in
            ap (λ (n : ℕ). n ∷ counted u ss) first ∙ ap (λ (ns : List ℕ). one_more (length s.devices) (count_by t s.devices) ∷ ns) (counted_without ss alone)
            ∙ sym (ap (λ (b : Bool). at_place (s ∷ ss) (cond (not b) (1 + later) 0)) here)
            )
        | inr other ↦ (
            let next : 1 + later ≡ suc later = omega arith in
            ap (λ (n : ℕ). n ∷ counted u ss) (count_without s.devices other)
            ∙ ap (λ (ns : List ℕ). count_by t s.devices ∷ ns) (counted_more ss (right s.devices (all_devices ss) apart))
            ∙ sym (ap (at_place (s ∷ ss)) next)
            ∙ sym (ap (λ (b : Bool). at_place (s ∷ ss) (cond (not b) (1 + later) 0)) other)
            )
      ]

-- a test that nothing passes counts none
pub count_none : (xs : List (List ℕ)) → count_by (λ x. false) xs ≡ 0
count_none [] = refl
count_none (x ∷ xs) = count_cons (λ y. false) x xs ∙ ap (λ (n : ℕ). 0 + n) (count_none xs)
