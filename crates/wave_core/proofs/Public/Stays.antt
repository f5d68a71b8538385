-- What is open stays open where no number falls.
use Rattle.std.proofs.Common.{◌≡◌, ℕ, ◌+◌, ◌<◌, ◌≤◌, ◌&&◌, Bool, true, false, cond, List, [], ◌∷◌, take, get_or, Option, Some, None, refl, sym, ap, subst, ◌∙◌, inl, inr, arith}
use Rattle.std.specs.Prelude.{count_by, IfSome}
use Rattle.std.specs.Cmp.Lexicographic.{bytes_decides}
use Rattle.std.proofs.lemmas.Bool.{leb-true, le-leb, cases_Bool}
use Rattle.std.proofs.lemmas.List.Sums.{sum_by-cons}
use Rattle.wave_core.specs.declared.wave.Step.{Step}
use Rattle.wave_core.specs.declared.wave.Wave.{Wave}
use Rattle.wave_core.specs.Ledger.{Ledger, IsNotBelow, NoneFalls, same_bytes}
use Rattle.wave_core.specs.Waves.{reaches, recorded, place_in}
use Rattle.wave_core.specs.Law.{OpenStays, RisesLowerNone}

still_reaches : (sequence : ℕ) (earlier later : Option ℕ) → IsNotBelow earlier later → reaches sequence earlier ≡ true → reaches sequence later ≡ true
still_reaches sequence None later up is = absurd cc
still_reaches sequence (Some number) None up is = absurd up
still_reaches sequence (Some number) (Some n) up is =
    let least : sequence ≤ number = leb-true sequence number is in
    le-leb sequence n (omega (arith, least, up))

-- a test that passes where another does counts no fewer
module _ (t u : List ℕ → Bool) (more : (x : List ℕ) → t x ≡ true → u x ≡ true) where
  count_grows : (xs : List (List ℕ)) → count_by t xs ≤ count_by u xs
  count_grows [] = omega arith
  count_grows (x ∷ xs) =
      let rest : count_by t xs ≤ count_by u xs = count_grows xs in
      let first : count_by t (x ∷ xs) ≡ cond (t x) 1 0 + count_by t xs = sum_by-cons (λ y. cond (t y) 1 0) x xs in
      let second : count_by u (x ∷ xs) ≡ cond (u x) 1 0 + count_by u xs = sum_by-cons (λ y. cond (u y) 1 0) x xs in
      elim (cases_Bool (t x)) [
        | inl passes ↦ (
            let one : ◌≡◌ {A = ℕ} (cond (t x) 1 0) 1 = ap (λ (b : Bool). cond b 1 0) passes in
            let other : ◌≡◌ {A = ℕ} (cond (u x) 1 0) 1 = ap (λ (b : Bool). cond b 1 0) (more x passes) in
            omega (arith, rest, first, second, one, other)
            )
        | inr fails ↦ (
            let none : ◌≡◌ {A = ℕ} (cond (t x) 1 0) 0 = ap (λ (b : Bool). cond b 1 0) fails in
            omega (arith, rest, first, second, none)
            )
      ]

-- no fewer are recorded
pub recorded_grows : (earlier later : Ledger) → NoneFalls earlier later → (wave : Wave) (step : Step) → recorded earlier wave step ≤ recorded later wave step
recorded_grows earlier later up wave step =
    count_grows (λ x. reaches wave.sequence (earlier x wave.id)) (λ x. reaches wave.sequence (later x wave.id))
    (λ x is. still_reaches wave.sequence (earlier x wave.id) (later x wave.id) (up x wave.id) is) step.devices

pub open_still : OpenStays
open_still waves earlier later up class id device open_then k d within of j e below =
    let wave : Wave = get_or waves k d in
    let step : Step = get_or (take (place_in wave device) wave.steps) j e in
    let done : step.needed ≤ recorded earlier wave step = open_then k d within of j e below in
    omega (arith, recorded_grows earlier later up wave step, done)

-- ---- one number that rises

not_below_itself : (number : Option ℕ) → IsNotBelow number number
not_below_itself None = tt
not_below_itself (Some n) = omega arith

not_below_more : (before : Option ℕ) (after : ℕ) → IfSome before (λ number. number < after) → IsNotBelow before (Some after)
not_below_more None after above = tt
not_below_more (Some number) after above = omega (arith, above)

pub rises_lower_none : RisesLowerNone
rises_lower_none ledger device id before after rises d i = by_test (same_bytes d device) (same_bytes i id) refl refl where
  by_test : (here this : Bool) → same_bytes d device ≡ here → same_bytes i id ≡ this → IsNotBelow (ledger d i) (cond (here && this) (Some after) (ledger d i))
  by_test false this other is = not_below_itself (ledger d i)
  by_test true false here other = not_below_itself (ledger d i)
  by_test true true here this =
      let was : ledger d i ≡ before = ap (λ (x : List ℕ). ledger x i) ((bytes_decides d device).0 here) ∙ ap (λ (j : List ℕ). ledger device j) ((bytes_decides i id).0 this) ∙ rises.known in
      subst (λ (number : Option ℕ). IsNotBelow number (Some after)) (sym was) (not_below_more before after rises.above)
