-- Where the answer of a book is that of its ledger.
use Rattle.std.proofs.Common.{◌≡◌, ℕ, ◌<◌, Bool, true, List, [], ◌∷◌, length, map, take, get_or, refl, sym, ap, subst, ◌∙◌, inl, inr}
use Rattle.std.specs.Prelude.{nat_le, All, IsTrue, ◌↔◌}
use Rattle.std.specs.List.{AllByRecursion}
use Rattle.std.proofs.lemmas.Bool.{and_parts, and_from, leb-true, le-leb, cases_order}
use Rattle.std.proofs.lemmas.List.{take-map, get_or_default}
use Rattle.std.proofs.lemmas.List.Elements.{All-from_recursion, recursion_from_All}
use Rattle.wave_core.specs.declared.wave.Step.{Step}
use Rattle.wave_core.specs.declared.wave.Wave.{Wave}
use Rattle.wave_core.specs.Ledger.{Ledger}
use Rattle.wave_core.specs.Waves.{AreProper, IsOf, IsDone, IsOpenIn, Open, recorded}
use Rattle.wave_core.specs.Counting.{IsWaveAt, are_enough}

module _ (ledger : Ledger) (wave : Wave) where
  enough_done : (steps : List Step) → are_enough steps (map (recorded ledger wave) steps) ≡ true → AllByRecursion (IsDone ledger wave) steps
  enough_done [] is = tt
  enough_done (s ∷ ss) is =
      let parts = and_parts (nat_le s.needed (recorded ledger wave s)) (are_enough ss (map (recorded ledger wave) ss)) is in
      (leb-true s.needed (recorded ledger wave s) parts.0, enough_done ss parts.1)

  done_enough : (steps : List Step) → AllByRecursion (IsDone ledger wave) steps → are_enough steps (map (recorded ledger wave) steps) ≡ true
  done_enough [] done = refl
  done_enough (s ∷ ss) done =
      and_from (nat_le s.needed (recorded ledger wave s)) (are_enough ss (map (recorded ledger wave) ss)) (le-leb s.needed (recorded ledger wave s) done.0) (done_enough ss done.1)

  -- steps below a place
  open_in : (place : ℕ) (counts : List ℕ) → counts ≡ map (recorded ledger wave) wave.steps
      → IsTrue (are_enough (take place wave.steps) (take place counts)) ↔ All (IsDone ledger wave) (take place wave.steps)
  open_in place counts is =
      let front : take place counts ≡ map (recorded ledger wave) (take place wave.steps) = ap (take place) is ∙ take-map (recorded ledger wave) place wave.steps in
      let test : are_enough (take place wave.steps) (take place counts) ≡ are_enough (take place wave.steps) (map (recorded ledger wave) (take place wave.steps))
      = ap (are_enough (take place wave.steps)) front in (
        λ yes. All-from_recursion (IsDone ledger wave) (take place wave.steps) (enough_done (take place wave.steps) (sym test ∙ yes)),
        λ done. test ∙ done_enough (take place wave.steps) (recursion_from_All (IsDone ledger wave) (take place wave.steps) done),
      )

  -- what is told of the counts of a wave
  pub told : (result : Bool) (place : ℕ) (counts : List ℕ) → result ≡ are_enough (take place wave.steps) (take place counts) → counts ≡ map (recorded ledger wave) wave.steps
      → IsTrue result ↔ All (IsDone ledger wave) (take place wave.steps)
  told result place counts tells is =
      let both = open_in place counts is in
      (λ passes. both.0 (sym tells ∙ passes), λ done. tells ∙ both.1 done)

-- ---- the wave of a class and an identifier

module _ (waves : List Wave) (proper : AreProper waves) (ledger : Ledger) (class id device : List ℕ) where
  -- two waves of one class and one identifier
  twice : (i j : ℕ) (d : Wave) → i < j → j < length waves → IsOf class id (get_or waves i d) → IsOf class id (get_or waves j d) → ⊥
  twice i j d less within one other = proper.apart i j d less within (other.0 ∙ sym one.0, other.1 ∙ sym one.1)

  -- where the wave stands at a number, what is open is what is open in it
  pub open_at : (number : ℕ) (wave : Wave) → IsWaveAt waves class id number → wave ≡ get_or waves number wave → IsOpenIn wave ledger device ↔ Open waves ledger class id device
  open_at number wave at is = (
    λ open_here k d within of. elim (cases_order k number) [
      | inl here ↦ (
          let e : wave ≡ get_or waves k d = is ∙ get_or_at_number k d here in
          subst (λ (w : Wave). IsOpenIn w ledger device) e open_here
          )
      | inr apart ↦ elim apart [
        | inl less ↦ absurd (twice k number d less at.within of (at.is d))
        | inr more ↦ absurd (twice number k d more within (at.is d) of)
      ]
    ],
    λ all. subst (λ (w : Wave). IsOpenIn w ledger device) (sym is) (all number wave at.within (at.is wave)),
  ) where
    get_or_at_number : (k : ℕ) (d : Wave) → k ≡ number → get_or waves number wave ≡ get_or waves k d
    get_or_at_number k d here = get_or_default waves number wave d at.within ∙ ap (λ (n : ℕ). get_or waves n d) (sym here)

  -- where there is none, all is open
  pub open_none : All (λ wave. IsOf class id wave → ⊥) waves → Open waves ledger class id device
  open_none none k d within of = absurd (none k d within of)
