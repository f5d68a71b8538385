-- What a number that rises in a ledger makes of the counts of waves.
use Rattle.std.proofs.Common.{◌≡◌, ℕ, ◌<◌, ◌≤◌, ◌&&◌, Bool, true, false, cond, List, [], ◌∷◌, map, Option, Some, None, refl, sym, ap, subst, ◌∙◌, inl, inr, arith}
use Rattle.std.specs.Prelude.{not, nat_le, IfSome}
use Rattle.std.specs.List.{AllByRecursion}
use Rattle.std.specs.Cmp.Lexicographic.{bytes_decides}
use Rattle.std.proofs.lemmas.Bool.{cases_Bool, and_parts, and_right, not-true, leb-true, le-leb}
use Rattle.std.proofs.lemmas.Map.Made.{IsDistinct-from_AllPairs}
use Rattle.wave_core.specs.declared.wave.Wave.{Wave}
use Rattle.wave_core.specs.Ledger.{Ledger, Rises, same_bytes, raised}
use Rattle.wave_core.specs.Waves.{IsProperWave, reaches, place_in}
use Rattle.wave_core.specs.Book.{counts_of}
use Rattle.wave_core.specs.Counting.{crosses, more_at, size_at, noted_in, noted}
use Rattle.wave_core.proofs.Apart.{same}
use Rattle.wave_core.proofs.Counted.{counted_agree, counted_more, all_devices}

-- a number that rises without reaching the sequence by it had reached it before, or has not yet
stays_so : (sequence : ℕ) (before : Option ℕ) (after : ℕ) → IfSome before (λ number. number < after) → crosses sequence before after ≡ false
    → reaches sequence (Some after) ≡ reaches sequence before
stays_so sequence None after above none = none
stays_so sequence (Some number) after above none = elim (cases_Bool (nat_le sequence number)) [
  | inl reached ↦ (
      let least : sequence ≤ number = leb-true sequence number reached in
      le-leb sequence after (omega (arith, least, above)) ∙ sym reached
      )
  | inr short ↦ (
      let open_yet : (not false && nat_le sequence after) ≡ false = subst (λ (b : Bool). (not b && nat_le sequence after) ≡ false) short none in
      open_yet ∙ sym short
      )
]

module _ (ledger : Ledger) (device id : List ℕ) (before : Option ℕ) (after : ℕ) (rises : Rises ledger device id before after) where
  later : Ledger
  later = raised device id after ledger

  -- at another device or identifier the ledger is as before
  other_device : (x i : List ℕ) → same_bytes x device ≡ false → raised device id after ledger x i ≡ ledger x i
  other_device x i other = ap (λ (b : Bool). cond (b && same_bytes i id) (Some after) (ledger x i)) other

  other_id : (x i : List ℕ) → same_bytes i id ≡ false → raised device id after ledger x i ≡ ledger x i
  other_id x i other = ap (λ (b : Bool). cond b (Some after) (ledger x i)) (and_right (same_bytes x device) (same_bytes i id) other)

  same_both : (x i : List ℕ) → same_bytes x device ≡ true → same_bytes i id ≡ true → raised device id after ledger x i ≡ Some after
  same_both x i here this = ap (λ (b : Bool). cond (b && same_bytes i id) (Some after) (ledger x i)) here ∙ ap (λ (b : Bool). cond b (Some after) (ledger x i)) this

  was : (x i : List ℕ) → same_bytes x device ≡ true → same_bytes i id ≡ true → ledger x i ≡ before
  was x i here this = ap (λ (y : List ℕ). ledger y i) (same x device here) ∙ ap (λ (j : List ℕ). ledger device j) (same i id this) ∙ rises.known

  module _ (wave : Wave) where
    tests : Ledger → List ℕ → Bool
    tests l x = reaches wave.sequence (l x wave.id)

    place : ℕ
    place = place_in wave device

    by_both : (this crossed : Bool) → same_bytes wave.id id ≡ this → crosses wave.sequence before after ≡ crossed → IsProperWave wave
        → counts_of (raised device id after ledger) wave
        ≡ cond (this && crossed) (more_at (place_in wave device) (size_at wave.steps (place_in wave device)) (counts_of ledger wave)) (counts_of ledger wave)
    by_both false crossed other is proper =
        counted_agree (λ x. reaches wave.sequence (ledger x wave.id)) (λ x. reaches wave.sequence (raised device id after ledger x wave.id))
        (λ x. ap (reaches wave.sequence) (other_id x wave.id other)) wave.steps
    by_both true false this not_crossed proper =
        counted_agree (λ x. reaches wave.sequence (ledger x wave.id)) (λ x. reaches wave.sequence (raised device id after ledger x wave.id))
        (λ x. elim (cases_Bool (same_bytes x device)) [
          | inl here ↦ (
              ap (reaches wave.sequence) (same_both x wave.id here this) ∙ stays_so wave.sequence before after rises.above not_crossed
              ∙ sym (ap (reaches wave.sequence) (was x wave.id here this))
              )
          | inr other ↦ ap (reaches wave.sequence) (other_device x wave.id other)
        ]) wave.steps
    by_both true true this crossed proper =
        let parts = and_parts (not (reaches wave.sequence before)) (reaches wave.sequence (Some after)) crossed in
        let itself : same_bytes device device ≡ true = (bytes_decides device device).1 refl in
        counted_more device (λ x. reaches wave.sequence (ledger x wave.id)) (λ x. reaches wave.sequence (raised device id after ledger x wave.id))
        (λ x other. ap (reaches wave.sequence) (other_device x wave.id other))
        (ap (reaches wave.sequence) (was device wave.id itself this) ∙ not-true (reaches wave.sequence before) parts.0)
        (ap (reaches wave.sequence) (same_both device wave.id itself this) ∙ parts.1)
        wave.steps (IsDistinct-from_AllPairs bytes_decides (all_devices wave.steps) proper.once)

    -- the counts of a wave
    noted_one : IsProperWave wave → counts_of (raised device id after ledger) wave ≡ noted_in device id before after wave (counts_of ledger wave)
    noted_one proper = by_both (same_bytes wave.id id) (crosses wave.sequence before after) refl refl proper

  -- those of all waves
  pub noted_all : (waves : List Wave) → AllByRecursion IsProperWave waves
      → map (counts_of (raised device id after ledger)) waves ≡ noted device id before after waves (map (counts_of ledger) waves)
  noted_all [] proper = refl
  noted_all (w ∷ ws) proper =
      ap (λ (counts : List ℕ). counts ∷ map (counts_of (raised device id after ledger)) ws) (noted_one w proper.0)
      ∙ ap (λ (all : List (List ℕ)). noted_in device id before after w (counts_of ledger w) ∷ all) (noted_all ws proper.1)
