-- The first bodies of a half, and what may stand behind them.
use Rattle.std.proofs.Common.{◌≡◌, ◌≢◌, ℕ, ◌+◌, ◌-◌, ◌<◌, ◌≤◌, ◌⊎◌, inl, inr, List, [], ◌∷◌, ◌++◌, length, take, drop, get_or, refl, sym, ◌∙◌, ap, arith, length-append}
use Rattle.std.proofs.lemmas.List.{take_at, drop_at}
use Rattle.std.proofs.lemmas.Grind.{flat_map-append}
use Rattle.std.specs.Int.{from_be_bytes, to_be_bytes, w32}
use Rattle.std.proofs.lemmas.Nat.{from_be_bytes-to_be_bytes_4}
use Rattle.journal_core.specs.Frames.{frame, frames, AreBodies}
use Rattle.journal_core.specs.Region.{HalfStands}
use Rattle.journal_core.proofs.Unframing.{opening, length-frame, behind_frame}
use Rattle.journal_core.proofs.Prefixes.{GoesOn, goes_on}

pub length-frames : (bodies rest : List (List ℕ)) → length (frames (bodies ++ rest)) ≡ length (frames bodies) + length (frames rest)
length-frames bodies rest = ap (λ (l : List ℕ). length l) (flat_map-append frame bodies rest) ∙ length-append (frames bodies) (frames rest)

-- where so many bytes of the half are left, a gate, or an open one's frame and the next gate, reach past it
abbrev pub OverrunBy : ℕ → List ℕ → Type 0
OverrunBy room bytes = (room < 1) ⊎ ((get_or bytes 0 0 ≡ 0xa5) × ((room < 6) ⊎ (room < 6 + from_be_bytes w32 (take 4 (drop 1 bytes)))))

module _ (at half : ℕ) (image : List ℕ) (bodies : List (List ℕ)) (before more : List ℕ) (whole : image ≡ before ++ (frames bodies ++ more)) (place : length before ≡ at) (sizes : AreBodies bodies) where
  -- what a list of the half has behind them
  pub follows : (others : List (List ℕ)) (stands : HalfStands at half image others) → GoesOn bodies others more stands.gate stands.behind
  follows others stands = goes_on bodies others more stands.gate stands.behind sizes stands.sizes stands.shut
      (sym (drop_at before (frames bodies ++ more) at place) ∙ ap (λ (l : List ℕ). drop at l) (sym whole ∙ stands.whole)
      ∙ drop_at stands.before (frames others ++ stands.gate ∷ stands.behind) at stands.place)

  -- a list of the half leaves room for its frames and the gate behind them
  too_far : (room : ℕ) (rest : List (List ℕ)) (gate : ℕ) (behind : List ℕ) → gate ≢ 0xa5 → more ≡ frames rest ++ gate ∷ behind → length (frames rest) + 1 ≤ room → AreBodies rest → OverrunBy room more → ⊥
  too_far room rest gate behind shut is fits rest_sizes (inl none) = omega (arith, none, fits)
  too_far room [] gate behind shut is fits rest_sizes (inr x) = shut (sym (ap (λ (l : List ℕ). get_or l 0 0) is) ∙ x.0)
  too_far room (d ∷ ds) gate behind shut is fits rest_sizes (inr x) =
      let more_is : more ≡ opening (length d) ++ (d ++ (frames ds ++ gate ∷ behind)) = is ∙ behind_frame d ds (gate ∷ behind) in
      let number : from_be_bytes w32 (take 4 (drop 1 more)) ≡ length d =
      ap (λ (l : List ℕ). from_be_bytes w32 (take 4 (drop 1 l))) more_is
      ∙ ap (λ (l : List ℕ). from_be_bytes w32 l) (take_at (to_be_bytes w32 (length d)) (d ++ (frames ds ++ gate ∷ behind)) 4 refl) ∙ from_be_bytes-to_be_bytes_4 (length d) rest_sizes.0 in
      let long : 6 + length d ≤ room = omega (arith, fits, length-append (frame d) (frames ds), length-frame d) in
      elim x.1 [ inl short ↦ omega (arith, short, long) | inr short ↦ omega (arith, short, long, number) ]

  pub front_overruns : OverrunBy (half - length (frames bodies)) more → length (frames bodies) ≤ half → (others : List (List ℕ)) → HalfStands at half image others → ⊥
  front_overruns over used_within others stands =
      let f = follows others stands in
      let long : length (frames others) ≡ length (frames bodies) + length (frames f.rest) = ap (λ (l : List (List ℕ)). length (frames l)) f.others_are ∙ length-frames bodies f.rest in
      too_far (half - length (frames bodies)) f.rest stands.gate stands.behind stands.shut f.more_is (omega (arith, stands.within, long, used_within)) f.sizes over
