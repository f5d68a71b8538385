-- One count for each step, and one list of counts for each wave.
use Rattle.std.proofs.Common.{◌≡◌, ℕ, zero, suc, ◌+◌, ◌<◌, ◌≤◌, ◌&&◌, Bool, true, false, cond, List, [], ◌∷◌, ◌++◌, length, map, replicate, take, drop, set, get_or, Option, Some, None, refl, sym, ap, ◌∙◌, arith}
use Rattle.std.specs.Prelude.{slice_get}
use Rattle.std.specs.List.{AllZip}
use Rattle.std.proofs.lemmas.Bool.{lt-ltb, le-ltb}
use Rattle.std.proofs.lemmas.List.{length-replicate, take_more_set, drop-set-lt, drop_more, append_assoc, get_or-map}
use Rattle.std.proofs.lemmas.Option.{none-some, same_Some, slice_get_within, get_or_from_slice_get}
use Rattle.wave_core.specs.declared.wave.Step.{Step}
use Rattle.wave_core.specs.declared.wave.Wave.{Wave}
use Rattle.wave_core.specs.Ledger.{Ledger, empty, same_bytes}
use Rattle.wave_core.specs.Waves.{recorded, place_in}
use Rattle.wave_core.specs.Book.{HasCounts, counts_of, steps_of}
use Rattle.wave_core.specs.Counting.{crosses, more_at, size_at, noted_in, noted}
use Rattle.wave_core.proofs.Counted.{count_none}

-- ---- how many there are

length-more_at : (place most : ℕ) (counts : List ℕ) → length (more_at place most counts) ≡ length counts
length-more_at place most [] = refl
length-more_at zero most (n ∷ ns) = refl
length-more_at (suc place) most (n ∷ ns) = ap suc (length-more_at place most ns)

module _ (device id : List ℕ) (before : Option ℕ) (after : ℕ) where
  length-noted_in : (wave : Wave) (counts : List ℕ) → length (noted_in device id before after wave counts) ≡ length counts
  length-noted_in wave counts = by_test (same_bytes wave.id id && crosses wave.sequence before after) where
    by_test : (b : Bool) → length (cond b (more_at (place_in wave device) (size_at wave.steps (place_in wave device)) counts) counts) ≡ length counts
    by_test true = length-more_at (place_in wave device) (size_at wave.steps (place_in wave device)) counts
    by_test false = refl

  pub noted_whole : (waves : List Wave) (all : List (List ℕ)) → AllZip HasCounts waves all → AllZip HasCounts waves (noted device id before after waves all)
  noted_whole [] [] whole = tt
  noted_whole [] (ns ∷ all) whole = absurd whole
  noted_whole (w ∷ ws) [] whole = absurd whole
  noted_whole (w ∷ ws) (ns ∷ all) whole = (length-noted_in w ns ∙ whole.0, noted_whole ws all whole.1)

  -- ---- wave by wave

  pub noted_more : (ws : List Wave) (all : List (List ℕ)) (k : ℕ) (w : Wave) (ns : List ℕ) → k < length ws → k < length all → w ≡ get_or ws k w → ns ≡ get_or all k ns
      → take (k + 1) (set all k (noted_in device id before after w ns)) ++ noted device id before after (drop (k + 1) ws) (drop (k + 1) (set all k (noted_in device id before after w ns)))
      ≡ take k all ++ noted device id before after (drop k ws) (drop k all)
  noted_more ws all k w ns in_waves in_counts w_is ns_is =
      let y : List ℕ = noted_in device id before after w ns in
      let rest : List (List ℕ) = noted device id before after (drop (k + 1) ws) (drop (k + 1) all) in
      let front : take (k + 1) (set all k y) ≡ take k all ++ y ∷ [] = take_more_set all k y in_counts in
      let behind : drop (k + 1) (set all k y) ≡ drop (k + 1) all = drop-set-lt (k + 1) all k y (omega arith) in
      let waves : drop k ws ≡ w ∷ drop (k + 1) ws = drop_more ws k w in_waves ∙ ap (λ (v : Wave). v ∷ drop (k + 1) ws) (sym w_is) in
      let counts : drop k all ≡ ns ∷ drop (k + 1) all = drop_more all k ns in_counts ∙ ap (λ (ms : List ℕ). ms ∷ drop (k + 1) all) (sym ns_is) in
      ap (λ (xs : List (List ℕ)). xs ++ noted device id before after (drop (k + 1) ws) (drop (k + 1) (set all k y))) front
      ∙ ap (λ (xs : List (List ℕ)). (take k all ++ y ∷ []) ++ noted device id before after (drop (k + 1) ws) xs) behind
      ∙ append_assoc (take k all) (y ∷ []) rest
      ∙ sym (ap (λ (xs : List (List ℕ)). take k all ++ noted device id before after (w ∷ drop (k + 1) ws) xs) counts)
      ∙ sym (ap (λ (vs : List Wave). take k all ++ noted device id before after vs (drop k all)) waves)

-- ---- where a wave and its counts stand

pub whole_length : (waves : List Wave) (all : List (List ℕ)) → AllZip HasCounts waves all → length all ≡ length waves
whole_length [] [] whole = refl
whole_length [] (ns ∷ all) whole = absurd whole
whole_length (w ∷ ws) [] whole = absurd whole
whole_length (w ∷ ws) (ns ∷ all) whole = ap suc (whole_length ws all whole.1)

pub whole_at : (waves : List Wave) (all : List (List ℕ)) (k : ℕ) (w : Wave) (ns : List ℕ) → AllZip HasCounts waves all → k < length waves
    → w ≡ get_or waves k w → ns ≡ get_or all k ns → length ns ≡ length w.steps
whole_at [] all k w ns whole within w_is ns_is = absurd (omega arith)
whole_at (v ∷ ws) [] k w ns whole within w_is ns_is = absurd whole
whole_at (v ∷ ws) (ms ∷ all) zero w ns whole within w_is ns_is = ap length ns_is ∙ whole.0 ∙ sym (ap (λ (x : Wave). length x.steps) w_is)
whole_at (v ∷ ws) (ms ∷ all) (suc k) w ns whole within w_is ns_is = whole_at ws all k w ns whole.1 (omega arith) w_is ns_is

pub step_within : (waves : List Wave) (all : List (List ℕ)) (k n : ℕ) → AllZip HasCounts waves all → n < length (steps_of waves k) → k < length all
step_within [] all k n whole within = absurd (omega arith)
step_within (w ∷ ws) [] k n whole within = absurd whole
step_within (w ∷ ws) (ns ∷ all) zero n whole within = omega arith
step_within (w ∷ ws) (ns ∷ all) (suc k) n whole within = let later : k < length all = step_within ws all k n whole.1 within in omega arith

pub step_counted : (waves : List Wave) (all : List (List ℕ)) (k n : ℕ) (ns : List ℕ) → AllZip HasCounts waves all → n < length (steps_of waves k) → ns ≡ get_or all k ns → n < length ns
step_counted [] all k n ns whole within is = absurd (omega arith)
step_counted (w ∷ ws) [] k n ns whole within is = absurd whole
step_counted (w ∷ ws) (ms ∷ all) zero n ns whole within is = let same : length ns ≡ length ms = ap length is in let one : length ms ≡ length w.steps = whole.0 in omega (arith, same, one, within)
step_counted (w ∷ ws) (ms ∷ all) (suc k) n ns whole within is = step_counted ws all k n ns whole.1 within is

-- the counts of a wave, where all are those of a ledger
pub counts_there : (ledger : Ledger) (waves : List Wave) (all : List (List ℕ)) (k : ℕ) (w : Wave) (ns : List ℕ) → all ≡ map (counts_of ledger) waves → k < length waves
    → w ≡ get_or waves k w → ns ≡ get_or all k ns → ns ≡ counts_of ledger w
counts_there ledger waves all k w ns stands within w_is ns_is =
    ns_is ∙ ap (λ (xs : List (List ℕ)). get_or xs k ns) stands ∙ get_or-map (counts_of ledger) waves k w ns within ∙ ap (counts_of ledger) (sym w_is)

-- the count of a step
pub count_is : (ledger : Ledger) (waves : List Wave) (all : List (List ℕ)) (k n : ℕ) (w : Wave) (s : Step) (ns : List ℕ) → all ≡ map (counts_of ledger) waves
    → slice_get waves k ≡ Some w → slice_get w.steps n ≡ Some s → ns ≡ get_or all k ns → get_or ns n 0 ≡ recorded ledger w s
count_is ledger waves all k n w s ns stands w_is s_is ns_is =
    let counts : ns ≡ counts_of ledger w = counts_there ledger waves all k w ns stands (slice_get_within waves k w w_is) (sym (get_or_from_slice_get waves k w w w_is)) ns_is in
    ap (λ (xs : List ℕ). get_or xs n 0) counts ∙ get_or-map (recorded ledger w) w.steps n s 0 (slice_get_within w.steps n s s_is)
    ∙ ap (recorded ledger w) (get_or_from_slice_get w.steps n s s s_is)

-- how many devices a step has
pub size_there : (steps : List Step) (k : ℕ) (s : Step) → slice_get steps k ≡ Some s → length s.devices ≡ size_at steps k
size_there [] k s is = absurd (none-some s is)
size_there (t ∷ ts) zero s is = sym (ap (λ (x : Step). length x.devices) (same_Some t s is))
size_there (t ∷ ts) (suc k) s is = size_there ts k s is

pub size_none : (steps : List Step) (k : ℕ) → slice_get steps k ≡ None → 0 ≡ size_at steps k
size_none [] k is = refl
size_none (t ∷ ts) zero is = absurd (none-some t (sym is))
size_none (t ∷ ts) (suc k) is = size_none ts k is

-- ---- counts of the empty ledger

module _ (wave : Wave) where
  none_recorded : (steps : List Step) → replicate (length steps) 0 ≡ map (recorded empty wave) steps
  none_recorded [] = refl
  none_recorded (s ∷ ss) = ap (λ (n : ℕ). n ∷ replicate (length ss) 0) (sym (count_none s.devices)) ∙ ap (λ (ns : List ℕ). recorded empty wave s ∷ ns) (none_recorded ss)

pub none_counted : (waves : List Wave) → map (λ wave. replicate (length wave.steps) 0) waves ≡ map (counts_of empty) waves
none_counted [] = refl
none_counted (w ∷ ws) =
    ap (λ (ns : List ℕ). ns ∷ map (λ wave. replicate (length wave.steps) 0) ws) (none_recorded w w.steps) ∙ ap (λ (all : List (List ℕ)). counts_of empty w ∷ all) (none_counted ws)

pub zeros_whole : (waves : List Wave) → AllZip HasCounts waves (map (λ wave. replicate (length wave.steps) 0) waves)
zeros_whole [] = tt
zeros_whole (w ∷ ws) = (length-replicate {A = ℕ} (length w.steps) 0, zeros_whole ws)

-- ---- one more of a step

pub more_there : (step most count : ℕ) (counts : List ℕ) → step < length counts → count ≡ get_or counts step count → count < most
    → set counts step (count + 1) ≡ more_at step most counts
more_there step most count [] within is below = absurd (omega arith)
more_there zero most count (n ∷ ns) within is below =
    ap (λ (k : ℕ). k ∷ ns) (ap (λ (k : ℕ). k + 1) is ∙ sym (ap (λ (b : Bool). cond b (n + 1) n) (lt-ltb n most (omega (arith, is, below)))))
more_there (suc step) most count (n ∷ ns) within is below = ap (λ (ks : List ℕ). n ∷ ks) (more_there step most count ns (omega arith) is below)

pub more_past : (step most : ℕ) (counts : List ℕ) → length counts ≤ step → counts ≡ more_at step most counts
more_past step most [] past = refl
more_past zero most (n ∷ ns) past = absurd (omega arith)
more_past (suc step) most (n ∷ ns) past = ap (λ (ks : List ℕ). n ∷ ks) (more_past step most ns (omega arith))

pub more_full : (step most count : ℕ) (counts : List ℕ) → step < length counts → count ≡ get_or counts step count → most ≤ count → counts ≡ more_at step most counts
more_full step most count [] within is full = absurd (omega arith)
more_full zero most count (n ∷ ns) within is full = ap (λ (k : ℕ). k ∷ ns) (sym (ap (λ (b : Bool). cond b (n + 1) n) (le-ltb n most (omega (arith, is, full)))))
more_full (suc step) most count (n ∷ ns) within is full = ap (λ (ks : List ℕ). n ∷ ks) (more_full step most count ns (omega arith) is full)
