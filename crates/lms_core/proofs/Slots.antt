-- Strings of one hash each, end to end, one of them changed at a time.
use Rattle.std.proofs.Common.{◌≡◌, ℕ, ◌+◌, ◌-◌, ◌*◌, ◌<◌, ◌≤◌, ◌⊎◌, inl, inr, List, length, take, drop, sym, ◌∙◌, ap, arith}
use Rattle.std.specs.Prelude.{slice_index, slice_range}
use Rattle.std.proofs.lemmas.Bool.{cases_lt}
use Rattle.std.proofs.lemmas.List.{drop-take}
use Rattle.std.proofs.lemmas.Slice.{between-put_mid, drop-put_mid, take-put_mid_below}
use borrow.Author.Count.{below_more}
use borrow.Rule.Slice.PartMut.{put_mid}
use Rattle.lms_core.specs.Chains.{chain, chain_step}
use Rattle.lms_core.proofs.Steps.{chain_more}

-- string k
abbrev pub slot : List ℕ → ℕ → List ℕ
slot bytes k = slice_range bytes (32 * k) (32 * k + 32)

-- the bytes with another string i
abbrev pub put : List ℕ → ℕ → List ℕ → List ℕ
put bytes i value = put_mid (32 * i) (32 * i + 32 - 32 * i) bytes value

slot_put : (bytes value : List ℕ) (i : ℕ) → 32 * i + 32 ≤ length bytes → length value ≡ 32 → slot (put bytes i value) i ≡ value
slot_put bytes value i room size = between-put_mid (32 * i) (32 * i + 32 - 32 * i) bytes value (32 * i + 32) (omega arith) (omega arith)

slot_put_below : (bytes value : List ℕ) (i k : ℕ) → 32 * i + 32 ≤ length bytes → k < i → slot (put bytes i value) k ≡ slot bytes k
slot_put_below bytes value i k room h =
    let changed = put bytes i value in
    let width = 32 * k + 32 - 32 * k in
    let same : take (32 * k + width) changed ≡ take (32 * k + width) bytes = take-put_mid_below (32 * i) (32 * i + 32 - 32 * i) bytes value (32 * k + width) (omega arith) (omega arith) in
    sym (drop-take (32 * k) width changed) ∙ ap (drop (32 * k)) same ∙ drop-take (32 * k) width bytes

slot_put_above : (bytes value : List ℕ) (i k : ℕ) → 32 * i + 32 ≤ length bytes → length value ≡ 32 → i < k → slot (put bytes i value) k ≡ slot bytes k
slot_put_above bytes value i k room size h =
    let same : drop (32 * k) (put bytes i value) ≡ drop (32 * k) bytes = drop-put_mid (32 * i) (32 * i + 32 - 32 * i) bytes value (32 * k) (omega arith) (omega arith) (omega arith) in
    ap (take (32 * k + 32 - 32 * k)) same

-- ---- step j of the first n chains

-- those whose digit is at most j are stepped, the others wait, and those that follow are left
pub record Advanced (identifier : List ℕ) (q j : ℕ) (digits old new : List ℕ) (n : ℕ) : Type 0 where
  pub stepped : (k : ℕ) → k < n → slice_index digits k ≤ j → slot new k ≡ chain_step identifier q k j (slot old k)
  pub waiting : (k : ℕ) → k < n → j < slice_index digits k → slot new k ≡ slot old k
  pub left : (k : ℕ) → n ≤ k → slot new k ≡ slot old k

-- one chain more is stepped
pub advanced_step : (identifier : List ℕ) (q j : ℕ) (digits old new value : List ℕ) (n : ℕ) → 32 * n + 32 ≤ length new → length value ≡ 32 → slice_index digits n ≤ j
    → value ≡ chain_step identifier q n j (slot new n) → Advanced identifier q j digits old new n → Advanced identifier q j digits old (put new n value) (n + 1)
advanced_step identifier q j digits old new value n room size reached is so_far =
    let changed = put new n value in
    let Stepped : ℕ → Type 0 = λ k. slice_index digits k ≤ j → slot changed k ≡ chain_step identifier q k j (slot old k) in
    let Waiting : ℕ → Type 0 = λ k. j < slice_index digits k → slot changed k ≡ slot old k in
    record {
      stepped = below_more Stepped n
          (λ k h reached_k. slot_put_below new value n k room h ∙ so_far.stepped k h reached_k)
          (λ _. slot_put new value n room size ∙ is ∙ ap (chain_step identifier q n j) (so_far.left n (omega arith)));
      waiting = below_more Waiting n
          (λ k h waits. slot_put_below new value n k room h ∙ so_far.waiting k h waits)
          (λ waits. absurd (omega arith));
      left = λ k h. slot_put_above new value n k room size (omega arith) ∙ so_far.left k (omega arith);
    }

-- one chain more waits
pub advanced_wait : (identifier : List ℕ) (q j : ℕ) (digits old new : List ℕ) (n : ℕ) → j < slice_index digits n → Advanced identifier q j digits old new n → Advanced identifier q j digits old new (n + 1)
advanced_wait identifier q j digits old new n waits so_far =
    let Stepped : ℕ → Type 0 = λ k. slice_index digits k ≤ j → slot new k ≡ chain_step identifier q k j (slot old k) in
    let Waiting : ℕ → Type 0 = λ k. j < slice_index digits k → slot new k ≡ slot old k in
    record {
      stepped = below_more Stepped n so_far.stepped (λ reached. absurd (omega arith));
      waiting = below_more Waiting n so_far.waiting (λ _. so_far.left n (omega arith));
      left = λ k h. so_far.left k (omega arith);
    }

-- ---- all chains, one step more at a time

next_by : (identifier : List ℕ) (q i j a : ℕ) (start old new : List ℕ) → (a ≤ j → new ≡ chain_step identifier q i j old) → (j < a → new ≡ old) → old ≡ chain identifier q i a (j - a) start
    → (j < a) ⊎ (a ≤ j) → new ≡ chain identifier q i a (j + 1 - a) start
next_by identifier q i j a start old new stepped waiting so_far (inl waits) =
    let steps : j - a ≡ j + 1 - a = omega arith in
    waiting waits ∙ so_far ∙ ap (λ (n : ℕ). chain identifier q i a n start) steps
next_by identifier q i j a start old new stepped waiting so_far (inr reached) =
    stepped reached ∙ ap (chain_step identifier q i j) so_far ∙ sym (chain_more identifier q i a j start reached)

-- step j turns the chain after the steps before it into the chain after it, also where its digit is not reached
pub chain_next : (identifier : List ℕ) (q i j a : ℕ) (start old new : List ℕ) → (a ≤ j → new ≡ chain_step identifier q i j old) → (j < a → new ≡ old) → old ≡ chain identifier q i a (j - a) start
    → new ≡ chain identifier q i a (j + 1 - a) start
chain_next identifier q i j a start old new stepped waiting so_far = next_by identifier q i j a start old new stepped waiting so_far (cases_lt j a)
