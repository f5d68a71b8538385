-- The moments of several calls, one behind the other.
use Rattle.std.proofs.Common.{◌≡◌, ℕ, List, subst, inl, inr, arith}
use Rattle.outside_core.specs.Stream.{SendsSome}
use Rattle.board_core.specs.Contents.{View, NothingPending}
use Rattle.board_core.specs.Moments.{SameOutside, Passes, NoMoment, WithinSend, WithinPut, OnlyWithin, Lawful, LeftNow}

-- no call: no moment is added
pub stays : (board : View) (W : List ℕ → List ℕ → Type 0) → Passes board board W
stays board W = record { later = omega arith; nothing_else = λ t sent image le l. inl l; keeps = λ t sent image le l. l }

-- going on from one call to the next, where both sets of moments lie in one
pub goes_on : {old mid new : View} {P Q R : List ℕ → List ℕ → Type 0} → Passes old mid P → Passes mid new Q
    → ((sent image : List ℕ) → P sent image → R sent image) → ((sent image : List ℕ) → Q sent image → R sent image) → Passes old new R
goes_on first second p q = record {
  later = omega (arith, first.later, second.later);
  nothing_else = λ t sent image le left. elim (second.nothing_else t sent image (omega (arith, first.later, le)) left) [
    | inl was ↦ elim (first.nothing_else t sent image le was) [ inl was ↦ inl was | inr now ↦ inr (p sent image now) ]
    | inr now ↦ inr (q sent image now)
  ];
  keeps = λ t sent image le left. second.keeps t sent image (omega (arith, first.later, le)) (first.keeps t sent image le left);
}

-- the same where the second call's moments lie in the set of the first
pub then_within : {old mid new : View} {W Q : List ℕ → List ℕ → Type 0}
    → Passes old mid W → Passes mid new Q → ((sent image : List ℕ) → Q sent image → W sent image) → Passes old new W
then_within first second q = goes_on first second (λ sent image w. w) q

-- a call behind that adds no moment
pub then_quiet : {old mid new : View} {W : List ℕ → List ℕ → Type 0} → Passes old mid W → Passes mid new NoMoment → Passes old new W
then_quiet first second = then_within first second (λ sent image never. absurd never)

-- a call before that adds no moment
pub quiet_then : {old mid new : View} {W : List ℕ → List ℕ → Type 0} → Passes old mid NoMoment → Passes mid new W → Passes old new W
quiet_then first second = goes_on first second (λ sent image never. absurd never) (λ sent image w. w)

-- the moments lie in a larger set
pub widened : {old new : View} {P W : List ℕ → List ℕ → Type 0} → Passes old new P → ((sent image : List ℕ) → P sent image → W sent image) → Passes old new W
widened moments p = record {
  later = moments.later;
  nothing_else = λ t sent image le left. elim (moments.nothing_else t sent image le left) [ inl was ↦ inl was | inr now ↦ inr (p sent image now) ];
  keeps = moments.keeps;
}

-- the moments lie in both of two sets
pub in_both : {old new : View} {P Q : List ℕ → List ℕ → Type 0} → Passes old new P → Passes old new Q → Passes old new (λ sent image. P sent image × Q sent image)
in_both first second = record {
  later = first.later;
  nothing_else = λ t sent image le left. elim (first.nothing_else t sent image le left) [
    | inl was ↦ inl was
    | inr p ↦ elim (second.nothing_else t sent image le left) [ inl was ↦ inl was | inr q ↦ inr (p, q) ]
  ];
  keeps = first.keeps;
}

-- each moment since the start, the one at the start too
pub each_moment : {old new : View} {W : List ℕ → List ℕ → Type 0} → Passes old new W → ((sent image : List ℕ) → LeftNow old sent image → W sent image)
    → (sent image : List ℕ) → new.left old.now.clock sent image → W sent image
each_moment {old} moments start sent image left = elim (moments.nothing_else old.now.clock sent image (omega arith) left) [ inl was ↦ start sent image was | inr now ↦ now ]

-- the same of what a crash now may leave
pub left_behind : {old new : View} {W : List ℕ → List ℕ → Type 0} → Lawful new → Passes old new W → ((sent image : List ℕ) → LeftNow old sent image → W sent image)
    → (sent image : List ℕ) → LeftNow new sent image → W sent image
left_behind {old} {new} laws moments start sent image left = each_moment moments start sent image (laws.earlier old.now.clock new.now.clock sent image moments.later left)

-- a put where nothing is pending: the image is as it was but for the range
pub put_moments : {old new : View} {at n : ℕ} → Lawful old → NothingPending old → Passes old new (WithinPut old at n) → Passes old new (OnlyWithin at n old)
put_moments {at = at} {n = n} laws clean moments = widened moments (λ sent image within.
    (laws.sent_now sent within.0 within.1, subst (λ (l : List ℕ). SameOutside at n l image) (laws.clean_now clean sent within.0 within.1) within.2))

-- a send where nothing is pending: the image is as a load gives it
pub send_moments : {old new : View} {bytes : List ℕ} → Lawful old → NothingPending old → Passes old new (WithinSend old bytes)
    → Passes old new (λ sent image. SendsSome bytes old.now.stream.sent sent × (image ≡ old.now.disk.bytes))
send_moments {old} laws clean moments = widened moments (λ sent image within. (within.0, laws.clean_now clean old.now.stream.sent image within.1))
