-- A buffer is filled from a source.
use Rattle.std.specs.Prelude.{◌≡◌, ◌+◌, ◌<◌, ◌≤◌, List, [], ℕ, length, take, drop, Result, IfOk, OnErr}
use Rattle.outside_core.specs.Stream.{Stream, Took}
use Rattle.frames.specs.declared.fill.Fill.{Fill}
use Rattle.frames.specs.declared.fill.Fill.TheVariants.{Full, Ended, Spent, Failed}

-- how many bytes came, where so many were wanted
abbrev pub count_of : ℕ → Fill → ℕ
count_of wanted Full = wanted
count_of wanted (Ended n) = n
count_of wanted (Spent n) = n
count_of wanted (Failed n) = n

-- why no more came
abbrev pub Why : ℕ → ℕ → List ℕ → ℕ → Fill → Type 0
Why most taken rest wanted Full = Unit {0}
Why most taken rest wanted (Ended n) = (n < wanted) × (rest ≡ []) × (taken < most)
Why most taken rest wanted (Spent n) = (n < wanted) × (most ≤ taken)
Why most taken rest wanted (Failed n) = n < wanted

-- a read failed
abbrev pub IsFailed : Fill → Type 0
IsFailed Full = ⊥
IsFailed (Ended n) = ⊥
IsFailed (Spent n) = ⊥
IsFailed (Failed n) = Unit {0}

-- some bytes came, by which a count went up
pub record TookSome (before behind : ℕ) (old new : Stream) : Type 0 where
  pub bytes : List ℕ
  pub took : Took bytes old new
  pub counted : behind ≡ before + length bytes

-- the bytes that came stand behind the first n of the buffer
pub record GivesAt (n count : ℕ) (buf : List ℕ) (old new : Stream) : Type 0 where
  pub took : Took (take count (drop n buf)) old new
  pub ended : count ≡ 0 → new.rest ≡ []

-- what a read into a buffer behind its first n bytes does
pub record ReadsAt {E : Type 0} (n : ℕ) (buf : List ℕ) (result : Result ℕ E) (old new : Stream) : Type 0 where
  pub ok : IfOk result (λ count. GivesAt n count buf old new)
  pub err : OnErr result (new ≡ old)
