-- The words by which contracts tie a fault of the outside to a count that rose.
use Rattle.std.specs.Prelude.{ℕ, ◌≡◌, ◌+◌, ◌-◌, ◌^◌, ◌≤◌, min, Result, OnOk, OnErr}

-- a count of faults behind one fault more: one that has reached the end of its type stays there
abbrev pub raised : ℕ → ℕ
raised count = min (count + 1) (2 ^ 64 - 1)

-- A count of faults has risen. One that stands at the end of its type still counts as risen.
abbrev pub Rose : ℕ → ℕ → Type 0
Rose before now = raised before ≤ now

-- a count has risen where the call failed, and stands where it did not; it never falls
pub record HasCause {T E : Type 0} (before now : ℕ) (result : Result T E) : Type 0 where
  pub later : before ≤ now
  pub failed : OnErr result (Rose before now)
  pub steady : OnOk result (now ≡ before)

-- the same for an answer of any kind, of which some are failures
pub record CausedBy (failed : Type 0) (before now : ℕ) : Type 0 where
  pub later : before ≤ now
  pub fault : failed → Rose before now
  pub steady : (failed → ⊥) → now ≡ before
