-- Rows that are gone through one behind the other: each asks for a fact or for a value, and refuses exactly where it is not so.
use Rattle.std.specs.Prelude.{◌⊎◌, Option, Some, None}

-- the fact holds, and what stands behind decides
pub record GoesPast (fact behind : Type 0) : Type 0 where
  pub holds : fact
  pub decides : behind

-- the fact does not hold, and the refusal is given
pub record StopsAt (fact refusal : Type 0) : Type 0 where
  pub fails : fact → ⊥
  pub refused : refusal

-- a row that asks for a fact
abbrev pub Tested : Type 0 → Type 0 → Type 0 → Type 0
Tested fact refusal behind = GoesPast fact behind ⊎ StopsAt fact refusal

-- a value is such, and what stands behind decides with it
pub record FindsOne {A : Type 0} (P : A → Type 0) (behind : A → Type 0) : Type 0 where
  pub value : A
  pub is : P value
  pub decides : behind value

-- no value is such, and the refusal is given
pub record FindsNone {A : Type 0} (P : A → Type 0) (refusal : Type 0) : Type 0 where
  pub none : (value : A) → P value → ⊥
  pub refused : refusal

-- a row that asks for a value
abbrev pub Sought : {A : Type 0} → (A → Type 0) → Type 0 → (A → Type 0) → Type 0
Sought P refusal behind = FindsOne P behind ⊎ FindsNone P refusal

-- a search answers a value that is such, or that none is
abbrev pub Finds : {A : Type 0} → (A → Type 0) → Option A → Type 0
Finds {A} P (Some value) = P value
Finds {A} P None = (value : A) → P value → ⊥
