-- Readers of bytes from a place on, whatever they read and whatever their faults are.
use Rattle.std.specs.Prelude.{ℕ, zero, suc, ◌≡◌, Result, Ok, Err, Option, Some, None}
use Rattle.cbor_heads.specs.Place.{Place}

-- a value and the place behind it, or the first fault
abbrev pub Outcome : Type 0 → Type 0 → Type 0
Outcome E A = Result (A × Place) E

-- what stands at each place
abbrev pub Reader : Type 0 → Type 0 → Type 0
Reader E A = Place → Outcome E A

-- one reader behind the other: the first fault is that of both
infixl 10 ◌>>=◌
abbrev pub ◌>>=◌ : {E A B : Type 0} → Outcome E A → (A × Place → Outcome E B) → Outcome E B
(Ok x) >>= f = f x
(Err e) >>= f = Err e

-- The fault of an answer is that of the outcome. An answer that names none, for want of memory, stops any.
abbrev pub Stops : {E A : Type 0} → Outcome E A → Option E → Type 0
Stops outcome (Some f) = outcome ≡ Err f
Stops outcome None = Unit {0}

-- What a function returned, and the place that it left, are those of the outcome; `named` is the fault that an answer names.
abbrev pub Follows : {E C A : Type 0} → (C → Option E) → Outcome E A → Result A C → Place → Type 0
Follows named outcome (Ok a) new = outcome ≡ Ok (a, new)
Follows named outcome (Err e) new = Stops outcome (named e)

-- What holds what the same reader reads one level further in, down to so many levels.
unfoldable pub nested : {E A : Type 0} → (Option (Reader E A) → Reader E A) → ℕ → Reader E A
nested by zero p = by None p
nested by (suc depth) p = by (Some (nested by depth)) p

-- what may stand inside, where so many levels are left
abbrev pub inside : {E A : Type 0} → (Option (Reader E A) → Reader E A) → ℕ → Option (Reader E A)
inside by zero = None
inside by (suc depth) = Some (nested by depth)
