-- A value or the first refusal, and what a reader answers.
use Rattle.std.specs.Prelude.{◌≡◌, ◌⊎◌, Option, Some, None, Result, Ok, Err}

-- what is made of a value, or its refusal
abbrev pub and_then : {A B E : Type 0} → (A → Result B E) → Result A E → Result B E
and_then k (Ok a) = k a
and_then k (Err e) = Err e

-- a value changed by a function, or its refusal
abbrev pub mapped : {A B E : Type 0} → (A → B) → Result A E → Result B E
mapped f r = and_then (λ a. Ok (f a)) r

-- the value, and this refusal where there is none
abbrev pub or_fault : {A E : Type 0} → E → Option A → Result A E
or_fault fault (Some a) = Ok a
or_fault fault None = Err fault

-- the value, and nothing of a refusal
abbrev pub value_of : {A E : Type 0} → Result A E → Option A
value_of (Ok a) = Some a
value_of (Err e) = None

-- the reader answers what the definition gives, unless memory runs out
abbrev pub Answers : {V E : Type 0} → E → Result V E → Result V E → Type 0
Answers none view (Ok v) = view ≡ Ok v
Answers none view (Err e) = (view ≡ Err e) ⊎ (e ≡ none)

-- this is the answer, unless memory runs out
abbrev pub IsAnswer : {V E : Type 0} → E → Result V E → Result V E → Type 0
IsAnswer none result answer = (result ≡ answer) ⊎ (result ≡ Err none)

-- a value, or a refusal that is not want of memory
abbrev pub IsSettled : {V E : Type 0} → E → Result V E → Type 0
IsSettled none (Ok v) = Unit {0}
IsSettled none (Err e) = e ≡ none → ⊥
