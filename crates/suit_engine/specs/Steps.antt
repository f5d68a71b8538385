-- What commands make of a state: one after the other, and the first alternative that succeeds.
use Rattle.std.specs.Prelude.{ℕ, Bool, List, [], ◌∷◌, if◌then◌else◌}
use Rattle.suit_engine.specs.declared.outcome.Word.{Word}
use Rattle.suit_engine.specs.declared.outcome.Word.TheVariants.{Condition, Payload, Fetches}
use Rattle.suit_engine.specs.declared.state.State.{State}

-- what becomes of a state: another one, a failure, or a URI whose payload is needed first
pub data Step : Type 0 where
  Went : State → Step
  Fails : Word → Step
  Needs : List ℕ → Step

-- what a command does
abbrev pub Act : Type 0
Act = State → Step

-- a step that went, and then another act from there; a failure or a need ends it
abbrev pub and_then : Act → Step → Step
and_then next (Went s) = next s
and_then next (Fails word) = Fails word
and_then next (Needs uri) = Needs uri

-- acts in turn
abbrev pub in_turn : List Act → Act
in_turn [] s = Went s
in_turn (act ∷ acts) s = and_then (in_turn acts) (act s)

-- the step, but what comes next where it failed with one of the two words that a try-each catches
abbrev pub unless_caught : (Word → Step) → Step → Step
unless_caught next (Went s) = Went s
unless_caught next (Fails Condition) = next Condition
unless_caught next (Fails Payload) = next Payload
unless_caught next (Fails Fetches) = Fails Fetches
unless_caught next (Needs uri) = Needs uri

-- Alternatives in their order, each from the same state, until one is not caught. Where none is left a null behind them leaves the state as it is, and
-- else the word of the last one is given (draft-ietf-suit-manifest, "suit-directive-try-each"). The word that it begins with never shows, since a try-each
-- has an alternative, or the null behind them.
abbrev pub tried : Bool → Word → List Act → Act
tried null_last word [] before = if null_last then Went before else Fails word
tried null_last word (act ∷ acts) before = unless_caught (λ w. tried null_last w acts before) (act before)
