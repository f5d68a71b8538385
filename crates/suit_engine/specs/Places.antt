-- How a run goes on from the place where it waits.
use Rattle.std.specs.Prelude.{ℕ, ◌+◌, Bool, List, map, drop, slice_get, Option, Some, None}
use Rattle.suit_commands.specs.declared.command.Command.{Command, out-Command}
use Rattle.suit_commands.specs.declared.command.Command.TheOpen.{Command-F}
use Rattle.suit_commands.specs.Sequences.{Sequence}
use Rattle.suit_engine.specs.declared.outcome.Word.TheVariants.{Condition}
use Rattle.suit_engine.specs.declared.place.Place.{Place}
use Rattle.suit_engine.specs.declared.place.Place.TheOpen.{Place-F}
use Rattle.suit_engine.specs.declared.place.Place.TheFolds.{fold-Place}
use Rattle.suit_engine.specs.declared.state.State.{State}
use Rattle.suit_engine.specs.States.{current}
use Rattle.suit_engine.specs.Steps.{Step, Fails, and_then, unless_caught, tried}
use Rattle.suit_engine.specs.Acts.{World, fetches_from, do_all}

-- what a place comes to in the sequence and in the command that it is in; one that is no place of these fails
pub record GoingOn : Type 0 where
  pub sequence : Sequence → Step
  pub command : Command → Step

-- what becomes of the one of a number, which fails where there is none
abbrev pub at_one : {A : Type 0} → (A → Step) → Option A → Step
at_one goes None = Fails Condition
at_one goes (Some x) = goes x

-- the command at a number, from the place in it, and then the commands behind
abbrev pub from_command : World → ℕ → (Command → Step) → Sequence → Step
from_command w number goes commands = and_then (do_all w (drop (number + 1) commands)) (at_one goes (slice_get commands number))

-- the step of an alternative; where it is caught, those behind it are tried from the state before
abbrev pub or_behind : World → Bool → State → List Sequence → Step → Step
or_behind w null_last before behind = unless_caught (λ word. tried null_last word (map (do_all w) behind) before)

-- the alternative at a number, from the place in it, or those behind
abbrev pub from_alternative : World → ℕ → State → (Sequence → Step) → List Sequence → Bool → Step
from_alternative w number before goes alternatives null_last =
    at_one (λ commands. or_behind w null_last before (drop (number + 1) alternatives) (goes commands)) (slice_get alternatives number)

-- a fetch, by its layer
abbrev pub in_fetch : Step → Command-F Command → Step
in_fetch step (Command-F.Fetch policy) = step
in_fetch step _ = Fails Condition

-- in a command that runs a sequence, by its layer
abbrev pub in_run : (Sequence → Step) → Command-F Command → Step
in_run goes (Command-F.RunSequence commands) = goes commands
in_run goes _ = Fails Condition

-- in a command that tries alternatives, by its layer
abbrev pub in_tries : (List Sequence → Bool → Step) → Command-F Command → Step
in_tries goes (Command-F.TryEach alternatives null_last) = goes alternatives null_last
in_tries goes _ = Fails Condition

-- what a place comes to, by its layer, from what the place in it comes to
abbrev pub goes_on_by : World → Place-F GoingOn → GoingOn
goes_on_by w (Place-F.Fetch s) = record { sequence = λ commands. Fails Condition; command = λ command. in_fetch (fetches_from w (current s).setting.uri s) (out-Command command) }
goes_on_by w (Place-F.Command number within) =
    record { sequence = from_command w number within.command; command = λ command. in_run (from_command w number within.command) (out-Command command) }
goes_on_by w (Place-F.Alternative number before within) =
    record { sequence = λ commands. Fails Condition; command = λ command. in_tries (from_alternative w number before within.sequence) (out-Command command) }

-- what a place comes to
abbrev pub goes_on : World → Place → GoingOn
goes_on w = fold-Place GoingOn (goes_on_by w)

-- what becomes of a sequence that goes on from a place in it
abbrev pub sequence_goes_on : World → Sequence → Place → Step
sequence_goes_on w commands place = (goes_on w place).sequence commands

-- what becomes of a command that goes on from a place in it
abbrev pub command_goes_on : World → Command → Place → Step
command_goes_on w command place = (goes_on w place).command command
