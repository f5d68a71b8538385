-- Going on, one level further out.
use Rattle.std.proofs.Common.{◌≡◌, ℕ, ◌+◌, ◌≤◌, ◌<◌, Bool, List, ◌∷◌, length, get_or, drop, map, Option, Some, sym, ap, ◌∙◌}
use Rattle.std.specs.Prelude.{Result, Ok, Err}
use Rattle.suit_commands.specs.declared.command.Command.{Command, out-Command}
use Rattle.suit_commands.specs.declared.command.Command.TheOpen.{Command-F}
use Rattle.suit_commands.specs.declared.command.Command.TheVariants as c
use Rattle.suit_commands.specs.Sequences.{Sequence}
use Rattle.suit_envelope.specs.declared.plan.Plan.{Plan}
use Rattle.suit_engine.specs.declared.outcome.Word.{Word}
use Rattle.suit_engine.specs.declared.outcome.Word.TheVariants.{Condition}
use Rattle.suit_engine.specs.declared.pass.Pass.{Pass}
use Rattle.suit_engine.specs.declared.pass.Pass.TheVariants.{SharedBeforeFetch, Fetch, SharedBeforeInstall, Install, SharedBeforeValidate, Validate}
use Rattle.suit_engine.specs.declared.place.Place.{Place}
use Rattle.suit_engine.specs.declared.place.Place.TheVariants as p
use Rattle.suit_engine.specs.declared.state.State.{State}
use Rattle.suit_engine.specs.declared.stop.Stop.{Stop}
use Rattle.suit_engine.specs.declared.stop.Stop.TheVariants as stops
use Rattle.suit_engine.specs.declared.stop.Stopped.{Stopped}
use Rattle.suit_engine.specs.Steps.{Step, Fails, and_then, tried}
use Rattle.suit_engine.specs.Acts.{World, later, do_all}
use Rattle.suit_engine.specs.Passes.{next, behind}
use Rattle.suit_engine.specs.Places.{GoingOn, at_one, or_behind, from_command, from_alternative, in_tries, sequence_goes_on, command_goes_on}
use Rattle.suit_engine.specs.Runs.{sequence_of, pass_does, passes_do}
use Rattle.suit_engine.specs.Suspended.{pass_goes_on}
use Rattle.suit_engine.specs.Answers.{Stops, Waits, SuspendsPass, IsCaught, tries_by, tries}
use Rattle.suit_engine.proofs.Suspending.{Later, one_at, one_past, next_of, placed_command, placed_alternative, run_goes_on}

-- ---- a sequence

-- a place in a sequence
pub sequence_at : (w : World) (commands : Sequence) (place : Place) (n : ℕ) (within : Place) → place ≡ p.Command n within
    → from_command w n (λ command. command_goes_on w command within) commands ≡ sequence_goes_on w commands place
sequence_at w commands place n within is =
    sym (ap (sequence_goes_on w commands) is ∙ ap (λ (g : GoingOn). g.sequence commands) (placed_command w n within))

-- from the command at a number
pub command_at : (w : World) (n : ℕ) (goes : Command → Step) (commands : Sequence) (x : Command) → n < length commands → x ≡ get_or commands n x
    → from_command w n goes commands ≡ and_then (do_all w (drop (n + 1) commands)) (goes x)
command_at w n goes commands x below at =
    ap (λ (o : Option Command). and_then (do_all w (drop (n + 1) commands)) (at_one goes o)) (one_at commands n x below ∙ ap (λ (y : Command). Some y) (sym at))

-- a command that runs a sequence
pub run_at : (w : World) (command : Command) (commands : Sequence) (place : Place) (n : ℕ) (within : Place) → command ≡ c.RunSequence commands → place ≡ p.Command n within
    → from_command w n (λ x. command_goes_on w x within) commands ≡ command_goes_on w command place
run_at w command commands place n within is placed =
    sequence_at w commands place n within placed ∙ sym (ap (λ (x : Command). command_goes_on w x place) is ∙ run_goes_on w commands place)

-- what stops in a command stops before those behind it
pub stops_then : (after : State → Step) (step : Step) (stop : Stop) → Stops step stop → Stops (and_then after step) stop
stops_then after step (stops.Failed word) is = ap (and_then after) is
stops_then after step (stops.Needed uri place) is = ap (and_then after) is
stops_then after step stops.NoMemory is = tt

-- ---- alternatives

-- a place in a command that tries alternatives
pub alternative_at : (w : World) (command : Command) (place : Place) (n : ℕ) (before : State) (within : Place) → place ≡ p.Alternative n before within
    → in_tries (from_alternative w n before (λ commands. sequence_goes_on w commands within)) (out-Command command) ≡ command_goes_on w command place
alternative_at w command place n before within is =
    sym (ap (command_goes_on w command) is ∙ ap (λ (g : GoingOn). g.command command) (placed_alternative w n before within))

module _ (command : Command) (sequences : List Sequence) (null_last : Bool) (is : command ≡ c.TryEach sequences null_last) (n : ℕ) (before : State) where
  layer_is : out-Command command ≡ Command-F.TryEach sequences null_last
  layer_is = ap out-Command is ∙ c.outs-TryEach sequences null_last

  -- where there is no such alternative
  pub past_fails : (w : World) (goes : Sequence → Step) → length sequences ≤ n → in_tries (from_alternative w n before goes) (out-Command command) ≡ Fails Condition
  past_fails w goes past =
      ap (in_tries (from_alternative w n before goes)) layer_is
      ∙ ap (λ (o : Option Sequence). at_one (λ commands. or_behind w null_last before (drop (n + 1) sequences) (goes commands)) o) (one_past sequences n past)

  module _ (x : Sequence) (below : n < length sequences) (at : x ≡ get_or sequences n x) where
    -- from the alternative at a number
    pub one_tried : (w : World) (goes : Sequence → Step)
        → in_tries (from_alternative w n before goes) (out-Command command) ≡ or_behind w null_last before (drop (n + 1) sequences) (goes x)
    one_tried w goes =
        ap (in_tries (from_alternative w n before goes)) layer_is
        ∙ ap (λ (o : Option Sequence). at_one (λ commands. or_behind w null_last before (drop (n + 1) sequences) (goes commands)) o) (one_at sequences n x below ∙ ap (λ (y : Sequence). Some y) (sym at))

    -- where it is caught, those behind are tried
    pub others_tried : (w : World) (goes : Sequence → Step) (word : Word) → IsCaught word → goes x ≡ Fails word
        → in_tries (from_alternative w n before goes) (out-Command command) ≡ tries w command (n + 1) word before
    others_tried w goes word caught fails =
        one_tried w goes
        ∙ ap (or_behind w null_last before (drop (n + 1) sequences)) fails
        ∙ next_of (λ v. tried null_last v (map (do_all w) (drop (n + 1) sequences)) before) word caught
        ∙ sym (ap (λ (l : Command-F Command). tries_by w (n + 1) word l before) layer_is)

-- ---- passes

-- the passes behind one are the next, and those behind that
behind_is : (pass after : Pass) → next pass ≡ Some after → behind pass ≡ after ∷ behind after
behind_is SharedBeforeFetch after is = let same : Fetch ≡ after = cc in ap (λ (x : Pass). x ∷ behind x) same
behind_is Fetch after is = let same : SharedBeforeInstall ≡ after = cc in ap (λ (x : Pass). x ∷ behind x) same
behind_is SharedBeforeInstall after is = let same : Install ≡ after = cc in ap (λ (x : Pass). x ∷ behind x) same
behind_is Install after is = let same : SharedBeforeValidate ≡ after = cc in ap (λ (x : Pass). x ∷ behind x) same
behind_is SharedBeforeValidate after is = let same : Validate ≡ after = cc in ap (λ (x : Pass). x ∷ behind x) same
behind_is Validate after is = absurd cc

pub behind_do : (w : World) (plan : Plan) (pass after : Pass) (s : State) → next pass ≡ Some after
    → passes_do w plan (behind pass) s ≡ and_then (passes_do w plan (behind after)) (pass_does w plan after s)
behind_do w plan pass after s is = ap (λ (ps : List Pass). passes_do w plan ps s) (behind_is pass after is)

-- a stop in the sequence of a pass, seen from the passes
pub pass_waits : (w : World) (plan : Plan) (pass : Pass) (a b : World → Step) → Later w (λ v. and_then (passes_do v plan (behind pass)) (a v)) b → (stop : Stop)
    → Waits w (λ v. sequence_goes_on v (sequence_of plan pass)) a stop → Waits w (λ v place. pass_goes_on v plan pass place) b stop
pass_waits w plan pass a b same (stops.Failed word) waits = tt
pass_waits w plan pass a b same (stops.Needed uri place) waits = λ more. ap (and_then (passes_do (later w more) plan (behind pass))) (waits more) ∙ same more
pass_waits w plan pass a b same stops.NoMemory waits = tt

stopped_same : (w : World) (g : World → Place → Step) (a b : World → Step) → Later w a b → (stop : Stop) → Waits w g a stop → Waits w g b stop
stopped_same w g a b same (stops.Failed word) waits = tt
stopped_same w g a b same (stops.Needed uri place) waits = λ more. waits more ∙ same more
stopped_same w g a b same stops.NoMemory waits = tt

pub passes_same : (w : World) (plan : Plan) (a b : World → Step) → Later w a b → (r : Result State Stopped) → SuspendsPass w plan a r → SuspendsPass w plan b r
passes_same w plan a b same (Ok s) suspends = tt
passes_same w plan a b same (Err stopped) suspends = stopped_same w (λ v place. pass_goes_on v plan stopped.pass place) a b same stopped.stop suspends
