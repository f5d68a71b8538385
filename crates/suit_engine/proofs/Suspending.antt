-- Where a run waits, it goes on as it would run.
use Rattle.std.proofs.Common.{◌≡◌, ℕ, zero, suc, ◌+◌, ◌≤◌, ◌<◌, Bool, List, [], ◌∷◌, length, get_or, drop, map, Option, Some, None, refl, sym, ap, subst, ◌∙◌, arith}
use Rattle.std.specs.Prelude.{slice_get, Result, Ok, Err}
use Rattle.std.proofs.lemmas.List.{drop_more}
use Rattle.suit_commands.specs.declared.command.Command.{Command, out-Command}
use Rattle.suit_commands.specs.declared.command.Command.TheOpen.{Command-F}
use Rattle.suit_commands.specs.declared.command.Command.TheVariants as c
use Rattle.suit_commands.specs.declared.command.Command.TheFolds.{fold-roll-Command}
use Rattle.suit_commands.specs.Sequences.{Sequence}
use Rattle.suit_engine.specs.declared.outcome.Fetched.{Fetched}
use Rattle.suit_engine.specs.declared.outcome.Word.{Word}
use Rattle.suit_engine.specs.declared.outcome.Word.TheVariants.{Condition, Payload, Fetches}
use Rattle.suit_engine.specs.declared.place.Place.{Place}
use Rattle.suit_engine.specs.declared.place.Place.TheOpen.{Place-F}
use Rattle.suit_engine.specs.declared.place.Place.TheViews.{roll-Place}
use Rattle.suit_engine.specs.declared.place.Place.TheVariants as p
use Rattle.suit_engine.specs.declared.place.Place.TheFolds.{map-Place, fold-roll-Place, ind-Place}
use Rattle.suit_engine.specs.declared.state.State.{State}
use Rattle.suit_engine.specs.declared.stop.Stop.{Stop}
use Rattle.suit_engine.specs.declared.stop.Stop.TheVariants as stops
use Rattle.suit_engine.specs.States.{current}
use Rattle.suit_engine.specs.Steps.{Step, Went, Fails, Act, and_then, unless_caught, tried}
use Rattle.suit_engine.specs.Acts.{World, later, act_by, fetches_from, does, do_all}
use Rattle.suit_engine.specs.Places.{GoingOn, at_one, or_behind, from_command, from_alternative, in_fetch, in_run, in_tries, goes_on_by, goes_on, sequence_goes_on, command_goes_on}
use Rattle.suit_engine.specs.Answers.{Stops, Waits, Suspends, IsCaught, GoesThrough, CaughtAs, IsSeenFrom}
use Rattle.suit_engine.proofs.Stays.{Keeps, kept, kept_sequence}

-- the same with whatever more is fetched
abbrev pub Later : World → (World → Step) → (World → Step) → Type 0
Later w a b = (more : List Fetched) → a (later w more) ≡ b (later w more)

-- the same now, and later
pub record Same (w : World) (a b : World → Step) : Type 0 where
  pub now : a w ≡ b w
  pub then : Later w a b

-- ---- a place by its layer

pub placed_fetch : (w : World) (s : State) → goes_on w (p.Fetch s) ≡ goes_on_by w (Place-F.Fetch s)
placed_fetch w s = ap (goes_on w) (sym (p.rolls-Fetch s)) ∙ fold-roll-Place GoingOn (goes_on_by w) (Place-F.Fetch s)

pub placed_command : (w : World) (n : ℕ) (within : Place) → goes_on w (p.Command n within) ≡ goes_on_by w (Place-F.Command n (goes_on w within))
placed_command w n within = ap (goes_on w) (sym (p.rolls-Command n within)) ∙ fold-roll-Place GoingOn (goes_on_by w) (Place-F.Command n within)

pub placed_alternative : (w : World) (n : ℕ) (before : State) (within : Place) → goes_on w (p.Alternative n before within) ≡ goes_on_by w (Place-F.Alternative n before (goes_on w within))
placed_alternative w n before within =
    ap (goes_on w) (sym (p.rolls-Alternative n before within)) ∙ fold-roll-Place GoingOn (goes_on_by w) (Place-F.Alternative n before within)

-- ---- the one at a number

pub one_at : {A : Type 0} → (xs : List A) (n : ℕ) (d : A) → n < length xs → slice_get xs n ≡ Some (get_or xs n d)
one_at [] n d below = absurd (omega arith)
one_at (x ∷ xs) zero d below = refl
one_at (x ∷ xs) (suc n) d below = one_at xs n d (omega (arith, below))

pub one_past : {A : Type 0} → (xs : List A) (n : ℕ) → length xs ≤ n → slice_get xs n ≡ None
one_past [] n past = refl
one_past (x ∷ xs) zero past = absurd (omega (arith, past))
one_past (x ∷ xs) (suc n) past = one_past xs n (omega (arith, past))

-- commands from a number on are the one at it, and then those behind
pub commands_from : (w : World) (commands : Sequence) (n : ℕ) (x : Command) (s : State) → n < length commands → x ≡ get_or commands n x
    → do_all w (drop n commands) s ≡ and_then (do_all w (drop (n + 1) commands)) (does w x s)
commands_from w commands n x s below is =
    ap (λ (cs : Sequence). do_all w cs s) (drop_more commands n x below) ∙ ap (λ (y : Command). and_then (do_all w (drop (n + 1) commands)) (does w y s)) (sym is)

-- alternatives from a number on are the one at it, and where that is caught those behind
pub alternatives_from : (w : World) (null_last : Bool) (word : Word) (sequences : List Sequence) (n : ℕ) (x : Sequence) (s : State) → n < length sequences
    → x ≡ get_or sequences n x
    → tried null_last word (map (do_all w) (drop n sequences)) s ≡ or_behind w null_last s (drop (n + 1) sequences) (do_all w x s)
alternatives_from w null_last word sequences n x s below is =
    ap (λ (ss : List Sequence). tried null_last word (map (do_all w) ss) s) (drop_more sequences n x below)
    ∙ ap (λ (y : Sequence). or_behind w null_last s (drop (n + 1) sequences) (do_all w y s)) (sym is)

-- ---- what is kept

pub kept_went : (env : List Fetched) (x y : Step) (s : State) → Keeps env x y → x ≡ Went s → y ≡ Went s
kept_went env x y s keeps is = let P : Step → Type 0 = λ z. Keeps env z y in subst P is keeps

-- ---- seen from further out

module _ (w : World) (goes goes_out : World → Place → Step) (step runs : World → Step) (out : Place → Place)
    (is : (more : List Fetched) (within : Place) → goes (later w more) within ≡ step (later w more) → goes_out (later w more) (out within) ≡ runs (later w more)) where
  seen : (uri : List ℕ) (place : Place) (stop : Stop) → Waits w goes step stop → (within : Place) → stop ≡ stops.Needed uri within → place ≡ out within
      → Waits w goes_out runs (stops.Needed uri place)
  seen uri place stop waits within was from more =
      let P : Stop → Type 0 = λ x. Waits w goes step x in
      let inner : Waits w goes step (stops.Needed uri within) = subst P was waits in
      ap (goes_out (later w more)) from ∙ is more within (inner more)

  pub seen_out : (stop stop_out : Stop) → Waits w goes step stop → IsSeenFrom out stop stop_out → Waits w goes_out runs stop_out
  seen_out stop (stops.Failed word) waits from = tt
  seen_out stop (stops.Needed uri place) waits from = seen uri place stop waits from.0 from.1 from.2
  seen_out stop stops.NoMemory waits from = tt

-- a stop in a command, seen from the sequence
pub seen_from_sequence : (w : World) (commands : Sequence) (n : ℕ) (x : Command) (step runs : World → Step) → n < length commands → x ≡ get_or commands n x
    → Later w (λ v. and_then (do_all v (drop (n + 1) commands)) (step v)) runs → (stop stop_out : Stop)
    → Waits w (λ v. command_goes_on v x) step stop → IsSeenFrom (λ place. p.Command n place) stop stop_out
    → Waits w (λ v. sequence_goes_on v commands) runs stop_out
seen_from_sequence w commands n x step runs below at is =
    seen_out w (λ v. command_goes_on v x) (λ v. sequence_goes_on v commands) step runs (λ place. p.Command n place) (λ more within same.
    let v : World = later w more in
    ap (λ (g : GoingOn). g.sequence commands) (placed_command v n within)
    ∙ ap (λ (o : Option Command). and_then (do_all v (drop (n + 1) commands)) (at_one (goes_on v within).command o)) (one_at commands n x below ∙ ap (λ (y : Command). Some y) (sym at))
    ∙ ap (and_then (do_all v (drop (n + 1) commands))) same
    ∙ is more)

-- a stop in an alternative, seen from the try-each
pub seen_from_try : (w : World) (command : Command) (sequences : List Sequence) (null_last : Bool) (before : State) (n : ℕ) (x : Sequence) (step runs : World → Step)
    → n < length sequences → x ≡ get_or sequences n x → command ≡ c.TryEach sequences null_last
    → Later w (λ v. or_behind v null_last before (drop (n + 1) sequences) (step v)) runs → (stop stop_out : Stop)
    → Waits w (λ v. sequence_goes_on v x) step stop → IsSeenFrom (λ place. p.Alternative n before place) stop stop_out
    → Waits w (λ v. command_goes_on v command) runs stop_out
seen_from_try w command sequences null_last before n x step runs below at tries_each is =
    seen_out w (λ v. sequence_goes_on v x) (λ v. command_goes_on v command) step runs (λ place. p.Alternative n before place) (λ more within same.
    let v : World = later w more in
    let behind : Step → Step = or_behind v null_last before (drop (n + 1) sequences) in
    ap (λ (g : GoingOn). g.command command) (placed_alternative v n before within)
    ∙ ap (λ (l : Command-F Command). in_tries (from_alternative v n before (goes_on v within).sequence) l) (ap out-Command tries_each ∙ c.outs-TryEach sequences null_last)
    ∙ ap (λ (o : Option Sequence). at_one (λ commands. behind ((goes_on v within).sequence commands)) o) (one_at sequences n x below ∙ ap (λ (y : Sequence). Some y) (sym at))
    ∙ ap behind same
    ∙ is more)

-- ---- the same act and the same way to go on, the same answer

module _ (w : World) (g h : World → Place → Step) (a b : World → Step) (goes : (more : List Fetched) (place : Place) → h (later w more) place ≡ g (later w more) place) (same : Later w a b) where
  waits_as : (stop : Stop) → Waits w g a stop → Waits w h b stop
  waits_as (stops.Failed word) waits = tt
  waits_as (stops.Needed uri place) waits = λ more. goes more place ∙ waits more ∙ same more
  waits_as stops.NoMemory waits = tt

  pub suspends_as : (r : Result State Stop) → Suspends w g a r → Suspends w h b r
  suspends_as (Ok s) suspends = tt
  suspends_as (Err stop) suspends = waits_as stop suspends

pub suspends_same : (w : World) (g : World → Place → Step) (a b : World → Step) → Later w a b → (r : Result State Stop) → Suspends w g a r → Suspends w g b r
suspends_same w g a b same = suspends_as w g g a b (λ more place. refl) same

-- ---- a sequence that is run

run_layer : (w : World) (commands : Sequence) (l : Place-F GoingOn) → (goes_on_by w l).command (c.RunSequence commands) ≡ (goes_on_by w l).sequence commands
run_layer w commands (Place-F.Fetch s) = ap (in_fetch (fetches_from w (current s).setting.uri s)) (c.outs-RunSequence commands)
run_layer w commands (Place-F.Command n within) = ap (in_run (from_command w n within.command)) (c.outs-RunSequence commands)
run_layer w commands (Place-F.Alternative n before within) = ap (in_tries (from_alternative w n before within.sequence)) (c.outs-RunSequence commands)

-- a place in the command is one in the sequence
pub run_goes_on : (w : World) (commands : Sequence) (place : Place) → command_goes_on w (c.RunSequence commands) place ≡ sequence_goes_on w commands place
run_goes_on w commands = ind-Place (λ place. command_goes_on w (c.RunSequence commands) place ≡ sequence_goes_on w commands place) (λ x y is.
    let e : goes_on w (roll-Place x) ≡ goes_on_by w (map-Place Place GoingOn (goes_on w) x) = fold-roll-Place GoingOn (goes_on_by w) x in
    ap (λ (g : GoingOn). g.command (c.RunSequence commands)) e ∙ run_layer w commands (map-Place Place GoingOn (goes_on w) x) ∙ ap (λ (g : GoingOn). g.sequence commands) (sym e))

runs_are : (w : World) (commands : Sequence) (s : State) → do_all w commands s ≡ does w (c.RunSequence commands) s
runs_are w commands s = sym (
    ap (λ (x : Command). does w x s) (sym (c.rolls-RunSequence commands))
    ∙ ap (λ (a : Act). a s) (fold-roll-Command Act (act_by w) (Command-F.RunSequence commands)))

-- what is answered for the sequence is answered for the command
pub runs_suspend : (w : World) (command : Command) (commands : Sequence) (s : State) (r : Result State Stop) → command ≡ c.RunSequence commands
    → Suspends w (λ v. sequence_goes_on v commands) (λ v. do_all v commands s) r → Suspends w (λ v. command_goes_on v command) (λ v. does v command s) r
runs_suspend w command commands s r is =
    suspends_as w (λ v. sequence_goes_on v commands) (λ v. command_goes_on v command) (λ v. do_all v commands s) (λ v. does v command s)
    (λ more place. ap (λ (x : Command). command_goes_on (later w more) x place) is ∙ run_goes_on (later w more) commands place)
    (λ more. runs_are (later w more) commands s ∙ ap (λ (x : Command). does (later w more) x s) (sym is)) r

-- ---- one step on

-- one command on
pub command_done : (w : World) (commands : Sequence) (n : ℕ) (x : Command) (s next : State) (runs : World → Step) → n < length commands → x ≡ get_or commands n x
    → does w x s ≡ Went next → Same w (λ v. do_all v (drop n commands) s) runs → Same w (λ v. do_all v (drop (n + 1) commands) next) runs
command_done w commands n x s next runs below at went same = record {
  now = sym (commands_from w commands n x s below at ∙ ap (and_then (do_all w (drop (n + 1) commands))) went) ∙ same.now;
  then = λ more.
      let v : World = later w more in
      sym (commands_from v commands n x s below at ∙ ap (and_then (do_all v (drop (n + 1) commands))) (kept_went w.env (does w x s) (does v x s) next (kept w more x s) went)) ∙ same.then more;
}

-- what comes next where a word is caught
pub next_of : (next : Word → Step) (word : Word) → IsCaught word → unless_caught next (Fails word) ≡ next word
next_of next Condition is = refl
next_of next Payload is = refl
next_of next Fetches is = absurd is

pub kept_word : (env : List Fetched) (x y : Step) (word : Word) → IsCaught word → Keeps env x y → x ≡ Fails word → y ≡ Fails word
kept_word env x y Condition caught keeps is = let P : Step → Type 0 = λ z. Keeps env z y in subst P is keeps
kept_word env x y Payload caught keeps is = let P : Step → Type 0 = λ z. Keeps env z y in subst P is keeps
kept_word env x y Fetches caught keeps is = absurd caught

-- one alternative on
pub alternative_failed : (w : World) (null_last : Bool) (first word : Word) (sequences : List Sequence) (n : ℕ) (x : Sequence) (s : State) (runs : World → Step)
    → n < length sequences → x ≡ get_or sequences n x → do_all w x s ≡ Fails word → IsCaught word
    → Same w (λ v. tried null_last first (map (do_all v) (drop n sequences)) s) runs → Same w (λ v. tried null_last word (map (do_all v) (drop (n + 1) sequences)) s) runs
alternative_failed w null_last first word sequences n x s runs below at failed caught same = record {
  now = sym (one w failed) ∙ same.now;
  then = λ more. sym (one (later w more) (kept_word w.env (do_all w x s) (do_all (later w more) x s) word caught (kept_sequence w more x s) failed)) ∙ same.then more;
} where
  one : (v : World) → do_all v x s ≡ Fails word
      → tried null_last first (map (do_all v) (drop n sequences)) s ≡ tried null_last word (map (do_all v) (drop (n + 1) sequences)) s
  one v fails =
      alternatives_from v null_last first sequences n x s below at
      ∙ ap (or_behind v null_last s (drop (n + 1) sequences)) fails
      ∙ next_of (λ next. tried null_last next (map (do_all v) (drop (n + 1) sequences)) s) word caught

-- ---- stops

-- what stops where a step is caught
pub word_is : (step : Step) (stop : Stop) (word : Word) → Stops step stop → CaughtAs stop (Ok word) → step ≡ Fails word
word_is step stop word stops is = let P : Stop → Type 0 = λ x. Stops step x in subst P is.0 stops

through : (next : Word → Step) (step : Step) (stop : Stop) → Stops step stop → GoesThrough stop → Stops (unless_caught next step) stop
through next step (stops.Failed word) is goes = ap (unless_caught next) (is ∙ ap (λ (x : Word). Fails x) goes) ∙ ap (λ (x : Word). Fails x) (sym goes)
through next step (stops.Needed uri place) is goes = ap (unless_caught next) is
through next step stops.NoMemory is goes = tt

-- a stop that is not caught is the stop of the try-each
pub goes_through : (next : Word → Step) (step : Step) (stop other : Stop) → Stops step stop → CaughtAs stop (Err other) → Stops (unless_caught next step) other
goes_through next step stop other is caught = let P : Stop → Type 0 = λ x. Stops step x in through next step other (subst P (sym caught.0) is) caught.1

-- so is what it is from further out
pub seen_stops : (step : Step) (out : Place → Place) (stop stop_out : Stop) → Stops step stop → IsSeenFrom out stop stop_out → Stops step stop_out
seen_stops step out stop (stops.Failed word) is seen = let P : Stop → Type 0 = λ x. Stops step x in subst P seen is
seen_stops step out stop (stops.Needed uri place) is seen = let P : Stop → Type 0 = λ x. Stops step x in subst P seen.1 is
seen_stops step out stop stops.NoMemory is seen = tt
