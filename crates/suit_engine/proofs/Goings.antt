-- Where more was fetched, going on from a place does what it did, unless it stopped for want of a payload.
use Rattle.std.proofs.Common.{◌≡◌, ℕ, ◌+◌, Bool, List, map, drop, Option, Some, None, refl, sym, subst}
use Rattle.std.specs.Prelude.{slice_get}
use Rattle.suit_commands.specs.declared.command.Command.{Command, out-Command}
use Rattle.suit_commands.specs.declared.command.Command.TheOpen.{Command-F}
use Rattle.suit_commands.specs.Sequences.{Sequence}
use Rattle.suit_engine.specs.declared.outcome.Fetched.{Fetched}
use Rattle.suit_engine.specs.declared.place.Place.{Place}
use Rattle.suit_engine.specs.declared.place.Place.TheOpen.{Place-F}
use Rattle.suit_engine.specs.declared.place.Place.TheViews.{roll-Place}
use Rattle.suit_engine.specs.declared.place.Place.TheFolds.{map-Place, fold-roll-Place, ind-Place}
use Rattle.suit_engine.specs.declared.state.State.{State}
use Rattle.suit_engine.specs.States.{current}
use Rattle.suit_engine.specs.Steps.{Step, tried}
use Rattle.suit_engine.specs.Acts.{World, later, fetches_from, do_all}
use Rattle.suit_engine.specs.Places.{GoingOn, at_one, or_behind, from_command, from_alternative, in_fetch, in_run, in_tries, goes_on_by, goes_on}
use Rattle.suit_engine.proofs.Stays.{Keeps, keeps_then, keeps_unless, keeps_tries, keeps_from, kept_sequence}

module _ (w : World) (more : List Fetched) where
  -- both ways of going on
  pub record KeepsGoing (a b : GoingOn) : Type 0 where
    pub sequence : (commands : Sequence) → Keeps w.env (a.sequence commands) (b.sequence commands)
    pub command : (command : Command) → Keeps w.env (a.command command) (b.command command)

  abbrev IsKept : Place → Type 0
  IsKept place = KeepsGoing (goes_on w place) (goes_on (later w more) place)

  abbrev Kept : Type 0
  Kept = (place : Place) × IsKept place

  keeps_one : {A : Type 0} (f g : A → Step) → ((x : A) → Keeps w.env (f x) (g x)) → (o : Option A) → Keeps w.env (at_one f o) (at_one g o)
  keeps_one f g each None = refl
  keeps_one f g each (Some x) = each x

  keeps_command : (n : ℕ) (f g : Command → Step) → ((command : Command) → Keeps w.env (f command) (g command)) → (commands : Sequence)
      → Keeps w.env (from_command w n f commands) (from_command (later w more) n g commands)
  keeps_command n f g each commands =
      keeps_then w.env (do_all w (drop (n + 1) commands)) (do_all (later w more) (drop (n + 1) commands)) (kept_sequence w more (drop (n + 1) commands))
      (at_one f (slice_get commands n)) (at_one g (slice_get commands n)) (keeps_one f g each (slice_get commands n))

  keeps_alternative : (n : ℕ) (before : State) (f g : Sequence → Step) → ((commands : Sequence) → Keeps w.env (f commands) (g commands)) → (sequences : List Sequence) (null_last : Bool)
      → Keeps w.env (from_alternative w n before f sequences null_last) (from_alternative (later w more) n before g sequences null_last)
  keeps_alternative n before f g each sequences null_last =
      keeps_one (λ commands. or_behind w null_last before (drop (n + 1) sequences) (f commands)) (λ commands. or_behind (later w more) null_last before (drop (n + 1) sequences) (g commands))
      (λ commands. keeps_unless w.env (λ word. tried null_last word (map (do_all w) (drop (n + 1) sequences)) before) (λ word. tried null_last word (map (do_all (later w more)) (drop (n + 1) sequences)) before)
      (λ word. keeps_tries w.env (do_all w) (do_all (later w more)) (kept_sequence w more) null_last word (drop (n + 1) sequences) before) (f commands) (g commands) (each commands))
      (slice_get sequences n)

  keeps_in_fetch : (a b : Step) → Keeps w.env a b → (l : Command-F Command) → Keeps w.env (in_fetch a l) (in_fetch b l)
  keeps_in_fetch a b keeps (Command-F.Fetch policy) = keeps
  keeps_in_fetch a b keeps _ = refl

  keeps_in_run : (f g : Sequence → Step) → ((commands : Sequence) → Keeps w.env (f commands) (g commands)) → (l : Command-F Command) → Keeps w.env (in_run f l) (in_run g l)
  keeps_in_run f g each (Command-F.RunSequence commands) = each commands
  keeps_in_run f g each _ = refl

  keeps_in_tries : (f g : List Sequence → Bool → Step) → ((sequences : List Sequence) (null_last : Bool) → Keeps w.env (f sequences null_last) (g sequences null_last)) → (l : Command-F Command)
      → Keeps w.env (in_tries f l) (in_tries g l)
  keeps_in_tries f g each (Command-F.TryEach sequences null_last) = each sequences null_last
  keeps_in_tries f g each _ = refl

  abbrev layer : World → Place-F Place → GoingOn
  layer v x = goes_on_by v (map-Place Place GoingOn (goes_on v) x)

  kept_layer : (y : Place-F Kept) → KeepsGoing (layer w (map-Place Kept Place (λ e. e.0) y)) (layer (later w more) (map-Place Kept Place (λ e. e.0) y))
  kept_layer (Place-F.Fetch s) = record {
    sequence = λ commands. refl;
    command = λ command. keeps_in_fetch (fetches_from w (current s).setting.uri s) (fetches_from (later w more) (current s).setting.uri s) (keeps_from w more (current s).setting.uri s) (out-Command command);
  }
  kept_layer (Place-F.Command n e) =
      let each : (commands : Sequence) → Keeps w.env (from_command w n (goes_on w e.0).command commands) (from_command (later w more) n (goes_on (later w more) e.0).command commands) =
      keeps_command n (goes_on w e.0).command (goes_on (later w more) e.0).command e.1.command in
      record {
        sequence = each;
        command = λ command. keeps_in_run (from_command w n (goes_on w e.0).command) (from_command (later w more) n (goes_on (later w more) e.0).command) each (out-Command command);
      }
  kept_layer (Place-F.Alternative n before e) = record {
    sequence = λ commands. refl;
    command = λ command.
        keeps_in_tries (from_alternative w n before (goes_on w e.0).sequence) (from_alternative (later w more) n before (goes_on (later w more) e.0).sequence)
        (keeps_alternative n before (goes_on w e.0).sequence (goes_on (later w more) e.0).sequence e.1.sequence) (out-Command command);
  }

  pub kept_place : (place : Place) → IsKept place
  kept_place = ind-Place IsKept (λ x y is.
      let one : goes_on w (roll-Place x) ≡ layer w x = fold-roll-Place GoingOn (goes_on_by w) x in
      let two : goes_on (later w more) (roll-Place x) ≡ layer (later w more) x = fold-roll-Place GoingOn (goes_on_by (later w more)) x in
      let P : Place-F Place → Type 0 = λ z. KeepsGoing (layer w z) (layer (later w more) z) in
      let Q : GoingOn → Type 0 = λ a. KeepsGoing a (goes_on (later w more) (roll-Place x)) in
      let R : GoingOn → Type 0 = λ b. KeepsGoing (layer w x) b in
      subst Q (sym one) (subst R (sym two) (subst P is (kept_layer y))))
