-- What holds of whole runs.
use Rattle.std.proofs.Common.{◌≡◌, ℕ, List, refl, sym, ap, subst, ◌∙◌}
use Rattle.suit_envelope.specs.declared.plan.Plan.{Plan}
use Rattle.suit_engine.specs.declared.outcome.Built.{Built}
use Rattle.suit_engine.specs.declared.outcome.Fetched.{Fetched}
use Rattle.suit_engine.specs.declared.outcome.Outcome.TheVariants.{Done, Need}
use Rattle.suit_engine.specs.States.{at_index}
use Rattle.suit_engine.specs.Steps.{Step, Went, Fails, Needs}
use Rattle.suit_engine.specs.Acts.{World, later}
use Rattle.suit_engine.specs.Runs.{sequence_of, passes, pass_does, beginning, outcome_of, run, Runs}
use Rattle.suit_engine.specs.Law.{OneOutcome, DoneStays, NeedsAnAddress}
use Rattle.suit_engine.proofs.Stays.{IsUnknown, Keeps, keeps_turn, kept_sequence, awaited}

pub one_outcome : OneOutcome
unfolding Runs
one_outcome count plan attached device env =
    record { outcome = outcome_of (run (record { attached = attached; device = device; env = env }) plan count); has = refl; alone = λ other is. sym is }

kept_run : (w : World) (more : List Fetched) (plan : Plan) (count : ℕ) → Keeps w.env (run w plan count) (run (later w more) plan count)
kept_run w more plan count =
    keeps_turn w.env (pass_does w plan) (pass_does (later w more) plan) (λ pass s. kept_sequence w more (sequence_of plan pass) (at_index 0 s)) passes (beginning count)

done : (env : List Fetched) (x y : Step) (all : List Built) → Keeps env x y → outcome_of x ≡ Done all → outcome_of y ≡ Done all
done env (Went s) y all keeps is = ap outcome_of keeps ∙ is
done env (Fails word) y all keeps is = absurd cc
done env (Needs uri) y all keeps is = absurd cc

pub done_stays : DoneStays
unfolding Runs
done_stays count plan attached device env more all is =
    let w : World = record { attached = attached; device = device; env = env } in
    done env (run w plan count) (run (later w more) plan count) all (kept_run w more plan count) is

needed : (env : List Fetched) (x y : Step) (uri : List ℕ) → Keeps env x y → outcome_of x ≡ Need uri → IsUnknown env uri
needed env (Went s) y uri keeps is = absurd cc
needed env (Fails word) y uri keeps is = absurd cc
needed env (Needs other) y uri keeps is = let same : other ≡ uri = cc in subst (λ (u : List ℕ). IsUnknown env u) same keeps

pub needs_an_address : NeedsAnAddress
unfolding Runs
needs_an_address count plan attached device env uri is =
    let w : World = record { attached = attached; device = device; env = env } in
    awaited env uri (needed env (run w plan count) (run (later w env) plan count) uri (kept_run w env plan count) is)
