use Rattle.std.proofs.Common.{List, ◌∷◌, [], sym, subst}
use Rattle.suit_engine.specs.declared.outcome.Fetched.{Fetched}
use Rattle.manifest_judge.specs.Openings.{CanGoOn}
use Rattle.manifest_judge.proofs.Public.Candidates.{waits_on}
use Rattle.judge_tests.proofs.tests.in_two.Goals as goal

pub run-requires-in-Goes : goal.run-requires-in-Goes
run-requires-in-Goes c = subst (λ (env : List Fetched). CanGoOn c.run.new.self env) (sym c.in_ok-push-in-Goes.ensures.ok) (waits_on c.run.new.self c.in_ok-env.env (c.in_ok-entry-in-Goes.field-0 ∷ []) c.in_ok-first-in-Goes.ensures.waits)
