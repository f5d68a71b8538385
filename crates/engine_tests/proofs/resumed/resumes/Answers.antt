use Rattle.std.proofs.Common.{List, [], ◌∷◌, sym, subst}
use Rattle.suit_engine.specs.declared.outcome.Fetched.{Fetched}
use Rattle.suit_engine.specs.Suspended.{GoesOn}
use Rattle.suit_engine.proofs.Public.Suspended.{waits_on}
use Rattle.engine_tests.proofs.resumed.resumes.Goals as goal

pub resume-requires : goal.resume-requires
resume-requires c =
    let P : List Fetched → Type 0 = λ env. GoesOn c.args.engine.now env in
    subst P (sym c.in_ok-push.ensures.ok) (waits_on c.args.engine.now c.args.env.now (c.in_ok-one.one ∷ []) c.requires)
