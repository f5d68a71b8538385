-- What an engine that waits is owed before it goes on.
use Rattle.std.proofs.Common.{◌≡◌, List, ◌++◌, append_assoc, Option, None, sym, ap, subst}
use Rattle.suit_engine.specs.declared.outcome.Fetched.{Fetched}
use Rattle.suit_engine.specs.declared.place.Waiting.{Waiting}
use Rattle.suit_engine.specs.Contents.{Contents}
use Rattle.suit_engine.specs.Suspended.{run_of, going_on_from, going_on, GoesOn}
use Rattle.suit_engine.specs.Law.{WaitsOn}

-- with more behind what it had
pub waits_on : WaitsOn
unfolding GoesOn
waits_on e env more goes = λ rest.
    let P : List Fetched → Type 0 = λ all. going_on e all ≡ run_of e all in
    subst P (sym (append_assoc env more rest)) (goes (more ++ rest))

-- where nothing waits
pub fresh_goes_on : (e : Contents) (env : List Fetched) → e.waiting ≡ None → GoesOn e env
unfolding GoesOn
fresh_goes_on e env is = λ more. ap (λ (o : Option Waiting). going_on_from o e (env ++ more)) is
