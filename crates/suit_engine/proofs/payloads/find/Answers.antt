use Rattle.std.proofs.Common.{ℕ, List, Option, sym, ap, subst, ◌∙◌}
use Rattle.std.specs.Prelude.{IfOk}
use Rattle.suit_engine.specs.declared.state.Part.{Part}
use Rattle.suit_engine.specs.Acts.{fetches_from}
use Rattle.suit_engine.specs.Answers.{FindsAs}
use Rattle.suit_engine.proofs.payloads.find.Goals as goal

pub returns-in-Some : goal.returns-in-Some
returns-in-Some c =
    let P : Option (List ℕ) → Type 0 = λ o. IfOk c.payload.result (FindsAs (fetches_from c.args.world.now o)) in
    subst P (c.get.ensures ∙ ap (λ (p : Part). p.setting.uri) c.in-Some.ensures.found) c.payload.ensures

pub returns-in-None : goal.returns-in-None
returns-in-None c =
    let P : Option (List ℕ) → Type 0 = λ o. IfOk c.payload-in-None.result (FindsAs (fetches_from c.args.world.now o)) in
    subst P (sym (ap (λ (p : Part). p.setting.uri) c.in-None.ensures.found)) c.payload-in-None.ensures
