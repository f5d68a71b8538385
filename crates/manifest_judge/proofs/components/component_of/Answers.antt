use Rattle.std.proofs.Common.{Option, List, ℕ, sym, subst}
use Rattle.std.specs.Prelude.{IfOk}
use Rattle.manifest_judge.specs.Stages.{Finds}
use Rattle.manifest_judge.specs.Claims.{IsMade}
use Rattle.manifest_judge.proofs.components.component_of.Goals as goal

pub returns-in-Some : goal.returns-in-Some
returns-in-Some c =
    let built = c.args.built in
    let P : Option (List ℕ) → Type 0 = λ bytes. IfOk c.with_bytes.result (Finds (IsMade c.args.id.now (record { bytes = bytes; digest = built.digest; size = built.size }))) in
    subst P (sym c.in-Some.is) c.with_bytes.ensures
