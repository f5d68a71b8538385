use Rattle.std.proofs.Common.{◌≡◌, Err, ap, subst, arith}
use Rattle.device_state.specs.declared.change.Change.{Change}
use Rattle.commit_records.specs.declared.fault.ChangeFault.{ChangeFault}
use Rattle.commit_records.specs.Answers.{IsFound}
use Rattle.device_image.proofs.replay.read_behind.Goals as goal

pub returns-then-change-leaf-clause-read : goal.returns-then-change-leaf-clause-read
returns-then-change-leaf-clause-read c = λ other is least.
    let same : c.in-Ok.change.leaf ≡ other.leaf = ap (λ (change : Change). change.leaf) (c.in-Ok.ensures.only other is) in
    omega arith

pub returns-in-Err-BadChange-clause-read : goal.returns-in-Err-BadChange-clause-read
returns-in-Err-BadChange-clause-read c = λ change is least.
    subst (λ (e : ChangeFault). IsFound (Err e) change) c.in-Err-BadChange.field-0-is (c.in-Err-BadChange.ensures.only change is)
