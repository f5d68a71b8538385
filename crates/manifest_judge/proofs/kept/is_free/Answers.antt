use Rattle.std.proofs.Common.{rules, IsTrue}
use Rattle.manifest_judge.specs.Claims.{LeavesFree}
use Rattle.manifest_judge.proofs.Lists.{all_goes_on}
use Rattle.manifest_judge.proofs.kept.is_free.Goals as goal

pub loop-row-preserved : goal.loop-row-preserved
loop-row-preserved c =
    let m = c.args.manifest.now in
    let yes : IsTrue c.leaves_free.result = search rules in
    all_goes_on (LeavesFree m.id m.components) c.args.rows.now c.loop-row.row-index c.row-item.result _ c.loop-row-test.true c.row-item.is (c.leaves_free.ensures.0 yes) c.loop-row.invariant
