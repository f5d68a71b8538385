use Rattle.trust_anchors.proofs.Readers.{is_only, is_bad, is_refused}
use Rattle.trust_anchors.proofs.anchors.Anchors.read.Goals as goal

pub returns-clause-only : goal.returns-clause-only
returns-clause-only c = is_only c.args.item.now c.in-Some.managers.now c.in-Some.authors.now c.read_roles.result c.in-Some.ensures c.read_roles.ensures

pub returns-clause-bad : goal.returns-clause-bad
returns-clause-bad c = is_bad c.args.item.now c.in-Some.managers.now c.in-Some.authors.now c.read_roles.result c.in-Some.ensures c.read_roles.ensures

pub returns-clause-refused : goal.returns-clause-refused
returns-clause-refused c = is_refused c.args.item.now c.in-Some.managers.now c.in-Some.authors.now c.read_roles.result c.in-Some.ensures c.read_roles.ensures
