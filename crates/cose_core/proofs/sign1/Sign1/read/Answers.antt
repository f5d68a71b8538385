use Rattle.cose_core.proofs.Sign1s.{is_found, is_bad, is_only, is_refused}
use Rattle.cose_core.proofs.sign1.Sign1.read.Goals as goal

pub returns-clause-found : goal.returns-clause-found
returns-clause-found c = is_found c.args.bytes.now c.in_ok-item.item c.read_item.result c.in_ok-item.ensures.found c.read_item.ensures

pub returns-clause-only : goal.returns-clause-only
returns-clause-only c = is_only c.args.bytes.now c.in_ok-item.item c.read_item.result c.in_ok-item.ensures.found c.read_item.ensures

pub returns-clause-bad : goal.returns-clause-bad
returns-clause-bad c = is_bad c.args.bytes.now c.in_ok-item.item c.read_item.result c.in_ok-item.ensures.found c.read_item.ensures

pub returns-clause-refused : goal.returns-clause-refused
returns-clause-refused c = is_refused c.args.bytes.now c.in_ok-item.item c.read_item.result c.in_ok-item.ensures.found c.in_ok-item.ensures.refused c.read_item.ensures
