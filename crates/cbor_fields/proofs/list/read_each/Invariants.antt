use Rattle.std.proofs.Common.{◌≡◌, [], drop}
use Rattle.cbor_fields.specs.Walks.{each_from}
use Rattle.cbor_fields.proofs.list.read_each.Given as goal

abbrev pub invariant-loop-member : goal.invariant-loop-member
invariant-loop-member g l = each_from g.F.Form.view l.values (drop l.member-index l.members) ≡ each_from g.F.Form.view [] l.members
