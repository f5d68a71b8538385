use Rattle.std.proofs.lemmas.Result.{err_from_is_err_and}
use Rattle.suit_envelope.specs.declared.fault.EnvelopeFault.TheVariants.{Shape, NoMemory}
use Rattle.suit_envelope.specs.Manifests.{identifier}
use Rattle.suit_envelope.proofs.Each.{each_goes_on, each_stops, each_ends}
use Rattle.suit_envelope.proofs.read_manifest.read_identifiers.Goals as goal

pub returns-in_err-read_identifier : goal.returns-in_err-read_identifier
returns-in_err-read_identifier c =
    let p = err_from_is_err_and c.from_residual.result c.from_residual.ensures.1 in
    rw (p.1, p.2) (each_stops NoMemory (identifier (Shape 13)) c.loop-item.identifiers c.args.items.now c.loop-item.item-index c.item-item.result _
    c.loop-item-test.true c.item-item.is c.loop-item.invariant _ c.in_err-read_identifier.ensures)

pub loop-item-preserved : goal.loop-item-preserved
loop-item-preserved c =
    rw c.in_ok-push.ensures.ok (each_goes_on NoMemory (identifier (Shape 13)) c.loop-item.identifiers c.args.items.now c.loop-item.item-index c.item-item.result _
    c.loop-item-test.true c.item-item.is c.loop-item.invariant _ c.in_ok-read_identifier.ensures)

pub returns : goal.returns
returns c = each_ends NoMemory (identifier (Shape 13)) c.loop-item.identifiers c.args.items.now c.loop-item.item-index c.loop-item-test.false c.loop-item.invariant
