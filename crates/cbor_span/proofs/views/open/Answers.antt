use Rattle.std.proofs.Common.{[]}
use Rattle.std.proofs.lemmas.List.{append-nil}
use Rattle.cbor_core.specs.declared.item.Item.{out-Item}
use Rattle.cbor_span.specs.Opening.{opening}
use Rattle.cbor_span.proofs.Openings.{alone}
use Rattle.cbor_span.proofs.views.open.Goals as goal

pub returns : goal.returns
returns c x s = rw (append-nil (opening (out-Item x)).1) at (c.open_front.ensures x [] ((s.proper, s.ranges), alone x c.args.bytes.now s.spelled))
