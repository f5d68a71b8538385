use Rattle.std.proofs.Common.{refl}
use Rattle.cose_core.proofs.Written.{signed_joined}
use Rattle.cose_core.proofs.signed.SignedHeads.of.Goals as goal

pub returns-clause-joined : goal.returns-clause-joined
returns-clause-joined c =
    rw (c.into_octets.ensures, c.into_octets-2.ensures) (signed_joined c.args.protected.now c.args.payload.now _ _ c.new-front.result c.array.new.self c.text.new.self c.bytes_head.new.self
    c.new-middle.result c.bytes.new.self c.bytes_head-2.new.self
    c.new-front.ensures c.in_ok-array.ensures.written refl c.in_ok-text.ensures.written c.in_ok-bytes_head.ensures.written
    c.new-middle.ensures refl c.in_ok-bytes.ensures.written c.in_ok-bytes_head-2.ensures.written)
