use Rattle.agent_replies.proofs.Enveloped.{envelope_spelled}
use Rattle.agent_replies.proofs.sign.envelope.Goals as goal

pub returns : goal.returns
returns c =
    rw c.into_octets.ensures (
    envelope_spelled c.args.headers.now c.args.device.now c.args.payload.now c.args.signature.now
    _ c.tag.new.self c.array.new.self c.bytes.new.self c.map.new.self c.unsigned.new.self c.bytes-2.new.self c.bytes-3.new.self c.bytes-4.new.self
    c.requires (record { are = c.in_ok-bytes.ensures.range; len = c.in_ok-bytes.ensures.len })
    (record { are = c.in_ok-bytes-2.ensures.range; len = c.in_ok-bytes-2.ensures.len })
    (record { are = c.in_ok-bytes-3.ensures.range; len = c.in_ok-bytes-3.ensures.len })
    (record { are = c.in_ok-bytes-4.ensures.range; len = c.in_ok-bytes-4.ensures.len })
    c.new-out.ensures c.in_ok-tag.ensures.written c.in_ok-array.ensures.written c.in_ok-bytes.ensures.written
    c.in_ok-map.ensures.written c.in_ok-unsigned.ensures.written c.in_ok-bytes-2.ensures.written c.in_ok-bytes-3.ensures.written c.in_ok-bytes-4.ensures.written
    )
