use Rattle.evidence.proofs.Written.{claims_spelled}
use Rattle.evidence.proofs.claims.evidence_of.Goals as goal

pub returns : goal.returns
returns c =
    rw c.into_octets.ensures (record {
      spelled = claims_spelled c.args.device.now c.args.challenge.now _ c.array.new.self c.unsigned.new.self c.bytes.new.self c.bytes-2.new.self c.bytes-3.new.self c.bytes-4.new.self
          (rw (← c.as_slice.ensures) (record { are = c.in_ok-bytes.ensures.range; len = c.in_ok-bytes.ensures.len }))
          (rw (← c.as_slice-2.ensures) (record { are = c.in_ok-bytes-2.ensures.range; len = c.in_ok-bytes-2.ensures.len }))
          (rw (← c.as_slice-3.ensures) (record { are = c.in_ok-bytes-3.ensures.range; len = c.in_ok-bytes-3.ensures.len }))
          (record { are = c.in_ok-bytes-4.ensures.range; len = c.in_ok-bytes-4.ensures.len })
          c.new-out.ensures c.in_ok-array.ensures.written c.in_ok-unsigned.ensures.written (rw (← c.as_slice.ensures) c.in_ok-bytes.ensures.written)
          (rw (← c.as_slice-2.ensures) c.in_ok-bytes-2.ensures.written) (rw (← c.as_slice-3.ensures) c.in_ok-bytes-3.ensures.written) c.in_ok-bytes-4.ensures.written;
    })
