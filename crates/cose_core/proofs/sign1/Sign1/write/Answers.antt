use Rattle.std.proofs.Common.{ℕ, List, sym, subst}
use Rattle.cbor_core.specs.Spelling.{Spells}
use Rattle.cose_core.specs.Sign1.{tagged}
use Rattle.cose_core.proofs.Sign1s.{is_again, is_tagged}
use Rattle.cose_core.proofs.Written.{headers_proper, sign1_written}
use Rattle.cose_core.proofs.sign1.Sign1.write.Goals as goal

pub headers-requires : goal.headers-requires
headers-requires c = headers_proper c.args.self.now c.requires

pub returns-clause-spelled : goal.returns-clause-spelled
returns-clause-spelled c = subst (λ (bytes : List ℕ). Spells (tagged c.args.self.now) bytes) (sym c.into_octets.ensures)
    (sign1_written c.args.self.now c.in_ok-headers.headers c.as_slice.result.now c.as_slice-2.result.now c.as_slice-3.result.now
    c.new-out.result c.tag.new.self c.array.new.self c.bytes.new.self c.piece.new.self c.put_payload.new.out c.bytes-2.new.self
    c.requires c.in_ok-headers.ensures c.as_slice.ensures c.as_slice-2.ensures c.as_slice-3.ensures
    c.new-out.ensures c.in_ok-tag.ensures.written c.in_ok-array.ensures.written c.bytes.ensures.range c.bytes.ensures.len c.in_ok-bytes.ensures.written
    c.in_ok-piece.ensures.written c.put_payload.ensures.range c.in_ok-put_payload.ensures.written
    c.bytes-2.ensures.range c.bytes-2.ensures.len c.in_ok-bytes-2.ensures.written)

pub returns-clause-again : goal.returns-clause-again
returns-clause-again c = λ proper. is_again c.args.self.now c.into_octets.result (subst (λ (bytes : List ℕ). Spells (tagged c.args.self.now) bytes) (sym c.into_octets.ensures)
    (sign1_written c.args.self.now c.in_ok-headers.headers c.as_slice.result.now c.as_slice-2.result.now c.as_slice-3.result.now
    c.new-out.result c.tag.new.self c.array.new.self c.bytes.new.self c.piece.new.self c.put_payload.new.out c.bytes-2.new.self
    c.requires c.in_ok-headers.ensures c.as_slice.ensures c.as_slice-2.ensures c.as_slice-3.ensures
    c.new-out.ensures c.in_ok-tag.ensures.written c.in_ok-array.ensures.written c.bytes.ensures.range c.bytes.ensures.len c.in_ok-bytes.ensures.written
    c.in_ok-piece.ensures.written c.put_payload.ensures.range c.in_ok-put_payload.ensures.written
    c.bytes-2.ensures.range c.bytes-2.ensures.len c.in_ok-bytes-2.ensures.written)) proper.headers

pub returns-clause-form : goal.returns-clause-form
returns-clause-form c = is_tagged c.args.self.now c.into_octets.result (subst (λ (bytes : List ℕ). Spells (tagged c.args.self.now) bytes) (sym c.into_octets.ensures)
    (sign1_written c.args.self.now c.in_ok-headers.headers c.as_slice.result.now c.as_slice-2.result.now c.as_slice-3.result.now
    c.new-out.result c.tag.new.self c.array.new.self c.bytes.new.self c.piece.new.self c.put_payload.new.out c.bytes-2.new.self
    c.requires c.in_ok-headers.ensures c.as_slice.ensures c.as_slice-2.ensures c.as_slice-3.ensures
    c.new-out.ensures c.in_ok-tag.ensures.written c.in_ok-array.ensures.written c.bytes.ensures.range c.bytes.ensures.len c.in_ok-bytes.ensures.written
    c.in_ok-piece.ensures.written c.put_payload.ensures.range c.in_ok-put_payload.ensures.written
    c.bytes-2.ensures.range c.bytes-2.ensures.len c.in_ok-bytes-2.ensures.written))
