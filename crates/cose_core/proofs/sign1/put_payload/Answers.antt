use Rattle.std.proofs.Common.{◌≡◌, ℕ, List, OnOk, subst}
use Rattle.cose_core.proofs.Written.{null_in_range, null_written, string_in_range, string_written}
use Rattle.cose_core.proofs.sign1.put_payload.Goals as goal

pub returns-in-Some-clause-written : goal.returns-in-Some-clause-written
returns-in-Some-clause-written c = subst (λ (t : List ℕ). OnOk c.bytes.result (c.bytes.new.self ≡ t))
    (string_written c.args.out.now c.args.payload.now c.in-Some.bytes c.as_slice.result.now c.in-Some.is c.as_slice.ensures) c.bytes.ensures.written

pub returns-in-Some-clause-range : goal.returns-in-Some-clause-range
returns-in-Some-clause-range c = string_in_range c.args.payload.now c.in-Some.bytes c.as_slice.result.now c.in-Some.is c.as_slice.ensures c.bytes.ensures.range c.bytes.ensures.len

pub returns-in-None-clause-written : goal.returns-in-None-clause-written
returns-in-None-clause-written c = subst (λ (t : List ℕ). OnOk c.null.result (c.null.new.self ≡ t)) (null_written c.args.out.now c.args.payload.now c.in-None.is) c.null.ensures.written

pub returns-in-None-clause-range : goal.returns-in-None-clause-range
returns-in-None-clause-range c = null_in_range c.args.payload.now c.in-None.is
