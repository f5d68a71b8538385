use Rattle.std.proofs.Common.{◌++◌}
use Rattle.cbor_core.specs.Spelling.{spelling}
use Rattle.cbor_span.proofs.Taken.{pair_bytes}
use Rattle.cbor_span.proofs.fields.open_pair.Goals as goal

pub returns-in-Some-first : goal.returns-in-Some-first
returns-in-Some-first c p more s =
    let one = c.in-Some.ensures.found p.key (spelling p.value ++ more) (s.0, pair_bytes p more c.args.bytes.now s.2) in
    let two = c.in-Some-first.ensures.found p.value more (s.1, one.2) in
    (one.0, two.0, two.1)

pub returns-in-None-first : goal.returns-in-None-first
returns-in-None-first c p more s =
    let one = c.in-Some.ensures.found p.key (spelling p.value ++ more) (s.0, pair_bytes p more c.args.bytes.now s.2) in
    c.in-None-first.ensures.found p.value more (s.1, one.2)

pub returns-in-None : goal.returns-in-None
returns-in-None c p more s = c.in-None.ensures.found p.key (spelling p.value ++ more) (s.0, pair_bytes p more c.args.bytes.now s.2)
