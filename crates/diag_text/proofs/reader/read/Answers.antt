use Rattle.std.proofs.Common.{arith, ◌<◌, ◌^◌, length, ap}
use Rattle.diag_text.proofs.Exact.{read_found, read_only, read_bad, read_refused}
use Rattle.diag_text.proofs.reader.read.Goals as goal

pub returns-clause-found : goal.returns-clause-found
returns-clause-found c =
    let decided = rw c.as_bytes.ensures.value at c.read_alone.ensures in
    let fits : length c.args.text.now < 2 ^ 64 = omega (arith, ap length c.as_bytes.ensures.value, c.as_bytes.type_inv.0) in
    read_found c.args.text.now c.read_alone.result fits decided

pub returns-clause-only : goal.returns-clause-only
returns-clause-only c x p =
    let decided = rw c.as_bytes.ensures.value at c.read_alone.ensures in
    read_only c.args.text.now c.read_alone.result decided x p

pub returns-clause-bad : goal.returns-clause-bad
returns-clause-bad c f is =
    let decided = rw c.as_bytes.ensures.value at c.read_alone.ensures in
    let fits : length c.args.text.now < 2 ^ 64 = omega (arith, ap length c.as_bytes.ensures.value, c.as_bytes.type_inv.0) in
    read_bad c.args.text.now c.read_alone.result fits decided f is

pub returns-clause-refused : goal.returns-clause-refused
returns-clause-refused c at h =
    let decided = rw c.as_bytes.ensures.value at c.read_alone.ensures in
    let fits : length c.args.text.now < 2 ^ 64 = omega (arith, ap length c.as_bytes.ensures.value, c.as_bytes.type_inv.0) in
    read_refused c.args.text.now c.read_alone.result fits decided at h
