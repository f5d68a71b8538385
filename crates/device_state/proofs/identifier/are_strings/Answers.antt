use Rattle.std.proofs.Common.{◌≡◌, ◌<◌, ◌≤◌, false, length, refl, arith}
use Rattle.cbor_fields.specs.Views.{all_bytes}
use Rattle.device_state.proofs.Strings.{step, no_string, nothing, all_walked}
use Rattle.device_state.proofs.identifier.are_strings.Goals as goal

pub loop-init : goal.loop-init
loop-init c = λ xs are n. record { left = are; same = refl }

pub returns-in_default : goal.returns-in_default
returns-in_default c = λ xs are n.
    let m = c.in-Some.member in
    let none : all_bytes xs ≡ false = no_string xs c.loop.counter c.loop.rest.now m.content.now m.behind.now m.head (omega arith) (c.loop.invariant xs are n) c.in-Some.ensures.found c.in_default.not-Bytes in
    (λ is. absurd cc, λ all. absurd cc)

pub returns-in-None : goal.returns-in-None
returns-in-None c = λ xs are n. absurd (nothing xs c.loop.counter c.loop.rest.now (omega arith) (c.loop.invariant xs are n) c.in-None.ensures.found)

pub loop-preserved : goal.loop-preserved
loop-preserved c = λ xs are n.
    let m = c.in-Some.member in
    step xs c.loop.counter c.loop.rest.now m.content.now m.behind.now m.head (omega arith) (c.loop.invariant xs are n) c.in-Some.ensures.found c.in-Bytes.is

pub returns : goal.returns
returns c = λ xs are n.
    let all = all_walked xs c.loop.counter c.loop.rest.now (omega arith) (c.loop.invariant xs are n) in
    (λ is. all, λ is. refl)
