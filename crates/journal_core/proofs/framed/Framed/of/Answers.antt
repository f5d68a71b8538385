use Rattle.std.proofs.Common.{◌≡◌, ◌∙◌, List, ℕ, ap, arith, length, map, take}
use Rattle.std.proofs.lemmas.List.{take_all}
use Rattle.journal_core.specs.Frames.{frames}
use Rattle.journal_core.proofs.Unframing.{closed, bodies_come_back}
use Rattle.journal_core.proofs.framed.Framed.of.Goals as goal

pub invariant_of-result : goal.invariant_of-result
invariant_of-result c =
    let all : take c.loop-body.body-index c.as_slice-body-items.result.now ≡ c.args.bodies.now = take_all c.loop-body.body-index c.as_slice-body-items.result.now (omega arith) ∙ c.as_slice-body-items.ensures in
    closed c.args.bodies.now c.loop-body.lengths.items c.loop-body.bytes.items c.push-2.new.self.items
    (c.loop-body.invariant.lengths_are ∙ ap (λ (l : List (List ℕ)). map length l) all) (c.loop-body.invariant.bytes_are ∙ ap (λ (l : List (List ℕ)). frames l) all) c.in_ok-push-2.ensures.items

pub returns : goal.returns
returns c =
    let all : take c.loop-body.body-index c.as_slice-body-items.result.now ≡ c.args.bodies.now = take_all c.loop-body.body-index c.as_slice-body-items.result.now (omega arith) ∙ c.as_slice-body-items.ensures in
    bodies_come_back c.args.bodies.now c.loop-body.lengths.items c.loop-body.bytes.items c.push-2.new.self.items
    (c.loop-body.invariant.lengths_are ∙ ap (λ (l : List (List ℕ)). map length l) all) (c.loop-body.invariant.bytes_are ∙ ap (λ (l : List (List ℕ)). frames l) all) c.in_ok-push-2.ensures.items
