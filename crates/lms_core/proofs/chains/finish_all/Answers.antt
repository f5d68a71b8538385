use Rattle.std.proofs.Common.{◌≡◌, ◌-◌, ◌∙◌, ap, sym, ℕ, arith, rules, slice_index}
use Rattle.lms_core.specs.Chains.{chain}
use Rattle.lms_core.proofs.Slots.{chain_next, slot}
use Rattle.lms_core.proofs.Steps.{chain_none}
use Rattle.lms_core.proofs.chains.finish_all.Goals as goal

pub loop-j-init : goal.loop-j-init
loop-j-init c = record {
  size = search rules;
  chains = λ k h. sym (chain_none c.args.identifier.now c.args.q k (slice_index c.args.digits.now k) (0 - slice_index c.args.digits.now k) (slot c.args.values.now k) (omega arith));
}

pub loop-j-preserved : goal.loop-j-preserved
loop-j-preserved c = record {
  size = search rules;
  chains = λ k h. chain_next c.args.identifier.now c.args.q k c.loop-j.j (slice_index c.args.digits.now k) (slot c.args.values.now k) (slot c.loop-j.values k) (slot c.step_all.new.values k)
      (c.step_all.ensures.stepped k h) (c.step_all.ensures.waiting k h) (c.loop-j.invariant.chains k h);
}

pub returns-clause-ends : goal.returns-clause-ends
returns-clause-ends c = λ k h.
    let count : c.loop-j.j - slice_index c.args.digits.now k ≡ c.args.to - slice_index c.args.digits.now k = omega arith in
    c.loop-j.invariant.chains k h ∙ ap (λ (n : ℕ). chain c.args.identifier.now c.args.q k (slice_index c.args.digits.now k) n (slot c.args.values.now k)) count
