use Rattle.std.proofs.Common.{◌≡◌, ℕ, List, ◌*◌, ◌+◌, ◌++◌, ◌≤◌, length, subst, sym, refl, ◌∙◌, ap, arith}
use Rattle.sha2.specs.Sha256.{sha256}
use Rattle.lms_core.specs.Bytes.{u16_bytes, u32_bytes}
use Rattle.lms_core.specs.Chains.{chain_step}
use Rattle.lms_core.proofs.Slots.{Advanced, advanced_step, advanced_wait, slot}
use Rattle.lms_core.proofs.Turned.{digit_stays, front_length, front_stays, turned_is}
use Rattle.lms_core.proofs.chains.step_all.Goals as goal
use Rattle.lms_core.proofs.chains.step_all.Goals.{then-digits-i, else-digits-i}

pub loop-i-init : goal.loop-i-init
loop-i-init c =
    let size : length c.args.identifier.now ≡ 16 = omega arith in
    let front = c.args.identifier.now ++ u32_bytes c.args.q in
    let front_size = front_length c.args.identifier.now c.args.q size in
    record {
      size = refl;
      front = front_stays c.step_input-input.result front (u16_bytes 0) c.blank.result c.args.j front_size c.step_input-input.ensures;
      digit = digit_stays c.step_input-input.result front (u16_bytes 0) c.blank.result c.args.j front_size refl c.step_input-input.ensures;
      advanced = record {
        stepped = λ k h. absurd (omega arith);
        waiting = λ k h. absurd (omega arith);
        left = λ k h. refl;
      };
    }

pub loop-i-preserved : goal.loop-i-preserved
loop-i-preserved c = elim c.if-digits-i.branch [
  | then-digits-i w ↦
      let size : length c.args.identifier.now ≡ 16 = omega arith in
      let front = c.args.identifier.now ++ u32_bytes c.args.q in
      let front_size = front_length c.args.identifier.now c.args.q size in
      let i = c.loop-i.i in
      let old = c.loop-i.values in
      let room : 32 * i + 32 ≤ length old = omega arith in
      let value = w.copy_from_slice.new.self in
      let value_size : length value ≡ 32 = omega arith in
      let turned = turned_is c.loop-i.input w.turn_to.new.input front (u16_bytes i) w.array_at.result (slot old i) c.args.j w.turn_to.ensures c.loop-i.invariant.front c.loop-i.invariant.digit w.array_at.ensures in
      let input = w.input-is ∙ turned in
      let hashed : value ≡ chain_step c.args.identifier.now c.args.q i c.args.j (slot old i) = w.copy_from_slice.ensures.after ∙ w.digest-value.ensures ∙ ap sha256 (w.as_slice.ensures ∙ turned) in
      let P = λ (x : List ℕ). Advanced c.args.identifier.now c.args.q c.args.j c.args.digits.now c.args.values.now x (i + 1) in
      record {
        size = omega arith;
        front = front_stays c.if-digits-i.input front (u16_bytes i) (slot old i) c.args.j front_size input;
        digit = digit_stays c.if-digits-i.input front (u16_bytes i) (slot old i) c.args.j front_size refl input;
        advanced = subst P (sym w.values-is) (advanced_step c.args.identifier.now c.args.q c.args.j c.args.digits.now c.args.values.now old value i room value_size w.if-digits-i.true hashed c.loop-i.invariant.advanced);
      }
  | else-digits-i w ↦
      let P = λ (x : List ℕ). Advanced c.args.identifier.now c.args.q c.args.j c.args.digits.now c.args.values.now x (c.loop-i.i + 1) in
      record {
        size = omega arith;
        front = rw w.input-is c.loop-i.invariant.front;
        digit = rw w.input-is c.loop-i.invariant.digit;
        advanced = subst P (sym w.values-is) (advanced_wait c.args.identifier.now c.args.q c.args.j c.args.digits.now c.args.values.now c.loop-i.values c.loop-i.i w.if-digits-i.false c.loop-i.invariant.advanced);
      }
]

pub returns-clause-stepped : goal.returns-clause-stepped
returns-clause-stepped c = λ k h. c.loop-i.invariant.advanced.stepped k (omega arith)

pub returns-clause-waiting : goal.returns-clause-waiting
returns-clause-waiting c = λ k h. c.loop-i.invariant.advanced.waiting k (omega arith)
