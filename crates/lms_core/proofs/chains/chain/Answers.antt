use Rattle.std.proofs.Common.{◌≡◌, ◌-◌, ◌++◌, ℕ, length, drop, sym, ◌∙◌, ap, arith}
use Rattle.std.proofs.lemmas.List.{length-drop, take_all}
use Rattle.lms_core.specs.Bytes.{u16_bytes, u32_bytes}
use Rattle.lms_core.specs.Chains.{chain, chain_step}
use Rattle.sha2.specs.Sha256.{sha256}
use Rattle.lms_core.proofs.Inputs.{input_length, next_digit, prefix_length, same_front, stepped, value_behind}
use Rattle.lms_core.proofs.Steps.{chain_more, chain_none}
use Rattle.lms_core.proofs.chains.chain.Goals as goal

pub loop-j-init : goal.loop-j-init
loop-j-init c =
    let size : length c.args.identifier.now ≡ 16 = omega arith in
    let value_size : length c.args.start.now ≡ 32 = omega arith in
    let front_size = prefix_length c.args.identifier.now c.args.q c.args.i size in
    let input = c.step_input-input.result in
    let none = chain_none c.args.identifier.now c.args.q c.args.i c.args.from (c.args.from - c.args.from) c.args.start.now (omega arith) in
    record {
      size = input_length input _ c.args.start.now c.args.from front_size value_size c.step_input-input.ensures;
      front = same_front input _ c.args.start.now c.args.from front_size c.step_input-input.ensures;
      steps = value_behind input _ c.args.start.now c.args.from front_size c.step_input-input.ensures ∙ sym none;
    }

pub loop-j-preserved : goal.loop-j-preserved
loop-j-preserved c =
    let size : length c.args.identifier.now ≡ 16 = omega arith in
    let front_size = prefix_length c.args.identifier.now c.args.q c.args.i size in
    let front = c.args.identifier.now ++ u32_bytes c.args.q ++ u16_bytes c.args.i in
    let old = c.loop-j.input in
    let new = c.place.new.input in
    let value = c.digest-value.result in
    let step = chain_step c.args.identifier.now c.args.q c.args.i c.loop-j.j in
    let read = next_digit old front c.loop-j.j c.loop-j.invariant.size c.loop-j.invariant.front in
    let hashed : value ≡ step (drop 23 old) = c.digest-value.ensures ∙ ap sha256 (c.as_slice.ensures ∙ read) in
    let written = stepped old new front value c.loop-j.j c.loop-j.invariant.size c.place.ensures.length front_size c.loop-j.invariant.front c.place.ensures.front in
    let more = chain_more c.args.identifier.now c.args.q c.args.i c.args.from c.loop-j.j c.args.start.now (omega arith) in
    record {
      size = c.place.ensures.length;
      front = same_front new front value c.loop-j.j front_size written;
      steps = value_behind new front value c.loop-j.j front_size written ∙ hashed ∙ ap step c.loop-j.invariant.steps ∙ sym more;
    }

pub returns : goal.returns
returns c =
    let last = length-drop 23 c.loop-j.input in
    let size = c.loop-j.invariant.size in
    let steps : c.loop-j.j - c.args.from ≡ c.args.to - c.args.from = omega arith in
    c.array_at.ensures ∙ take_all 32 (drop 23 c.loop-j.input) (omega arith) ∙ c.loop-j.invariant.steps
    ∙ ap (λ (n : ℕ). chain c.args.identifier.now c.args.q c.args.i c.args.from n c.args.start.now) steps
