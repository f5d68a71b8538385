use Rattle.std.proofs.Common.{◌≡◌, ℕ, ◌*◌, ◌-◌, ◌%◌, ◌^◌, ◌<◌, List, length, take, slice_index, ◌∙◌, ap, arith}
use Rattle.std.proofs.lemmas.List.{get_or-take, length-take-le}
use Rattle.lms_core.specs.Digits.{coef, signed_string}
use Rattle.lms_core.specs.OneTime.{chain_end, key_candidate, key_hash}
use Rattle.lms_core.proofs.Ends.{end_is, ends_joined}
use Rattle.lms_core.proofs.Public.Rows.{shifted_one, width_of_row}
use Rattle.lms_core.proofs.Slots.{slot}
use Rattle.lms_core.proofs.one_time.key_candidate.Goals as goal

pub returns : goal.returns
unfolding key_candidate
returns c =
    let identifier = c.args.identifier.now in
    let w = c.args.params.w in
    let p = c.args.params.p in
    let ys = c.args.ys.now in
    let string = signed_string c.args.digest.now w c.args.params.ls in
    let digits = c.all_digits-digits.result in
    let values = c.finish_all.new.values in
    let size : length values ≡ 32 * p = c.finish_all.ensures.length ∙ ap length c.copy_from_slice.ensures.after ∙ c.requires.whole in
    let count : length (take p digits) ≡ p = length-take-le p digits (grind arith) in
    let largest : 1 * 2 ^ w % 65536 - 1 ≡ 2 ^ w - 1 = ap (λ (n : ℕ). n - 1) (shifted_one w (width_of_row c.args.params c.requires.row)) in
    let digit : (i : ℕ) → i < p → slice_index (take p digits) i ≡ coef string i w = λ i h. get_or-take p digits i 0 h ∙ c.all_digits-digits.ensures i h ∙ ap (λ (x : List ℕ). coef x i w) c.signed_string.ensures in
    let start : (i : ℕ) → slot c.copy_from_slice.new.self i ≡ slot ys i = λ i. ap (λ (x : List ℕ). slot x i) c.copy_from_slice.ensures.after in
    let ends : (i : ℕ) → i < p → slot values i ≡ chain_end identifier c.args.q w string i (slot ys i) = λ i h.
    end_is identifier c.args.q w string i _ _ _ (slot ys i) (slot values i) (c.finish_all.ensures.ends i (rw count h)) largest (digit i h) (start i) in
    c.key_hash.ensures.value
    ∙ ap (key_hash identifier c.args.q) (ends_joined identifier c.args.q w string ys values p size ends)
