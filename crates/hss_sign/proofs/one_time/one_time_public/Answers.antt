use Rattle.std.proofs.Common.{◌≡◌, ℕ, ◌-◌, ◌*◌, ◌%◌, ◌^◌, ap, ◌∙◌, arith}
use Rattle.lms_core.specs.OneTime.{key_hash}
use Rattle.lms_core.proofs.Public.Rows.{shifted_one, width_of_row}
use Rattle.hss_sign.specs.Trees.{end_of_chain, one_time_public}
use Rattle.hss_sign.proofs.Joined.{chain_told, written_more}
use Rattle.hss_sign.proofs.one_time.one_time_public.Goals as goal

pub loop-i-preserved : goal.loop-i-preserved
loop-i-preserved c =
    let tree = c.args.secret.now in
    let w = c.args.params.w in
    let shifted : 1 * 2 ^ w % 65536 - 1 ≡ 2 ^ w - 1 = ap (λ (n : ℕ). n - 1) (shifted_one w (width_of_row c.args.params c.requires.row)) in
    let end = chain_told tree.identifier c.args.leaf c.loop-i.i _ (2 ^ w - 1) _ _ c.chain-end.result c.chain-end.ensures (omega (arith, shifted)) c.at-start.ensures in
    record {
      size = c.put.ensures.length;
      written = written_more (end_of_chain c.args.params tree c.args.leaf) c.loop-i.ends c.put.new.ends c.chain-end.result c.loop-i.i c.loop-i.invariant.written c.put.ensures.front end;
    }

pub returns : goal.returns
unfolding one_time_public
returns c =
    let count : c.loop-i.i ≡ c.args.params.p = omega arith in
    c.key_hash.ensures.value ∙ ap (key_hash c.args.secret.now.identifier c.args.leaf) (rw count at c.loop-i.invariant.written)
