use Rattle.std.proofs.Common.{rules, ◌∙◌, ◌++◌, List, ℕ, ap, arith, take, drop, length, sym, subst, ◌≡◌}
use Rattle.std.proofs.Math.Seq.{take-add}
use Rattle.outside_core.specs.Stream.{Took}
use Rattle.frames.proofs.Public.Pieces.{took_none, took_both}
use Rattle.frames.proofs.fill.fill_from.Goals as goal

pub loop-n-init : goal.loop-n-init
loop-n-init g c = record {
  within = omega arith;
  counted = omega arith;
  most = search rules;
  took = λ told. took_none _;
  faults = search rules;
  keeps = g.met.S.Source.keeps_itself _;
}

pub loop-n-preserved : goal.loop-n-preserved
loop-n-preserved g c =
    let inv = c.loop-n.invariant in
    let n = c.loop-n.n in
    let came = c.in-Ok.count in
    let buf = c.read_at.new.buf in
    let same : length buf ≡ length c.loop-n.buf = omega arith in
    record {
      within = omega (arith, c.in-Ok.ensures.within, c.min-most.ensures, same);
      counted = omega (arith, inv.counted);
      most = inv.most;
      took = λ told. subst (λ (l : List ℕ). Took l (g.S.Source.stream c.args.source.now) (g.S.Source.stream c.read_at.new.source))
          (ap (λ (l : List ℕ). l ++ take came (drop n buf)) (sym c.in-Ok.ensures.front) ∙ sym (take-add n came buf))
          (took_both (inv.took told) (c.in-Ok.ensures.reads told).ok.took);
      faults = c.in-Ok.ensures.cause.steady ∙ inv.faults;
      keeps = g.met.S.Source.keeps_on _ _ _ inv.keeps c.read_at.ensures.keeps;
    }
