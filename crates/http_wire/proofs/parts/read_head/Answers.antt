use Rattle.std.proofs.Common.{rules, ◌≡◌, ◌∷◌, [], ◌++◌, List, ℕ, arith, subst, sym, ◌∙◌, length, ap}
use Rattle.std.proofs.lemmas.List.{length_push}
use Rattle.std.proofs.lemmas.Bool.{false≢true}
use Rattle.outside_core.specs.Stream.{Took}
use Rattle.frames.proofs.Public.Pieces.{took_both}
use Rattle.http_wire.proofs.Heads.{grown_ends, grown_open}
use Rattle.http_wire.proofs.parts.read_head.Goals as goal

pub returns-then-ends_in_empty_line-clause-head : goal.returns-then-ends_in_empty_line-clause-head
returns-then-ends_in_empty_line-clause-head g c = λ told.
    let inv = c.loop-link.invariant in
    let grown : c.push.new.self ≡ c.loop-link.head ++ c.in-Ok-Some.byte ∷ [] = search rules in (
      record {
        ends = grown_ends _ _ _ _ inv.endless grown c.as_slice.ensures (c.ends_in_empty_line.ensures.0 c.if-ends_in_empty_line.true);
        within = omega (arith, ap length grown, length_push c.loop-link.head c.in-Ok-Some.byte);
      },
      subst (λ (l : List ℕ). Took l (g.L.Source.stream c.args.link.now) (g.L.Source.stream c.read_byte.new.link)) (sym grown)
          (took_both (inv.took told) (rw c.in-Ok-Some.field-0-is at (c.in-Ok-Some.ensures.read told))),
    )

pub loop-link-preserved : goal.loop-link-preserved
loop-link-preserved g c =
    let inv = c.loop-link.invariant in
    let grown : c.push.new.self ≡ c.loop-link.head ++ c.in-Ok-Some.byte ∷ [] = search rules in
    record {
      within = omega (arith, ap length grown, length_push c.loop-link.head c.in-Ok-Some.byte);
      endless = grown_open _ _ _ _ inv.endless grown c.as_slice.ensures (λ e. false≢true (sym c.if-ends_in_empty_line.false ∙ c.ends_in_empty_line.ensures.1 e));
      took = λ told. subst (λ (l : List ℕ). Took l (g.L.Source.stream c.args.link.now) (g.L.Source.stream c.read_byte.new.link)) (sym grown)
          (took_both (inv.took told) (rw c.in-Ok-Some.field-0-is at (c.in-Ok-Some.ensures.read told)));
      faults = c.in-Ok-Some.ensures.cause.steady ∙ inv.faults;
      keeps = g.met.L.Source.keeps_on _ _ _ inv.keeps c.read_byte.ensures.keeps;
    }
