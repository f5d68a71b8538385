use Rattle.std.proofs.Common.{sym, ap, ◌∙◌, ◌++◌, List, ℕ}
use Rattle.cbor_heads.specs.declared.head.Head.{Head}
use Rattle.cbor_span.proofs.Remaining.{map_opening, map_pairs, no_map}
use Rattle.cbor_span.proofs.fields.first_map.Goals as goal

pub returns-in_default-clause-found : goal.returns-in_default-clause-found
returns-in_default-clause-found c x ps more s e = c.in_default.ensures x more s

pub returns-in-Map-clause-other : goal.returns-in-Map-clause-other
returns-in-Map-clause-other c x more s e =
    let o = c.in-Some.ensures x more s in
    absurd (no_map x c.in-Some.head o.0 e c.in-Map.is)

pub returns-in-Map-clause-found : goal.returns-in-Map-clause-found
returns-in-Map-clause-found c x ps more s e =
    let o = c.in-Some.ensures x more s in
    let parts = map_pairs x ps e s.0 in
    let m = map_opening x ps e in
    c.pairs_first.ensures ps more (parts.0, parts.1, o.1 ∙ ap (λ (z : Head × List ℕ). z.1 ++ more) m) (sym (ap (λ (z : Head × List ℕ). z.0.argument) m) ∙ sym (ap (λ (y : Head). y.argument) o.0))
