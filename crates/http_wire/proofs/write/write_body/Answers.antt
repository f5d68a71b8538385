use Rattle.std.proofs.Common.{◌≡◌, ℕ, List, length, sym, subst, arith}
use Rattle.std.proofs.lemmas.Bool.Decides.{nat_tests}
use Rattle.std.proofs.lemmas.List.{nil_from_length}
use Rattle.outside_core.specs.Stream.{sends_on}
use Rattle.http_wire.proofs.Written.{sent_none}
use Rattle.http_wire.proofs.write.write_body.Goals as goal

pub returns-then-is_empty-clause-written : goal.returns-then-is_empty-clause-written
returns-then-is_empty-clause-written g c = λ told.
    let none : length c.args.body.now ≡ 0 = grind (arith, nat_tests) in
    let now = g.L.Source.stream c.args.link.now in
    subst (λ (l : List ℕ). now ≡ sends_on l now) (sym (nil_from_length c.args.body.now none)) (sent_none now)
