use Rattle.std.proofs.Common.{rules}
use Rattle.std.proofs.lemmas.Fn.{always_returns_same}
use Rattle.std.specs.Ordering.{nat_cmp}
use Rattle.std.specs.Cmp.Lexicographic.{slice_cmp}
use Rattle.device_state.proofs.Putting.{place_is}
use Rattle.device_state.proofs.placing.place_of.Goals as goal

pub returns-clause-place : goal.returns-clause-place
returns-clause-place g c = place_is g.R.HasId.id_of c.args.rows.now c.args.id.now c.binary_search_by.result c.binary_search_by.ensures.bound
    (c.binary_search_by.ensures.position (λ y. slice_cmp nat_cmp (g.R.HasId.id_of y) c.args.id.now) (always_returns_same _ _ _ (λ a r f' called. (search rules, search rules))))
