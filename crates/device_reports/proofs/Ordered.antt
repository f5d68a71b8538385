-- The rows of a state for which an image stands are in order. (It speaks of images and states alone, and so belongs below.)
use Rattle.std.proofs.Common.{List, [], ◌∷◌, sym, subst}
use Rattle.std.specs.List.Sorted.{IsStrictlySortedBy}
use Rattle.device_state.specs.declared.change.Change.{Change}
use Rattle.device_state.specs.State.{State, changed, folded, new_state}
use Rattle.device_state.specs.Law.{AreInOrder}
use Rattle.device_state.proofs.Orders.{changes_keep_order}
use Rattle.device_reports.specs.Law.{ListingsAscend}

-- no rows are in order
none_in_order : AreInOrder []
unfolding IsStrictlySortedBy
none_in_order = record { ascend = tt; ordered = tt }

-- changes leave rows in order
folded_in_order : (changes : List Change) (s : State) → AreInOrder s.rows → AreInOrder (folded changes s).rows
folded_in_order [] s are = are
folded_in_order (change ∷ changes) s are = folded_in_order changes (changed change s) (changes_keep_order.kept change s are)

pub listings_ascend : ListingsAscend
listings_ascend image s stands =
    subst (λ (t : State). AreInOrder t.rows) (sym stands.leads.state_is) (folded_in_order stands.leads.changes (new_state stands.config) none_in_order)
