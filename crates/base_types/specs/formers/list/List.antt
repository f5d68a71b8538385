-- How a `List` holds its elements, so that a type may hold itself through one.
use mathlib.Core.Path.{◌≡◌, refl, sym}
use mathlib.Core.List.{List, []}
use mathlib.Core.Former.{Former, this, list, via, children}
use base.Stored.{code_map}
use denote.RattleType.{RattleType}
use denote.HoleLaws.{Alike}
use denote.HolePlaces.{Recodes, struct_places, laid}
use denote.Hole.Carrier.{listed, list-listed}
use denote.Hole.Fix.{over}
use denote.Param.Weighed.{Weighed, w_list}
use denote.Model.Placed.{view_places}
use Rattle.std.specs.formers.vec.Vec as vec
use Rattle.std.specs.declared.alloc.Global.{Global}
use Rattle.std.specs.contracts.alloc.Global as heap
use Rattle.std.specs.contracts.impls.GlobalAllocator.TheImpl.{ghosts}
use Rattle.base_types.specs.declared.list.List.TheInside.{Inside}
use Rattle.base_types.specs.declared.list.List.TheView.{view, invariant}
use Rattle.base_types.specs.contracts.list.List as outside
use Rattle.base_types.specs.contracts.list.List.TheInside as inside

-- it is a list of what it holds
abbrev pub the_former : Former {0} → Former {0}
the_former g = list g

-- a list weighs more than each of its elements
abbrev pub the_weighed : {g : Former {0}} → Weighed g → Weighed (the_former g)
the_weighed weight = w_list weight

-- a list may hold nothing
pub the_empty : List ⊥
the_empty = []

-- the elements of a list
abbrev pub the_items : (X : Type 0) → List X → List X
the_items X xs = xs

-- they are listed as they are
pub the_items_listed : (X : Type 0) (xs : List X) → listed _ (children (the_former this) X xs) ≡ the_items X xs
the_items_listed X xs = list-listed X xs

-- the one field is a `Vec`
abbrev stored : Former {0}
stored = via (vec.the_former this Global) Inside (λ X it. it.items) (λ X items. record { items = items }) (λ X it. refl) (λ X items. refl)

module _ (R S : RattleType) (h : R.Denot → S.Denot) where
  pub the_places : Alike R S h → Alike (outside.the_row R) (outside.the_row S) ((the_former this).map R.Denot S.Denot h)
  the_places alike = view_places stored (list this) view (λ X Y k it. refl) (λ X it. refl)
      R.Denot S.Denot h (outside.the_row R).coded (outside.the_row S).coded
      (invariant R.Denot) (invariant S.Denot) (λ it p q. refl) (λ it p q. refl) (λ it holds. tt) (λ it holds. tt)
      (over (inside.the_row R)) (over (inside.the_row S))
      (struct_places (inside.the_type R) (inside.the_type S) (vec.mapped h, tt) _ (λ it. refl) refl
      (laid _ _ _ (vec.the_places heap.the_row ghosts R S h alike), tt))

  pub the_codes_placed : Recodes R S h → Recodes (outside.the_row R) (outside.the_row S) ((the_former this).map R.Denot S.Denot h)
  the_codes_placed same xs = sym (code_map R.coded.code S.coded.code h (λ x. sym (same x)) xs)
