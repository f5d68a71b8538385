-- How a `Boxed` holds its value, so that a type may hold itself through one.
use mathlib.Core.Path.{refl}
use mathlib.Core.Former.{Former, this, const, pair, via}
use base.Stored.{gnil}
use base.Fml.{ftrue}
use denote.RattleType.{RattleType}
use denote.Memory.{part_of}
use denote.RawPtr.{Ptr}
use denote.Sharing.{nothing}
use denote.HoleLaws.{Alike}
use denote.HolePlaces.{Recodes, struct_places, laid, one_value}
use denote.Hole.Fix.{over}
use denote.Param.Weighed.{Weighed}
use denote.Model.Placed.{view_places}
use Rattle.std.specs.declared.boxed.Box.{Box}
use Rattle.std.specs.contracts.boxed.Box as pointed
use Rattle.std.specs.declared.alloc.Global.{Global}
use Rattle.std.specs.contracts.alloc.Global as heap
use Rattle.std.specs.contracts.impls.GlobalAllocator.TheImpl.{ghosts}
use Rattle.base_types.specs.declared.boxed.Boxed.TheInside.{Inside}
use Rattle.base_types.specs.declared.boxed.Boxed.TheView.{view, invariant}
use Rattle.base_types.specs.contracts.boxed.Boxed as outside
use Rattle.base_types.specs.contracts.boxed.Boxed.TheInside as inside

-- it is what it holds
abbrev pub the_former : Former {0} → Former {0}
the_former g = g

-- a box weighs what its value weighs
abbrev pub the_weighed : {g : Former {0}} → Weighed g → Weighed (the_former g)
the_weighed weight = weight

-- the one field is a pointer with its allocator, and the value behind it
abbrev stored : Former {0}
stored = via (pair (const (Ptr × Global)) this) Inside (λ X it. ((it.inner.ptr, it.inner.alloc), it.inner.value))
    (λ X parts. record { inner = record { ptr = parts.0.0; alloc = parts.0.1; value = parts.1 } }) (λ X it. refl) (λ X parts. refl)

abbrev holding : {X Y : Type 0} → Box X Global → Y → Box Y Global
holding it value = record { ptr = it.ptr; alloc = it.alloc; value = value }

abbrev box_row : RattleType → RattleType
box_row R = pointed.the_row R heap.the_row ghosts

module _ (R S : RattleType) (h : R.Denot → S.Denot) where
  boxes_alike : Alike R S h → Alike (box_row R) (box_row S) (λ it. holding it (h it.value))
  unfolding part_of
  boxes_alike alike = record {
    mir_same = λ n. (box_row (one_value R (alike.mir_same n) (λ _. ftrue) (λ _ _. nothing) gnil)).mir;
    own_same = λ it n. (box_row (one_value R (alike.mir_same n) (alike.own_same it.value n) (alike.shr_same it.value n) gnil)).own_val (holding it tt);
    shr_same = λ it n. (box_row (one_value R (alike.mir_same n) (alike.own_same it.value n) (alike.shr_same it.value n) gnil)).shr_at (holding it tt);
  }

  pub the_places : Alike R S h → Alike (outside.the_row R) (outside.the_row S) ((the_former this).map R.Denot S.Denot h)
  the_places alike = view_places stored this view (λ X Y k it. refl) (λ X it. refl)
      R.Denot S.Denot h (outside.the_row R).coded (outside.the_row S).coded
      (invariant R.Denot) (invariant S.Denot) (λ it p q. refl) (λ it p q. refl) (λ it holds. tt) (λ it holds. tt)
      (over (inside.the_row R)) (over (inside.the_row S))
      (struct_places (inside.the_type R) (inside.the_type S) ((λ it. holding it (h it.value)), tt) _ (λ it. refl) refl
      (laid _ _ _ (boxes_alike alike), tt))

  pub the_codes_placed : Recodes R S h → Recodes (outside.the_row R) (outside.the_row S) ((the_former this).map R.Denot S.Denot h)
  the_codes_placed same value = same value
