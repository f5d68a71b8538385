-- Reads, one behind the other, leave what each of them leaves.
use Rattle.std.proofs.Common.{refl, ◌∙◌, inl, inr, arith}
use Rattle.board_core.specs.Contents.{View}
use Rattle.board_core.specs.Moments.{Passes, NoMoment}
use Rattle.board_core.specs.Calls.{ReadAlone}

-- no read
pub reads_none : (told : Type 0) (board : View) → ReadAlone told board board
reads_none told board = record {
  send = refl;
  disk = refl;
  extent = refl;
  same = λ t. refl;
  moments = λ t. record { later = omega arith; nothing_else = λ t sent image le l. inl l; keeps = λ t sent image le l. l };
}

quiet_both : {old mid new : View} → Passes old mid NoMoment → Passes mid new NoMoment → Passes old new NoMoment
quiet_both first second = record {
  later = omega (arith, first.later, second.later);
  nothing_else = λ t sent image le left. elim (second.nothing_else t sent image (omega (arith, first.later, le)) left) [
    | inl was ↦ first.nothing_else t sent image le was
    | inr never ↦ absurd never
  ];
  keeps = λ t sent image le left. second.keeps t sent image (omega (arith, first.later, le)) (first.keeps t sent image le left);
}

-- a read behind another
pub reads_both : {told : Type 0} {old mid new : View} → ReadAlone told old mid → ReadAlone told mid new → ReadAlone told old new
reads_both first second = record {
  send = second.send ∙ first.send;
  disk = second.disk ∙ first.disk;
  extent = second.extent ∙ first.extent;
  same = λ t. second.same t ∙ first.same t;
  moments = λ t. quiet_both (first.moments t) (second.moments t);
}
