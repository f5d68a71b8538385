use Rattle.std.proofs.Common.{[], append_assoc}
use Rattle.std.proofs.lemmas.List.{take_more, take_all, map-append, append-nil}
use Rattle.std.proofs.lemmas.List.Folds.{concat-append}
use Rattle.lms_core.proofs.message.Message.add_to.Goals as goal

pub loop-part-init : goal.loop-part-init
loop-part-init c = λ front holds. rw (append-nil front) holds

pub loop-part-preserved : goal.loop-part-preserved
loop-part-preserved c = λ front holds.
    rw (take_more c.parts-part-items.result.now c.loop-part.part-index (record { ref_ptr = (0, 0); now = [] }) c.loop-part-test.true, map-append, concat-append, append-nil, ← append_assoc)
    (c.update.ensures _ (c.loop-part.invariant front holds))

pub returns : goal.returns
returns c = λ front holds.
    rw (← c.parts-part-items.ensures, ← take_all c.loop-part.part-index c.parts-part-items.result.now c.loop-part-test.false) (c.loop-part.invariant front holds)
