use Rattle.std.proofs.Common.{◌∙◌, List, ℕ, ap, sym, length, map}
use Rattle.journal_core.proofs.Unframing.{are_bodies}
use Rattle.journal_core.proofs.framed.Framed.bytes.Goals as goal

pub returns-clause-bodies : goal.returns-clause-bodies
returns-clause-bodies c = are_bodies c.args.self.now c.as_slice.result.now
    (ap (λ (bs : List (List ℕ)). map length bs) (sym c.self.view_is) ∙ c.self.invariant.lengths_are ∙ sym c.as_slice.ensures.value) c.know_lengths.ensures
