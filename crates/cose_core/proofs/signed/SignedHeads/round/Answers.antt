use Rattle.std.proofs.Common.{◌∙◌}
use Rattle.cose_core.proofs.Written.{in_pieces}
use Rattle.cose_core.proofs.signed.SignedHeads.round.Goals as goal

pub returns : goal.returns
returns c =
    rw (← c.as_slice.ensures, ← c.as_slice-2.ensures)
    (c.into_octets.ensures ∙ in_pieces _ _ _ _ _ _ _ _ _ c.new-out.ensures c.in_ok-piece.ensures.written c.in_ok-piece-2.ensures.written c.in_ok-piece-3.ensures.written c.in_ok-piece-4.ensures.written)
