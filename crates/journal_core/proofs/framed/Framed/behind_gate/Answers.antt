use Rattle.std.proofs.Common.{◌≡◌, ◌∙◌, ◌++◌, ◌∷◌, [], ◌-◌, List, ℕ, ap, arith, length, drop}
use Rattle.std.proofs.lemmas.List.{take_all, length-drop}
use Rattle.journal_core.specs.Frames.{frames}
use Rattle.journal_core.proofs.Unframing.{first_gate}
use Rattle.journal_core.proofs.framed.Framed.behind_gate.Goals as goal

pub returns : goal.returns
returns c =
    let bytes : List ℕ = c.deref.result.now in
    let whole : bytes ≡ frames c.args.self.now ++ 0 ∷ [] = c.deref.ensures.value ∙ c.self.invariant.bytes_are ∙ ap (λ (bs : List (List ℕ)). frames bs ++ 0 ∷ []) c.self.view_is in
    ap (λ (l : List ℕ). 0xa5 ∷ l) (take_all (length bytes - 1) (drop 1 bytes) (omega (arith, length-drop 1 bytes)) ∙ ap (λ (l : List ℕ). drop 1 l) whole) ∙ first_gate c.args.self.now c.requires
