-- Where the current component is not there.
use Rattle.std.proofs.Common.{◌≡◌, ◌≤◌, List, length, ap}
use Rattle.std.proofs.lemmas.List.{set_past}
use Rattle.suit_engine.specs.declared.state.Part.{Part}
use Rattle.suit_engine.specs.declared.state.State.{State}
use Rattle.suit_engine.specs.States.{with_current}
use Rattle.suit_engine.specs.Steps.{Went}

-- nothing is set in it
pub absent : (s : State) (part : Part) → length s.parts ≤ s.index → Went (with_current s part) ≡ Went s
absent s part past = ap (λ (l : List Part). Went (record s { parts = l })) (set_past s.parts s.index part past)
