-- The number by which a refusal is told.
use Rattle.std.specs.Prelude.{ℕ}
use Rattle.agent_core.specs.declared.refusal.Refusal.{Refusal}
use Rattle.agent_core.specs.declared.refusal.Refusal.TheVariants.{Kind, NotCose, NotSigned, NotMessage, NotForAgent, KeySpent}

-- the number by which a refusal is told
abbrev pub number_of : Refusal → ℕ
number_of Kind = 1
number_of NotCose = 2
number_of NotSigned = 3
number_of NotMessage = 4
number_of NotForAgent = 5
number_of KeySpent = 6
