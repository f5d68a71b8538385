use Rattle.std.proofs.Common.{◌≡◌, ◌≤◌, ◌-◌, List, [], ◌∷◌, length, get_or, take, drop, subst, arith}
use Rattle.std.specs.Prelude.{Result}
use Rattle.std.proofs.lemmas.List.{take_all}
use Rattle.cbor_core.specs.declared.item.Item.{Item}
use Rattle.item_codec.specs.Answers.{Answers}
use Rattle.suit_envelope.specs.declared.envelope.Wrapper.{Wrapper}
use Rattle.suit_envelope.specs.declared.fault.EnvelopeFault.{EnvelopeFault}
use Rattle.suit_envelope.specs.declared.fault.EnvelopeFault.TheVariants.{NoMemory}
use Rattle.suit_envelope.specs.Wrapper.{wrapper_by, wrapper_in}
use Rattle.suit_envelope.proofs.wrapper.read_members.Goals as goal

-- the first member, and those behind it
by_members : (members : List Item) (first other : Item) (r : Result Wrapper EnvelopeFault) → 1 ≤ length members → first ≡ get_or members 0 other
    → Answers NoMemory (wrapper_by first (take (length members - 1) (drop 1 members))) r → Answers NoMemory (wrapper_in members) r
by_members [] first other r some is answers = absurd (omega arith)
by_members (d ∷ blocks) first other r some is answers =
    let all : take (length (d ∷ blocks) - 1) blocks ≡ blocks = take_all (length (d ∷ blocks) - 1) blocks (omega arith) in
    let with_all : Answers NoMemory (wrapper_by first blocks) r = rw all at answers in
    subst (λ (x : Item). Answers NoMemory (wrapper_by x blocks) r) is with_all

pub returns-in-len1-up : goal.returns-in-len1-up
returns-in-len1-up c = by_members c.args.members.now c.digest-item.result _ c.read_parts.result c.in-len1-up.len_at_least c.digest-item.is c.read_parts.ensures
