use Rattle.std.proofs.Common.{◌≡◌, ℕ, ◌≤◌, List, [], ◌∷◌, length, get_or, take, drop, ◌-◌, Some, refl, sym, subst, ◌∙◌, arith}
use Rattle.std.specs.Prelude.{Result}
use Rattle.std.proofs.lemmas.List.{take_all}
use Rattle.cbor_core.specs.declared.item.Item.{Item}
use Rattle.cbor_core.specs.Views.{array_of, unsigned_of}
use Rattle.item_codec.specs.Answers.{Answers}
use Rattle.teep_messages.specs.declared.message.Message.{Message}
use Rattle.teep_messages.specs.declared.fault.MessageFault.{MessageFault}
use Rattle.teep_messages.specs.declared.fault.MessageFault.TheVariants.{NoMemory}
use Rattle.teep_messages.specs.Messages.{parts_in, message_of}
use Rattle.teep_messages.proofs.read.read_item.Goals as goal

-- the message of an array is that of its first member and the others
by_members : (x : Item) (members : List Item) (other kind : Item) (n : ℕ) (r : Result Message MessageFault) → array_of x ≡ Some members → 1 ≤ length members → kind ≡ get_or members 0 other → unsigned_of kind ≡ Some n
    → Answers NoMemory (parts_in n (take (length members - 1) (drop 1 members))) r → Answers NoMemory (message_of x) r
unfolding message_of
by_members x [] other kind n r at some first number is = absurd (omega arith)
by_members x (k ∷ parts) other kind n r at some first number is =
    let same : unsigned_of k ≡ Some n = subst (λ (y : Item). unsigned_of y ≡ Some n) first number in
    let all : take (length (k ∷ parts) - 1) parts ≡ parts = take_all (length (k ∷ parts) - 1) parts (omega arith) in
    let behind : message_of x ≡ parts_in n (take (length (k ∷ parts) - 1) parts) = rw (at, same, all) refl in
    subst (λ (view : Result Message MessageFault). Answers NoMemory view r) (sym behind) is

pub returns-in-Some : goal.returns-in-Some
returns-in-Some c =
    by_members c.args.item.now c.in-Some-len1-up.field-0.now _ c.kind-item.result c.in-Some.number c.read_parts.result (sym c.in-Some-len1-up.ensures) c.in-Some-len1-up.len_at_least c.kind-item.is (sym c.as_unsigned.ensures
    ∙ c.in-Some.is) c.read_parts.ensures
