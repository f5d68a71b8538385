use Rattle.std.proofs.Common.{◌≡◌, List, [], ◌∷◌, ◌++◌, refl, sym, ap, subst, ◌∙◌, lit<, arith}
use Rattle.cbor_core.specs.declared.item.Item.{Item}
use Rattle.cbor_core.specs.declared.item.Item.TheVariants as i
use Rattle.cbor_core.specs.Spelling.{IsProper, HasRanges}
use Rattle.cbor_core.proofs.Public.KeyOrder.{layers}
use Rattle.cbor_fields.specs.Written.{IsSpelled}
use Rattle.suit_commands.specs.declared.command.Command.TheVariants as commands
use Rattle.suit_commands.specs.Sequences.{Sequence}
use Rattle.suit_commands.specs.Written.{members, written_in}
use Rattle.suit_commands.specs.Proper.{IsProperIn, IsProperSequence}
use Rattle.suit_commands.proofs.tests.made.Goals as goal

abbrev two : Sequence
two = commands.SetIndex 1 ∷ commands.Fetch 15 ∷ []

abbrev items : List Item
items = i.Unsigned 12 ∷ i.Unsigned 1 ∷ i.Unsigned 21 ∷ i.Unsigned 15 ∷ []

items_proper : IsProper (i.Array items)
items_proper = grind (arith, layers)

items_in_range : HasRanges (i.Array items)
items_in_range = rw i.outs-Array ((rw i.outs-Unsigned (lit< tt), (rw i.outs-Unsigned (lit< tt), (rw i.outs-Unsigned (lit< tt), (rw i.outs-Unsigned (lit< tt), tt)))), lit< tt)

items_are : (w : Sequence → Item) → members w two ≡ items
items_are w = rw (commands.outs-SetIndex, commands.outs-Fetch) refl

two_proper : IsProperSequence two
unfolding IsProperIn written_in
two_proper =
    let spelled : IsSpelled (i.Array items) = record { proper = items_proper; ranges = items_in_range; spelled = refl } in
    ((rw commands.outs-SetIndex tt, (rw commands.outs-Fetch tt, tt)), subst (λ (xs : List Item). IsSpelled (i.Array xs)) (sym (items_are _)) spelled)

pub returns : goal.returns
returns c =
    let first : c.push.new.self ≡ commands.SetIndex 1 ∷ [] = c.in_ok-push.ensures.ok ∙ ap (λ (s : Sequence). s ++ commands.SetIndex 1 ∷ []) c.new-sequence.ensures in
    let both : c.push-2.new.self ≡ two = c.in_ok-push-2.ensures.ok ∙ ap (λ (s : Sequence). s ++ commands.Fetch 15 ∷ []) first in
    subst IsProperSequence (sym both) two_proper
