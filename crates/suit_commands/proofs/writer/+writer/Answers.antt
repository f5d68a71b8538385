use Rattle.std.proofs.Common.{◌-◌, List, sym, subst, ap, ◌∙◌, arith}
use Rattle.cbor_core.specs.declared.item.Item.{Item}
use Rattle.cbor_core.specs.declared.item.Item.TheVariants as i
use Rattle.cbor_core.specs.Spelling.{IsProper}
use Rattle.item_codec.specs.Wrapped.{wrap}
use Rattle.suit_commands.specs.Sequences.{Sequence}
use Rattle.suit_commands.specs.Written.{members, written_in}
use Rattle.suit_commands.specs.Proper.{AreProperCommands, IsProperIn}
use Rattle.suit_commands.proofs.Steps.{some_level, commands_proper, written_is, item_proper}
use Rattle.suit_commands.proofs.writer.+writer.Goals as goal

pub write_bytes-encode-requires : goal.write_bytes-encode-requires
write_bytes-encode-requires t c = subst (λ (x : Item). IsProper x) (sym c.in_ok-item.ensures) (item_proper c.args.levels c.args.sequence.now c.requires)

pub write_sequence-overflow_sub-levels : goal.write_sequence-overflow_sub-levels
write_sequence-overflow_sub-levels t c = some_level c.args.levels c.args.sequence.now c.requires

pub write_sequence-write_members-requires : goal.write_sequence-write_members-requires
write_sequence-write_members-requires t c =
    let low = some_level c.args.levels c.args.sequence.now c.requires in
    (omega (arith, low), subst (λ (s : Sequence). AreProperCommands (IsProperIn (c.args.levels - 1)) s) (sym c.as_slice.ensures) (commands_proper c.args.levels c.args.sequence.now c.requires))

pub write_sequence-returns : goal.write_sequence-returns
write_sequence-returns t c =
    ap (λ (xs : List Item). i.Array xs) c.in_ok-write_members.ensures
    ∙ ap (λ (s : Sequence). i.Array (members (wrap (written_in (c.args.levels - 1))) s)) c.as_slice.ensures ∙ written_is c.args.levels c.args.sequence.now c.requires
