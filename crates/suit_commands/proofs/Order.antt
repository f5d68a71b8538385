-- Parameters are refused in the order of the pairs.
use Rattle.std.proofs.Common.{[], refl, lit<}
use Rattle.cbor_core.specs.Views.{unsigned_of, bytes_of, text_of}
use Rattle.item_codec.specs.Fields.{shaped}
use Rattle.item_codec.proofs.Public.InOrder.{InOrder, field_in_order, none_in_order, in_order}
use Rattle.suit_commands.specs.declared.fault.SequenceFault.TheVariants.{Shape}
use Rattle.suit_commands.specs.Digests.{wrapped_digest_of}
use Rattle.suit_commands.specs.Parameters.{unknown, parameters_in, table}
use Rattle.suit_commands.specs.Law.{RefusedInOrder}

fields : InOrder table unknown [] parameters_in
fields =
    field_in_order table unknown (shaped Shape bytes_of) 1 _ (lit< tt) refl (λ _ _. refl) _ (λ _.
    field_in_order table unknown (shaped Shape bytes_of) 2 _ (lit< tt) refl (λ _ _. refl) _ (λ _.
    field_in_order table unknown (shaped Shape wrapped_digest_of) 3 _ (lit< tt) refl (λ _ _. refl) _ (λ _.
    field_in_order table unknown (shaped Shape unsigned_of) 14 _ (lit< tt) refl (λ _ _. refl) _ (λ _.
    field_in_order table unknown (shaped Shape bytes_of) 18 _ (lit< tt) refl (λ _ _. refl) _ (λ _.
    field_in_order table unknown (shaped Shape text_of) 21 _ (lit< tt) refl (λ _ _. refl) _ (λ _.
    field_in_order table unknown (shaped Shape unsigned_of) 22 _ (lit< tt) refl (λ _ _. refl) _ (λ _.
    field_in_order table unknown (shaped Shape bytes_of) 24 _ (lit< tt) refl (λ _ _. refl) _ (λ _.
    none_in_order table unknown _ refl _))))))))

pub refused_in_order : RefusedInOrder
refused_in_order = in_order table unknown parameters_in fields
