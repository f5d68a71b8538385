use Rattle.std.proofs.Common.{ℕ, List, length, ◌++◌, sym, ap, ◌∙◌}
use Rattle.cbor_heads.specs.Head.{head}
use Rattle.cbor_core.proofs.Public.Spell.{spelling_Text}
use Rattle.suit_envelope.proofs.write.encoded_name.Goals as goal

pub returns : goal.returns
returns c = c.into_octets.ensures ∙ c.in_ok-text.ensures.written ∙ ap (λ (front : List ℕ). front ++ (head 3 (length c.args.name.now) ++ c.args.name.now)) c.new-out.ensures ∙ sym (spelling_Text c.args.name.now)
