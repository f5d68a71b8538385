use Rattle.hss_verify.proofs.Links.{chain_is_formed}
use Rattle.hss_verify.proofs.verify.is_signed.Goals as goal

pub returns-else-has_forms : goal.returns-else-has_forms
returns-else-has_forms c = (
  λ yes. absurd (cc),
  λ chain. c.has_forms.ensures.1 (chain_is_formed c.args.key.now c.args.links c.args.bytes.now c.args.message.now chain),
)
