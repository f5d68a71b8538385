use Rattle.hss_sign.proofs.Valid.{valid}
use Rattle.hss_sign.proofs.law.signatures_verify.Goals as goal

pub returns : goal.returns
returns c = record { valid = valid c.args.params c.args.seed.now c.args.leaf c.args.message.now c.requires.proper c.requires.inside }
