use Rattle.std.proofs.Common.{rules}
use Rattle.suit_envelope.proofs.Merging.{not_writable}
use Rattle.suit_envelope.proofs.envelope.Envelope.is_writable.Goals as goal

pub returns-then-not-branch : goal.returns-then-not-branch
returns-then-not-branch c = not_writable c.args.self.now c.in_ok-has_proper_keys.field-0 c.as_slice.result.now c.in_ok-has_proper_keys.ensures c.as_slice.ensures (search rules)
