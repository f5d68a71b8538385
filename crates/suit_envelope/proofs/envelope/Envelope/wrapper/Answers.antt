use Rattle.suit_envelope.proofs.Merging.{array_proper}
use Rattle.suit_envelope.proofs.envelope.Envelope.wrapper.Goals as goal

pub encode-requires : goal.encode-requires
encode-requires c = array_proper c.in_ok-members.members c.args.self.now.digest_bytes c.args.self.now.blocks c.in_ok-members.ensures
