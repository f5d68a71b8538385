use Rattle.suit_envelope.proofs.Merging.{keys_proper}
use Rattle.suit_envelope.proofs.Back.{writes_again, writes_form}
use Rattle.suit_envelope.proofs.envelope.Envelope.write.Goals as goal

pub to_item-requires : goal.to_item-requires
to_item-requires c = keys_proper c.args.self.now c.requires

pub returns-clause-again : goal.returns-clause-again
returns-clause-again c = writes_again c.args.self.now c.in_ok-item.item c.encode.result c.in_ok-item.ensures.is c.in_ok-item.ensures.wrapper c.encode.ensures

pub returns-clause-form : goal.returns-clause-form
returns-clause-form c = writes_form c.args.self.now c.in_ok-item.item c.encode.result c.in_ok-item.ensures.is c.encode.ensures
