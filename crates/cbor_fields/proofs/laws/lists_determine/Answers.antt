use Rattle.cbor_fields.proofs.Public.Forms.{list_determines}
use Rattle.cbor_fields.proofs.laws.lists_determine.Goals as goal

pub returns : goal.returns
returns g c = list_determines g.F.Form.view g.F.Form.written c.requires
