use Rattle.cbor_fields.proofs.Public.Forms.{forms_determine}
use Rattle.cbor_fields.proofs.laws.forms_determine.Goals as goal

pub returns : goal.returns
returns c = forms_determine
