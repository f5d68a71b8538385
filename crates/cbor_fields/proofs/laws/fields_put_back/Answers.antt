use Rattle.cbor_fields.proofs.Public.Fields.{put_back}
use Rattle.cbor_fields.proofs.laws.fields_put_back.Goals as goal

pub returns : goal.returns
returns c = put_back
