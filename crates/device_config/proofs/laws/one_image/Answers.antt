use Rattle.device_config.proofs.Images.{one_image}
use Rattle.device_config.proofs.laws.one_image.Goals as goal

pub returns : goal.returns
returns c = one_image
