use Rattle.device_image.proofs.States as laws
use Rattle.device_image.proofs.laws.new_images_stand.Goals as goal

pub returns : goal.returns
returns c = laws.new_images_stand
