use Rattle.device_image.proofs.Leading as laws
use Rattle.device_image.proofs.laws.more_leads.Goals as goal

pub returns : goal.returns
returns c = laws.more_leads
