use Rattle.device_reports.proofs.Ordered as Ordered
use Rattle.device_reports.proofs.laws.listings_ascend.Goals as goal

pub returns : goal.returns
returns c = Ordered.listings_ascend
