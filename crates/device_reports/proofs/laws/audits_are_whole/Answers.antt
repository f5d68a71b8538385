use Rattle.device_reports.proofs.Placing as Placing
use Rattle.device_reports.proofs.laws.audits_are_whole.Goals as goal

pub returns : goal.returns
returns c = Placing.audits_are_whole
