use Rattle.journal_core.proofs.OneList.{one_list_law}
use Rattle.journal_core.proofs.laws.one_list.Goals as goal

pub returns : goal.returns
returns c = record { one = one_list_law }
