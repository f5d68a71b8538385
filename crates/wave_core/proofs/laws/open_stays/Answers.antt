use Rattle.wave_core.proofs.Public.Stays.{open_still, rises_lower_none}
use Rattle.wave_core.proofs.laws.open_stays.Goals as goal

pub returns : goal.returns
returns c = record { stays = open_still; rises = rises_lower_none }
