-- What a candidate that waits is owed before it goes on.
use Rattle.std.proofs.Common.{List, ◌++◌}
use Rattle.suit_engine.specs.declared.outcome.Fetched.{Fetched}
use Rattle.suit_engine.proofs.Public.Suspended as engine
use Rattle.manifest_judge.specs.declared.candidate.Candidate.{Candidate}
use Rattle.manifest_judge.specs.Openings.{CanGoOn}

-- with more behind what it had
pub waits_on : (candidate : Candidate) (env more : List Fetched) → CanGoOn candidate env → CanGoOn candidate (env ++ more)
waits_on candidate env more goes = engine.waits_on candidate.engine env more goes
