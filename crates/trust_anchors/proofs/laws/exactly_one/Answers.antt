use Rattle.trust_anchors.proofs.Public.OneAnchors.{anchors_or_refused}
use Rattle.trust_anchors.proofs.laws.exactly_one.Goals as goal

pub returns : goal.returns
returns c = record { anchors = anchors_or_refused }
