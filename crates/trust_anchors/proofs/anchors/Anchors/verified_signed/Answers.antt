use Rattle.std.proofs.Common.{refl}
use Rattle.trust_anchors.specs.Anchors.{keys_of}
use Rattle.trust_anchors.proofs.Searches.{search_found, search_only, search_not_signed}
use Rattle.trust_anchors.proofs.anchors.Anchors.verified_signed.Goals as goal

pub returns-clause-found : goal.returns-clause-found
returns-clause-found c = search_found _ (keys_of c.args.role c.args.self.now) _ _ _ _ c.signer_over.result c.keys.ensures refl refl c.signer_over.ensures

pub returns-clause-only : goal.returns-clause-only
returns-clause-only c = search_only _ (keys_of c.args.role c.args.self.now) _ _ _ _ c.signer_over.result c.keys.ensures refl refl c.signer_over.ensures

pub returns-clause-not_signed : goal.returns-clause-not_signed
returns-clause-not_signed c = search_not_signed _ (keys_of c.args.role c.args.self.now) _ _ _ _ c.signer_over.result c.keys.ensures refl refl c.signer_over.ensures
