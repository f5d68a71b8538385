use Rattle.std.proofs.Common.{ℕ, List, subst}
use Rattle.trust_anchors.specs.Blocks.{BlocksSearchedAs}
use Rattle.trust_anchors.proofs.BlockSearches.{blocks_only, blocks_not_signed}
use Rattle.trust_anchors.proofs.anchors.Anchors.verified_any.Goals as goal

searched : (c : goal.After-first_signed) → BlocksSearchedAs c.args.self.now c.args.role c.args.blocks.now c.args.payload.now c.first_signed.result
searched c = subst (λ (blocks : List (List ℕ)). BlocksSearchedAs c.args.self.now c.args.role blocks c.args.payload.now c.first_signed.result) c.as_slice.ensures c.first_signed.ensures

pub returns-clause-only : goal.returns-clause-only
returns-clause-only c = blocks_only c.args.self.now c.args.role c.args.blocks.now c.args.payload.now c.first_signed.result (searched c)

pub returns-clause-not_signed : goal.returns-clause-not_signed
returns-clause-not_signed c = blocks_not_signed c.args.self.now c.args.role c.args.blocks.now c.args.payload.now c.first_signed.result (searched c)
