use Rattle.std.proofs.Common.{arith}
use Rattle.trust_anchors.specs.Blocks.{BlockPassed, BlockSigned}
use Rattle.trust_anchors.proofs.Lists.{all_more, first_more}
use Rattle.trust_anchors.proofs.BlockSearches.{signer_of}
use Rattle.trust_anchors.proofs.blocks.first_signed.Goals as goal

pub returns-in-Some : goal.returns-in-Some
returns-in-Some c =
    let v = c.args.anchors.now in
    let p = c.args.payload.now in
    let block = c.index-blocks-place.result in
    let signed : BlockSigned v c.args.role p block c.in-Some.anchor = signer_of v c.args.role p block c.as_slice.result.now c.in_ok-signer.signer _ c.as_slice.ensures c.in-Some.is c.in_ok-signer.ensures in
    first_more (BlockPassed v c.args.role p) (λ bytes. BlockSigned v c.args.role p bytes c.in-Some.anchor) c.args.blocks.now c.loop-place.place block (omega arith) c.index-blocks-place.is signed c.loop-place.invariant

pub loop-place-preserved : goal.loop-place-preserved
loop-place-preserved c =
    let v = c.args.anchors.now in
    let p = c.args.payload.now in
    let block = c.index-blocks-place.result in
    let passed : BlockPassed v c.args.role p block = signer_of v c.args.role p block c.as_slice.result.now c.in_ok-signer.signer _ c.as_slice.ensures c.in_default.is c.in_ok-signer.ensures in
    all_more (BlockPassed v c.args.role p) c.args.blocks.now c.loop-place.place block (omega arith) c.index-blocks-place.is passed c.loop-place.invariant
