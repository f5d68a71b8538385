use Rattle.std.proofs.Common.{ap}
use Rattle.std.specs.Prelude.{Err}
use Rattle.trust_anchors.proofs.BlockSearches.{image_none, image_some, no_message, own_payload, is_signed, is_not_signed}
use Rattle.trust_anchors.proofs.blocks.block_signer.Goals as goal

pub returns-in_default : goal.returns-in_default
returns-in_default c = no_message c.args.anchors.now c.args.role c.args.payload.now c.args.block.now c.read.result c.in_default.field-0 c.in_default.is c.read.ensures.only

pub returns-then-is_some : goal.returns-then-is_some
returns-then-is_some c =
    let found = c.in-Ok.ensures.found in
    own_payload c.args.anchors.now c.args.role c.args.payload.now c.args.block.now c.in-Ok.message found.0 found.1 found.2
    (image_some (λ s. s.now) c.in-Ok.message.payload c.if-is_some.ensures)

pub returns-in-Ok-verified_signed : goal.returns-in-Ok-verified_signed
returns-in-Ok-verified_signed c =
    let found = c.in-Ok.ensures.found in
    is_signed c.args.anchors.now c.args.role c.args.payload.now c.args.block.now c.in-Ok.message found.0 found.1 found.2
    (image_none (λ s. s.now) c.in-Ok.message.payload c.if-is_some.ensures) c.in-Ok-verified_signed.anchor c.in-Ok-verified_signed.ensures.found

pub returns-in-Err-NotSigned : goal.returns-in-Err-NotSigned
returns-in-Err-NotSigned c =
    let found = c.in-Ok.ensures.found in
    is_not_signed c.args.anchors.now c.args.role c.args.payload.now c.args.block.now c.in-Ok.message found.0 found.1 found.2
    (c.in-Err-NotSigned.ensures.not_signed (ap Err c.in-Err-NotSigned.field-0-is))
