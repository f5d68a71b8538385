-- What items are: anchors, or refused in one way.
use Rattle.cbor_core.specs.declared.item.Item.{Item}
use Rattle.cbor_core.specs.Spelling.{HasRanges}
use Rattle.cose_core.specs.Law.{ExactlyOne}
use Rattle.trust_anchors.specs.declared.anchors.Anchors.{Anchors}
use Rattle.trust_anchors.specs.declared.fault.AnchorFault.{AnchorFault}
use Rattle.trust_anchors.specs.Anchors.{AnchorsIs, RefusedAs}

-- each item in range, as every item of a running program is, is one set of anchors, or has one refusal
abbrev pub OneAnchors : Type 0
OneAnchors = (x : Item) → HasRanges x → ExactlyOne (λ (v : Anchors). AnchorsIs v x) (λ (e : AnchorFault). RefusedAs x e)
