use Rattle.std.proofs.Common.{◌≡◌, drop}
use Rattle.cbor_core.specs.Views.{field}
use Rattle.cbor_core.proofs.views.field.Given as goal

abbrev pub invariant-loop-pair : goal.invariant-loop-pair
invariant-loop-pair l = field l.label (drop l.pair-index l.pairs) ≡ field l.label l.pairs
