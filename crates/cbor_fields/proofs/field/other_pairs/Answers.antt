use Rattle.std.proofs.Common.{arith, append-nil}
use Rattle.std.proofs.lemmas.List.Elements.{filter_more}
use Rattle.cbor_fields.specs.Views.{is_other}
use Rattle.cbor_fields.proofs.field.other_pairs.Goals as goal

pub loop-pair-preserved : goal.loop-pair-preserved
loop-pair-preserved c = grind (arith, filter_more (is_other c.args.labels.now) c.args.pairs.now c.loop-pair.pair-index c.pair-item.result c.loop-pair-test.true, append-nil)
