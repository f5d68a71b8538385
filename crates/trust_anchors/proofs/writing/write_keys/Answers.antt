use Rattle.std.proofs.Common.{◌+◌, List, take, sym, subst, arith}
use Rattle.std.specs.List.{AllZip}
use Rattle.cbor_core.specs.declared.item.Item.{Item}
use Rattle.trust_anchors.specs.Anchors.{Wraps, wrapped_key}
use Rattle.trust_anchors.proofs.Lists.{zip_more_right, map_pushed}
use Rattle.trust_anchors.proofs.writing.write_keys.Goals as goal

pub loop-key-preserved : goal.loop-key-preserved
loop-key-preserved c = record {
  value = map_pushed wrapped_key c.args.keys.now c.loop-key.key-index c.key-item.result c.loop-key.items c.push.new.self c.in_ok-write_key.field-0
      (omega arith) c.key-item.is c.in_ok-push.ensures.ok c.in_ok-write_key.ensures.value c.loop-key.invariant.value;
  again = subst (λ (xs : List Item). AllZip Wraps (take (c.loop-key.key-index + 1) c.args.keys.now) xs) (sym c.in_ok-push.ensures.ok)
      (zip_more_right Wraps c.args.keys.now c.loop-key.items c.loop-key.key-index c.key-item.result c.in_ok-write_key.field-0
      (omega arith) c.key-item.is c.in_ok-write_key.ensures.again c.loop-key.invariant.again);
}
