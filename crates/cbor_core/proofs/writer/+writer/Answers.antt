use Rattle.std.proofs.Common.{arith, refl, ap, length, drop}
use Rattle.std.proofs.lemmas.List.{length-append}
use Rattle.cbor_core.specs.Spelling.{spelling}
use Rattle.cbor_core.proofs.Written.{leaf_Unsigned, leaf_Negative, leaf_Bytes, leaf_Text, leaf_Truth, leaf_Null, writes_Array, writes_Map, writes_Tag, next_pair, pairs_more}
use Rattle.cbor_core.proofs.writer.+writer.Goals as goal

pub push_item-returns-in_ok-unsigned-in-Unsigned : goal.push_item-returns-in_ok-unsigned-in-Unsigned
push_item-returns-in_ok-unsigned-in-Unsigned t c = leaf_Unsigned c.args.depth c.args.item.now c.in-Unsigned.n _ _ c.in-Unsigned.is c.unsigned.ensures.range c.in_ok-unsigned-in-Unsigned.ensures.written

pub push_item-returns-in_ok-negative-in-Negative : goal.push_item-returns-in_ok-negative-in-Negative
push_item-returns-in_ok-negative-in-Negative t c = leaf_Negative c.args.depth c.args.item.now c.in-Negative.n _ _ c.in-Negative.is c.negative.ensures.range c.in_ok-negative-in-Negative.ensures.written

pub push_item-returns-in_ok-bytes-in-Bytes : goal.push_item-returns-in_ok-bytes-in-Bytes
push_item-returns-in_ok-bytes-in-Bytes t c =
    leaf_Bytes c.args.depth c.args.item.now c.in-Bytes.bytes c.as_slice.result.now _ _ c.in-Bytes.is c.as_slice.ensures c.bytes.ensures.range c.bytes.ensures.len c.in_ok-bytes-in-Bytes.ensures.written

pub push_item-returns-in_ok-text-in-Text : goal.push_item-returns-in_ok-text-in-Text
push_item-returns-in_ok-text-in-Text t c = leaf_Text c.args.depth c.args.item.now c.in-Text.text c.as_str.result.now _ _ c.in-Text.is c.as_str.ensures.value c.text.ensures.range c.text.ensures.len c.in_ok-text-in-Text.ensures.written

pub push_item-returns-in_ok-truth-in-Truth : goal.push_item-returns-in_ok-truth-in-Truth
push_item-returns-in_ok-truth-in-Truth t c = leaf_Truth c.args.depth c.args.item.now c.in-Truth.b _ _ _ c.in-Truth.is refl c.in_ok-truth-in-Truth.ensures.written

pub push_item-returns-in_ok-null-in-Null : goal.push_item-returns-in_ok-null-in-Null
push_item-returns-in_ok-null-in-Null t c = leaf_Null c.args.depth c.args.item.now _ _ c.in-Null.is c.in_ok-null-in-Null.ensures.written

pub push_array-returns : goal.push_array-returns
push_array-returns t c = writes_Array c.push_items.result c.args.depth c.args.members.now c.args.out.now c.push_items.new.out (omega arith) c.array.ensures.range (rw c.in_ok-array.ensures.written at c.push_items.ensures)

pub push_map-returns : goal.push_map-returns
push_map-returns t c = writes_Map c.push_pairs.result c.args.depth c.args.pairs.now c.args.out.now c.push_pairs.new.out (omega arith) c.map.ensures.range (rw c.in_ok-map.ensures.written at c.push_pairs.ensures)

pub push_tag-returns : goal.push_tag-returns
push_tag-returns t c = writes_Tag c.push_item.result c.args.depth c.args.n c.args.content.now c.args.out.now c.push_item.new.out (omega arith) c.tag.ensures.range (rw c.in_ok-tag.ensures.written at c.push_item.ensures)

pub push_pairs-loop-pair-preserved : goal.push_pairs-loop-pair-preserved
push_pairs-loop-pair-preserved t c =
    let key = rw c.if-not-branch.false at c.in_ok-push_key.ensures in
    let value = rw c.if-not-branch-2.false at c.in_ok-push_item.ensures in
    let start = c.len-start.ensures in
    let end = c.len-last_end.ensures in
    let longer = ap length key.1 in
    let longest = ap length value.1 in
    record {
      left = pairs_more c.args.depth c.args.pairs.now (drop c.loop-pair.pair-index c.args.pairs.now) _ c.pair-item.result c.args.out.now c.loop-pair.out c.push_key.new.out c.push_item.new.out
          c.loop-pair.last_start c.loop-pair.last_end c.len-start.result c.len-last_end.result
          (next_pair c.args.pairs.now c.loop-pair.pair-index c.pair-item.result c.loop-pair-test.true c.pair-item.is) c.loop-pair.invariant.left start end key.0 key.1 value.0 value.1;
      ordered = omega (arith, start, end, longer, length-append c.loop-pair.out (spelling c.pair-item.result.key));
      within = omega (arith, end, longest, length-append c.push_key.new.out (spelling c.pair-item.result.value));
    }
