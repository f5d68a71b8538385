use Rattle.suit_envelope.proofs.Merging.{goes_on, place_is, keys_behind, step_written}
use Rattle.suit_envelope.proofs.write.merge.Goals as goal

pub loop-payload-preserved : goal.loop-payload-preserved
loop-payload-preserved c =
    let place = place_is c.loop-payload.rest.now c.loop-payload.rest_keys.now c.in_ok-name.name c.as_str.result.now c.payload-item.result.name c.place_of-place.result c.place_of-place.ensures.place
    c.in_ok-name.ensures c.as_str.ensures.value
    c.loop-payload.invariant.keys in
    record {
      written = step_written c.args.attached.now c.loop-payload.payload-index c.payload-item.result c.loop-payload.pairs _ c.put_attached.new.pairs
          c.split_at.result.0.now c.split_at.result.1.now c.loop-payload.rest.now c.place_of-place.result
          c.in_ok-put_attached.ensures c.split_at.ensures.front c.split_at.ensures.back
          (goes_on c.args.attached.now c.loop-payload.payload-index c.payload-item.result _ c.loop-payload.pairs c.loop-payload.rest.now _ c.place_of-place.result
          c.loop-payload-test.true c.payload-item.is place c.loop-payload.invariant.written);
      keys = keys_behind c.loop-payload.rest.now c.split_at.result.1.now c.loop-payload.rest_keys.now c.split_at-in-loop-payload.result.1.now c.place_of-place.result
          c.loop-payload.invariant.keys c.split_at.ensures.back c.split_at-in-loop-payload.ensures.back;
    }
