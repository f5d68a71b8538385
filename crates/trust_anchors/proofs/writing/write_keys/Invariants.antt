use Rattle.std.proofs.Common.{◌≡◌, map, take}
use Rattle.std.specs.List.{AllZip}
use Rattle.trust_anchors.specs.Anchors.{Wraps, wrapped_key}
use Rattle.trust_anchors.proofs.writing.write_keys.Given as goal

abbrev pub invariant-loop-key : goal.invariant-loop-key
invariant-loop-key l = record {
  value : l.items ≡ map wrapped_key (take l.key-index l.keys);
  again : AllZip Wraps (take l.key-index l.keys) l.items;
}
