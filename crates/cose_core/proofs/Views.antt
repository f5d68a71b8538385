-- What a view of an item tells about the item.
use Rattle.std.proofs.Common.{◌≡◌, ℕ, List, Option, None, Some, refl, sym, ap, ◌∙◌}
use Rattle.cbor_core.specs.declared.item.Item.{Item, out-Item}
use Rattle.cbor_core.specs.declared.item.Pair.{Pair}
use Rattle.cbor_core.specs.declared.item.Item.TheOpen.{Item-F}
use Rattle.cbor_core.specs.declared.item.Item.TheViews.{roll-Item, roll-out-Item}
use Rattle.cbor_core.specs.declared.item.Item.TheVariants as i
use Rattle.cose_core.specs.Sign1.{payload_item}
use Rattle.cose_core.specs.Reading.{payload_by, payload_of}

payload_rolled : (l : Item-F Item Pair) (c : Option (List ℕ)) → payload_by l ≡ Some c → roll-Item l ≡ payload_item c
payload_rolled (Item-F.Bytes b) c e = let same : Some b ≡ c = cc in i.rolls-Bytes b ∙ ap payload_item same
payload_rolled Item-F.Null c e = let same : None ≡ c = cc in i.rolls-Null ∙ ap payload_item same
payload_rolled _ c e = absurd cc

pub payload_is : (x : Item) (c : Option (List ℕ)) → payload_of x ≡ Some c → x ≡ payload_item c
payload_is x c e = sym (roll-out-Item x) ∙ payload_rolled (out-Item x) c e

pub payload_back : (c : Option (List ℕ)) → payload_of (payload_item c) ≡ Some c
payload_back None = rw i.outs-Null refl
payload_back (Some b) = rw i.outs-Bytes refl
