use Rattle.std.proofs.Common.{sym, subst}
use Rattle.cbor_core.specs.declared.item.Item.{Item}
use Rattle.cbor_core.specs.Spelling.{IsProper}
use Rattle.cose_core.proofs.Keys.{key_proper}
use Rattle.cose_core.proofs.key.CoseKey.write.Goals as goal

pub encode-requires : goal.encode-requires
encode-requires c = subst (λ (x : Item). IsProper x) (sym c.in_ok-item.ensures) (key_proper c.args.self.now)
