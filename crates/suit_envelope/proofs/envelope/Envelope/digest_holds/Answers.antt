use Rattle.std.proofs.Common.{◌≡◌, ℕ, List, length, ◌++◌, sym, ap, subst, ◌∙◌}
use Rattle.std.specs.Prelude.{◌↔◌, IsTrue}
use Rattle.cbor_heads.specs.Head.{head}
use Rattle.cbor_core.proofs.Public.Spell.{spelling_Bytes}
use Rattle.suit_commands.specs.Digests.{hash_of}
use Rattle.suit_envelope.proofs.envelope.Envelope.digest_holds.Goals as goal

pub returns : goal.returns
returns c =
    let is = ap (λ (bytes : List ℕ). head 2 (length bytes) ++ bytes) c.as_slice.ensures ∙ sym (spelling_Bytes c.args.self.now.manifest_bytes) in
    subst (λ (bytes : List ℕ). IsTrue c.matches_string.result ↔ (c.args.self.now.digest.bytes ≡ hash_of c.args.self.now.digest.algorithm bytes)) is c.matches_string.ensures
