use Rattle.std.proofs.Common.{Result, Ok, Err, List, ℕ, ◌<◌, ◌^◌, ◌≡◌, length, ◌∙◌, arith}
use Rattle.std.specs.Prelude.{IfOk}
use Rattle.base_types.specs.Bytes.{IsBytes}
use Rattle.base_types.specs.declared.memory.NoMemory.{NoMemory}
use Rattle.cbor_core.specs.Spelling.{Spells, spelling}
use Rattle.cose_core.specs.Signed.{signed_item}
use Rattle.cose_core.proofs.Written.{signed_spelled}
use Rattle.cose_core.proofs.signed.signed_bytes.Goals as goal

spelled : (protected payload whole : List ℕ) (result : Result (List ℕ) NoMemory) → IsBytes protected → length protected < 2 ^ 64 → IsBytes payload → length payload < 2 ^ 64
    → whole ≡ spelling (signed_item protected payload) → IfOk result (λ bytes. bytes ≡ whole) → IfOk result (λ bytes. Spells (signed_item protected payload) bytes)
spelled protected payload whole (Ok bytes) are len payload_are payload_len joined is = signed_spelled protected payload bytes are len payload_are payload_len (is ∙ joined)
spelled protected payload whole (Err e) are len payload_are payload_len joined is = tt

pub returns : goal.returns
returns c = record {
  spelled =
      spelled c.args.protected.now c.args.payload.now _ c.round.result (λ i. omega (arith, c.type_inv.protected i)) c.in_ok-heads.ensures.few.0 (λ i. omega (arith, c.type_inv.payload i)) c.in_ok-heads.ensures.few.1
      c.in_ok-heads.ensures.joined c.round.ensures;
}
