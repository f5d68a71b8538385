use Rattle.std.proofs.Common.{ℕ, List, ap}
use Rattle.cbor_core.specs.Spelling.{spelling}
use Rattle.cose_core.specs.Signed.{signed_item}
use Rattle.trust_anchors.specs.Anchors.{keys_of}
use Rattle.trust_anchors.proofs.Searches.{search_found, search_only, search_not_signed}
use Rattle.trust_anchors.proofs.anchors.Anchors.verified.Goals as goal

pub returns-clause-found : goal.returns-clause-found
returns-clause-found c =
    let message = c.args.message.now in
    search_found _ (keys_of c.args.role c.args.self.now) _ (spelling (signed_item message.protected c.args.payload.now)) _ message.signature c.signer_over.result
    c.keys.ensures (ap (λ (p : List ℕ). spelling (signed_item p c.args.payload.now)) c.as_slice.ensures) c.as_slice-signature.ensures c.signer_over.ensures

pub returns-clause-only : goal.returns-clause-only
returns-clause-only c =
    let message = c.args.message.now in
    search_only _ (keys_of c.args.role c.args.self.now) _ (spelling (signed_item message.protected c.args.payload.now)) _ message.signature c.signer_over.result
    c.keys.ensures (ap (λ (p : List ℕ). spelling (signed_item p c.args.payload.now)) c.as_slice.ensures) c.as_slice-signature.ensures c.signer_over.ensures

pub returns-clause-not_signed : goal.returns-clause-not_signed
returns-clause-not_signed c =
    let message = c.args.message.now in
    search_not_signed _ (keys_of c.args.role c.args.self.now) _ (spelling (signed_item message.protected c.args.payload.now)) _ message.signature c.signer_over.result
    c.keys.ensures (ap (λ (p : List ℕ). spelling (signed_item p c.args.payload.now)) c.as_slice.ensures) c.as_slice-signature.ensures c.signer_over.ensures
