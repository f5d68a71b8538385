use Rattle.std.proofs.Common.{◌≡◌, ◌∙◌, ℕ, List}
use Rattle.std.proofs.lemmas.Result.{IfOk-weaker}
use Rattle.device_state.specs.Heads as Heads
use Rattle.device_reports.specs.Listing.{heads_of, listing_of}
use Rattle.device_reports.proofs.Same.{same_listing}
use Rattle.device_reports.proofs.listed.listing.Goals as goal

pub returns-clause-text : goal.returns-clause-text
returns-clause-text g c = λ told kept.
    let s = g.S.Store.state c.args.store.now in
    IfOk-weaker c.list_manifests.result (λ (text : List ℕ). text ≡ heads_of s.rows (Heads.heads s.rows)) (λ (text : List ℕ). text ≡ listing_of s)
    (λ (text : List ℕ) (is : text ≡ heads_of s.rows (Heads.heads s.rows)). is ∙ same_listing s c.weight-weight.ensures.valid) (c.list_manifests.ensures.text told kept)
