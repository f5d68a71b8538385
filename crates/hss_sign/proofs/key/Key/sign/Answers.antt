use Rattle.std.proofs.Common.{◌≡◌, ℕ, ◌/◌, ◌%◌, ◌^◌, ap, ◌∙◌}
use Rattle.hss_sign.specs.Sign.{signature_of}
use Rattle.hss_sign.proofs.Keys.{by_one_level, by_two_levels, two_if_not_one}
use Rattle.hss_sign.proofs.key.Key.sign.Goals as goal
use Rattle.hss_sign.proofs.key.Key.sign.Goals.{in-Some+else-lower-at, in_default}

pub returns-then-params-eq1-clause-value : goal.returns-then-params-eq1-clause-value
returns-then-params-eq1-clause-value g c =
    let inside = c.self.inside in
    let e = rw c.self.invariant.secret (by_one_level inside.params inside.seed c.args.leaf c.args.message.now c.if-params-eq1.true) ∙ ap (λ k. signature_of k.params k.seed c.args.leaf c.args.message.now) c.self.view_is in
    rw (← e) c.sign_alone.ensures.value

pub returns-then-lower-at-clause-value : goal.returns-then-lower-at-clause-value
returns-then-lower-at-clause-value g c =
    let inside = c.self.inside in
    let low = rw c.in-Some.is at c.self.invariant.below in
    let two = two_if_not_one inside.params.levels c.self.invariant.proper.levels c.if-params-eq1.false in
    let count : c.from-leaves.result ≡ 2 ^ inside.params.height = c.from-leaves.ensures ∙ c.leaves.ensures.count in
    let top = c.if-lower-at.true ∙ ap (λ (m : ℕ). c.args.leaf / m) count in
    let below = ap (λ (m : ℕ). c.args.leaf % m) count in
    let e = rw (low.secret, low.signed) (by_two_levels inside.params inside.seed c.args.leaf _ _ c.args.message.now two top below) ∙ ap (λ k. signature_of k.params k.seed c.args.leaf c.args.message.now) c.self.view_is in
    rw (← e) c.sign_below.ensures.value

pub invariant_of-self : goal.invariant_of-self
invariant_of-self g c =
    let is : c.match-self.self-inside ≡ c.self.inside = elim c.match-self.branch [ in-Some+else-lower-at w ↦ w.self-inside-is | in_default w ↦ w.self-inside-is ] in
    rw is (record {
      proper = c.self.invariant.proper;
      workers_some = c.self.invariant.workers_some;
      public_key = c.self.invariant.public_key;
      secret = c.self.invariant.secret;
      grown = c.self.invariant.grown;
      below = (rw is at c.in_ok-lower.ensures.value).0;
    })

pub returns-clause-value : goal.returns-clause-value
returns-clause-value g c =
    let inside = c.self.inside in
    let is : c.match-self.self-inside ≡ c.self.inside = elim c.match-self.branch [ in-Some+else-lower-at w ↦ w.self-inside-is | in_default w ↦ w.self-inside-is ] in
    let low = rw is at c.in_ok-lower.ensures.value in
    let two = two_if_not_one inside.params.levels c.self.invariant.proper.levels c.if-params-eq1.false in
    let count : c.from-leaves.result ≡ 2 ^ inside.params.height = c.from-leaves.ensures ∙ c.leaves.ensures.count in
    let top = low.1 ∙ ap (λ (m : ℕ). c.args.leaf / m) count in
    let below = ap (λ (m : ℕ). c.args.leaf % m) count in
    c.in_ok-signature.ensures.value ∙ rw (low.0.secret, low.0.signed) (by_two_levels inside.params inside.seed c.args.leaf _ _ c.args.message.now two top below)
    ∙ ap (λ k. signature_of k.params k.seed c.args.leaf c.args.message.now) c.self.view_is
