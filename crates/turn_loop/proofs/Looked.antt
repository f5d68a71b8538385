-- A look at a source, as a board tells it.
use Rattle.std.proofs.Common.{◌≡◌, ℕ, subst}
use Rattle.outside_core.specs.Stream.{Stream}
use Rattle.frames.specs.Nexts.{Nexts}
use Rattle.frames.specs.declared.next.Next.{Next}

pub looked_at : (limit taken : ℕ) (next : Next) {m most : ℕ} {was is old new : Stream} → was ≡ old → is ≡ new → m ≡ most → Nexts limit m taken was.rest is.rest next → Nexts limit most taken old.rest new.rest next
looked_at limit taken next {m} {most} {was} {is} {old} {new} before behind bound looked =
    subst (λ (s : Stream). Nexts limit most taken s.rest new.rest next) before
    (subst (λ (s : Stream). Nexts limit most taken was.rest s.rest next) behind
    (subst (λ (n : ℕ). Nexts limit n taken was.rest is.rest next) bound looked))
