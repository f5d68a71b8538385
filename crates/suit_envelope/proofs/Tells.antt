-- What an answer tells.
use Rattle.std.proofs.Common.{◌≡◌, ◌⊎◌, refl, sym, ap, ◌∙◌, inl, inr}
use Rattle.std.specs.Prelude.{Result, Ok, Err, IfOk}
use Rattle.item_codec.specs.Answers.{Answers, IsAnswer}

module _ {V E : Type 0} (none : E) (view : Result V E) where
  pub found : (r : Result V E) → Answers none view r → IfOk r (λ v. view ≡ Ok v)
  found (Ok v) is = is
  found (Err e) is = tt

  pub only : (r given : Result V E) → Answers none view r → view ≡ given → IsAnswer none r given
  only (Ok v) given is at = inl (sym is ∙ at)
  only (Err e) given (inl is) at = inl (sym is ∙ at)
  only (Err e) given (inr memory) at = inr (ap (λ (f : E). Err f) memory)

  pub bad : (r : Result V E) → Answers none view r → (e : E) → r ≡ Err e → (e ≡ none) ⊎ (view ≡ Err e)
  bad (Ok v) is e at = absurd cc
  bad (Err f) (inl is) e at = inr (is ∙ at)
  bad (Err f) (inr memory) e at = let same : f ≡ e = cc in inl (sym same ∙ memory)

  -- four clauses make an answer
  pub answers : (r : Result V E) → IfOk r (λ v. view ≡ Ok v) → ((e : E) → r ≡ Err e → (e ≡ none) ⊎ (view ≡ Err e)) → Answers none view r
  answers (Ok v) is bads = is
  answers (Err e) is bads = turned (bads e refl) where
    turned : (e ≡ none) ⊎ (view ≡ Err e) → (view ≡ Err e) ⊎ (e ≡ none)
    turned (inl memory) = inr memory
    turned (inr at) = inl at
