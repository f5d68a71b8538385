-- What an answer tells, and exits of a reader that reads part by part.
use Rattle.std.proofs.Common.{◌≡◌, sym, ap, inl, inr}
use Rattle.std.specs.Prelude.{Result, Ok, Err}
use Rattle.item_codec.specs.Answers.{and_then, Answers, IsAnswer}

module _ {V E : Type 0} (none : E) (view : Result V E) where
  -- the value that is answered is the one that there is
  pub found : (v : V) → Answers none view (Ok v) → view ≡ Ok v
  found v answers = answers

  -- a refusal but that of memory is the one that comes
  pub told : (e : E) → (e ≡ none → ⊥) → Answers {V = V} none view (Err e) → view ≡ Err e
  told e other (inl is) = is
  told e other (inr memory) = absurd (other memory)

  -- what there is is answered, unless memory runs out
  pub only : (r : Result V E) → Answers none view r → IsAnswer none r view
  only (Ok v) answers = inl (sym answers)
  only (Err e) (inl is) = inl (sym is)
  only (Err e) (inr memory) = inr (ap (λ (f : E). Err f) memory)

-- at a part that is refused
pub stop : {A B E : Type 0} (none : E) (k : A → Result B E) (r : Result A E) (f : E) → Answers {V = A} none r (Err f) → Answers {V = B} none (and_then k r) (Err f)
stop none k r f (inl e) = inl (ap (and_then k) e)
stop none k r f (inr is) = inr is
