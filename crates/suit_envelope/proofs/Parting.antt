-- Pairs that attach a payload, and pairs that are kept.
use Rattle.std.proofs.Common.{◌≡◌, Bool, true, false, List, [], ◌∷◌, ◌++◌, Option, Some, None, refl, ap, ◌∙◌}
use Rattle.cbor_core.specs.declared.item.Pair.{Pair}
use Rattle.suit_envelope.specs.Envelopes.{before, attached_in, attached_of, is_kept, kept_of}

before_front : {A : Type 0} (o : Option A) (xs ys : List A) → before o (xs ++ ys) ≡ before o xs ++ ys
before_front None xs ys = refl
before_front (Some a) xs ys = refl

-- what is attached by more pairs
pub attached_more : (ps qs : List Pair) → attached_of (ps ++ qs) ≡ attached_of ps ++ attached_of qs
attached_more [] qs = refl
attached_more (p ∷ ps) qs = ap (before (attached_in p)) (attached_more ps qs) ∙ before_front (attached_in p) (attached_of ps) (attached_of qs)

-- what is kept of more pairs
pub kept_more : (ps qs : List Pair) → kept_of (ps ++ qs) ≡ kept_of ps ++ kept_of qs
kept_more [] qs = refl
kept_more (p ∷ ps) qs = by_test (is_kept p) refl (kept_more ps qs) where
  by_test : (b : Bool) → is_kept p ≡ b → kept_of (ps ++ qs) ≡ kept_of ps ++ kept_of qs → kept_of (p ∷ (ps ++ qs)) ≡ kept_of (p ∷ ps) ++ kept_of qs
  by_test true is more = rw is (ap (λ (rs : List Pair). p ∷ rs) more)
  by_test false is more = rw is more
