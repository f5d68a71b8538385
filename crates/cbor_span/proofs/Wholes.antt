-- The answer about bytes as a whole, from the answer about a front of them.
use Rattle.std.proofs.Common.{◌≡◌, ℕ, ◌≤◌, ◌<◌, List, length, Result, Ok, Err, refl, sym, ap, subst, ◌∙◌, arith, inl, inr}
use Rattle.std.specs.Prelude.{◌↔◌}
use Rattle.std.proofs.lemmas.List.{take_all}
use Rattle.cbor_heads.specs.declared.fault.Fault.{Fault}
use Rattle.cbor_heads.specs.declared.fault.Why.TheVariants as why
use Rattle.cbor_core.specs.Spelling.{Spells}
use Rattle.cbor_core.specs.Law.{IsFaulty, IsFaultyWhole, HasExtra}
use Rattle.cbor_core.proofs.Public.Whole.{whole_front}
use Rattle.cbor_span.specs.Span.{IsSpan, IsItem}
use Rattle.cbor_span.proofs.Fronts.{same_length, same_fault, not_both}

whole : (bytes : List ℕ) → IsItem bytes → IsSpan bytes (length bytes)
whole bytes s = (s.0, whole_front bytes s.0 s.1)

-- what `span` says of its answer
abbrev pub Found : List ℕ → Result ℕ Fault → Type 0
Found bytes r = (n : ℕ) → (r ≡ Ok n) ↔ IsSpan bytes n

abbrev pub Refused : List ℕ → Result ℕ Fault → Type 0
Refused bytes r = (f : Fault) → (r ≡ Err f) ↔ IsFaulty bytes f

-- the two answers of `check_whole`
abbrev pub good : Result (Unit {0}) Fault
good = Ok tt

abbrev pub bad : Fault → Result (Unit {0}) Fault
bad f = Err f

bad_not_good : (f : Fault) → bad f ≡ good → ⊥
bad_not_good f e = absurd cc

good_not_bad : (f : Fault) → good ≡ bad f → ⊥
good_not_bad f e = absurd cc

bad_is : (f g : Fault) → bad f ≡ bad g → f ≡ g
bad_is f g e = cc

module _ (bytes : List ℕ) (r : Result ℕ Fault) (found : Found bytes r) (refused : Refused bytes r) where
  err_no_item : (f : Fault) → r ≡ Err f → IsItem bytes → ⊥
  err_no_item f e s = not_both r (length bytes) f ((found (length bytes)).1 (whole bytes s)) e

  err_faulty : (f g : Fault) → r ≡ Err f → f ≡ g → IsFaultyWhole bytes g
  err_faulty f g e is = inl ((refused g).0 (e ∙ ap (λ (k : Fault). Err k) is))

  err_only : (f g : Fault) → r ≡ Err f → IsFaultyWhole bytes g → f ≡ g
  err_only f g e (inl h) = same_fault f g (sym e ∙ (refused g).1 h)
  err_only f g e (inr h) = absurd (not_both r g.at f ((found g.at).1 (h.item, h.front)) e)

  extra_no_item : (n : ℕ) → r ≡ Ok n → n < length bytes → IsItem bytes → ⊥
  extra_no_item n e lt s = let is = same_length n (length bytes) (sym e ∙ (found (length bytes)).1 (whole bytes s)) in absurd (omega arith)

  extra_faulty : (n : ℕ) (g : Fault) → r ≡ Ok n → n < length bytes → record { at = n; why = why.Extra } ≡ g → IsFaultyWhole bytes g
  extra_faulty n g e lt is =
      let s = (found n).0 e in
      inr (subst (λ (k : Fault). HasExtra bytes k) is (record { item = s.0; front = s.1; more = lt; why = refl }))

  extra_only : (n : ℕ) (g : Fault) → r ≡ Ok n → IsFaultyWhole bytes g → record { at = n; why = why.Extra } ≡ g
  extra_only n g e (inl h) = absurd (not_both r n g e ((refused g).1 h))
  extra_only n g e (inr h) = let at = same_length n g.at (sym e ∙ (found g.at).1 (h.item, h.front)) in rw (at, ← h.why) refl

  all_item : (n : ℕ) → r ≡ Ok n → length bytes ≤ n → IsItem bytes
  all_item n e le = let s = (found n).0 e in (s.0, subst (λ (t : List ℕ). Spells s.0 t) (take_all n bytes le) s.1.1)

  all_no_fault : (n : ℕ) (g : Fault) → r ≡ Ok n → length bytes ≤ n → IsFaultyWhole bytes g → ⊥
  all_no_fault n g e le (inl h) = not_both r n g e ((refused g).1 h)
  all_no_fault n g e le (inr h) =
      let at = same_length n g.at (sym e ∙ (found g.at).1 (h.item, h.front)) in
      let more : g.at < length bytes = h.more in
      absurd (omega arith)

  pub err_found : (f : Fault) → r ≡ Err f → (bad f ≡ good) ↔ IsItem bytes
  err_found f e = (λ h. absurd (bad_not_good f h), λ s. absurd (err_no_item f e s))

  pub err_refused : (f : Fault) → r ≡ Err f → (g : Fault) → (bad f ≡ bad g) ↔ IsFaultyWhole bytes g
  err_refused f e g = (λ h. err_faulty f g e (bad_is f g h), λ h. ap bad (err_only f g e h))

  pub extra_found : (n : ℕ) → r ≡ Ok n → n < length bytes → (bad (record { at = n; why = why.Extra }) ≡ good) ↔ IsItem bytes
  extra_found n e lt = (λ h. absurd (bad_not_good _ h), λ s. absurd (extra_no_item n e lt s))

  pub extra_refused : (n : ℕ) → r ≡ Ok n → n < length bytes → (g : Fault) → (bad (record { at = n; why = why.Extra }) ≡ bad g) ↔ IsFaultyWhole bytes g
  extra_refused n e lt g = (λ h. extra_faulty n g e lt (bad_is _ g h), λ h. ap bad (extra_only n g e h))

  pub all_found : (n : ℕ) → r ≡ Ok n → length bytes ≤ n → (good ≡ good) ↔ IsItem bytes
  all_found n e le = (λ h. all_item n e le, λ s. refl)

  pub all_refused : (n : ℕ) → r ≡ Ok n → length bytes ≤ n → (g : Fault) → (good ≡ bad g) ↔ IsFaultyWhole bytes g
  all_refused n e le g = (λ h. absurd (good_not_bad g h), λ h. absurd (all_no_fault n g e le h))
