-- Where the reading of bytes from their start ends.
use Rattle.std.proofs.Common.{◌≡◌, ◌⊎◌, ℕ, List, length, drop, Result, Ok, Err, sym, ap, subst, ◌∙◌, inl, inr}
use Rattle.base_types.specs.Bytes.{IsBytes}
use Rattle.cbor_heads.specs.declared.fault.Fault.{Fault}
use Rattle.cbor_heads.specs.Place.{Place, start}
use Rattle.cbor_core.specs.Reading.{item_at}
use Rattle.cbor_core.specs.Law.{IsFaulty, IsFaultyWhole, OneItemWhole, OneFaultWhole}
use Rattle.cbor_core.proofs.Public.ExactlyOne.{exactly_one_whole}
use Rattle.cbor_core.proofs.Public.Whole.{reads, refuses, whole_front}
use Rattle.cbor_span.specs.Ending.{ending, LengthIs}
use Rattle.cbor_span.specs.Span.{IsSpan}

-- ---- a front of bytes spells an item, or the bytes have a fault

abbrev pub Told : List ℕ → Type 0
Told bytes = ((n : ℕ) × IsSpan bytes n) ⊎ ((f : Fault) × IsFaulty bytes f)

by_fault : (bytes : List ℕ) (f : Fault) → IsFaultyWhole bytes f → Told bytes
by_fault bytes f (inl h) = inr (f, h)
by_fault bytes f (inr h) = inl (f.at, (h.item, h.front))

by_whole : (bytes : List ℕ) → OneItemWhole bytes ⊎ OneFaultWhole bytes → Told bytes
by_whole bytes (inl one) = inl (length bytes, (one.item, whole_front bytes one.item one.spelled))
by_whole bytes (inr one) = by_fault bytes one.first one.faulty

told : (bytes : List ℕ) → IsBytes bytes → Told bytes
told bytes fits = by_whole bytes (exactly_one_whole bytes fits)

-- ---- and the reading ends so

pub ends_behind : (bytes : List ℕ) (n : ℕ) → IsSpan bytes n → ending (item_at 16 (start bytes)) ≡ Ok (record { at = n; rest = drop n bytes })
ends_behind bytes n s = ap ending (reads bytes s.0 n s.1.0 s.1.1)

pub ends_faulty : (bytes : List ℕ) (f : Fault) → IsFaulty bytes f → ending (item_at 16 (start bytes)) ≡ Err f
ends_faulty bytes f h = ap ending (refuses bytes f h)

abbrev pub at_place : Place → Result Place Fault
at_place q = Ok q

abbrev pub at_fault : Fault → Result Place Fault
at_fault f = Err f

pub place_is : (p q : Place) → at_place p ≡ at_place q → p ≡ q
place_is p q e = cc

pub fault_is : (f g : Fault) → at_fault f ≡ at_fault g → f ≡ g
fault_is f g e = cc

pub place_not_fault : (q : Place) (f : Fault) → at_place q ≡ at_fault f → ⊥
place_not_fault q f e = absurd cc

-- ---- so what `front` answers is the length or the fault

abbrev pub length_answer : ℕ → Result ℕ Fault
length_answer n = Ok n

abbrev pub fault_answer : Fault → Result ℕ Fault
fault_answer f = Err f

pub same_length : (m n : ℕ) → length_answer m ≡ length_answer n → m ≡ n
same_length m n e = cc

pub same_fault : (f g : Fault) → fault_answer f ≡ fault_answer g → f ≡ g
same_fault f g e = cc

pub not_both : (r : Result ℕ Fault) (n : ℕ) (f : Fault) → r ≡ Ok n → r ≡ Err f → ⊥
not_both r n f a b = let both : Ok n ≡ Err f = sym a ∙ b in absurd cc

pub spanned : (bytes : List ℕ) (r : Result ℕ Fault) → LengthIs (item_at 16 (start bytes)) r → (n : ℕ) → IsSpan bytes n → r ≡ Ok n
spanned bytes (Ok m) h n s =
    let is : h.0 ≡ record { at = n; rest = drop n bytes } = place_is h.0 _ (sym h.1 ∙ ends_behind bytes n s) in
    ap (λ (k : ℕ). Ok k) (sym h.2 ∙ ap (λ (q : Place). q.at) is)
spanned bytes (Err f) h n s = absurd (place_not_fault _ f (sym (ends_behind bytes n s) ∙ h))

pub faulted : (bytes : List ℕ) (r : Result ℕ Fault) → LengthIs (item_at 16 (start bytes)) r → (f : Fault) → IsFaulty bytes f → r ≡ Err f
faulted bytes (Ok n) h f s = absurd (place_not_fault h.0 f (sym h.1 ∙ ends_faulty bytes f s))
faulted bytes (Err g) h f s = ap (λ (k : Fault). Err k) (fault_is g f (sym h ∙ ends_faulty bytes f s))

spans_by : (bytes : List ℕ) (r : Result ℕ Fault) → LengthIs (item_at 16 (start bytes)) r → Told bytes → (n : ℕ) → r ≡ Ok n → IsSpan bytes n
spans_by bytes r h (inl s) n e = let is : s.0 ≡ n = same_length s.0 n (sym (spanned bytes r h s.0 s.1) ∙ e) in subst (λ (k : ℕ). IsSpan bytes k) is s.1
spans_by bytes r h (inr f) n e = absurd (not_both r n f.0 e (faulted bytes r h f.0 f.1))

faults_by : (bytes : List ℕ) (r : Result ℕ Fault) → LengthIs (item_at 16 (start bytes)) r → Told bytes → (f : Fault) → r ≡ Err f → IsFaulty bytes f
faults_by bytes r h (inl s) f e = absurd (not_both r s.0 f (spanned bytes r h s.0 s.1) e)
faults_by bytes r h (inr g) f e = let is : g.0 ≡ f = same_fault g.0 f (sym (faulted bytes r h g.0 g.1) ∙ e) in subst (λ (k : Fault). IsFaulty bytes k) is g.1

pub spans : (bytes : List ℕ) (r : Result ℕ Fault) → IsBytes bytes → LengthIs (item_at 16 (start bytes)) r → (n : ℕ) → r ≡ Ok n → IsSpan bytes n
spans bytes r fits h n e = spans_by bytes r h (told bytes fits) n e

pub faults : (bytes : List ℕ) (r : Result ℕ Fault) → IsBytes bytes → LengthIs (item_at 16 (start bytes)) r → (f : Fault) → r ≡ Err f → IsFaulty bytes f
faults bytes r fits h f e = faults_by bytes r h (told bytes fits) f e
