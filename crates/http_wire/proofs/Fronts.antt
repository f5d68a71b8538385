-- Fronts of one list: heads that end, and bytes in which no head does.
use Rattle.std.proofs.Common.{◌≡◌, ℕ, List, [], ◌∷◌, ◌++◌, length, refl, sym, ap, ◌∙◌, arith, append-nil, length-append}
use Rattle.outside_core.specs.Stream.{Stream, Took}
use Rattle.http_wire.specs.Ends.{EndsInEmptyLine, HasNoEnd, EndsHead}
use Rattle.http_wire.specs.Parts.{IsHead, IsHeadless}

-- of two fronts of one list, one begins the other
pub data Fronts (a r b s : List ℕ) : Type 0 where
  longer : (m : List ℕ) → a ≡ b ++ m → s ≡ m ++ r → Fronts a r b s
  shorter : (m : List ℕ) → b ≡ a ++ m → r ≡ m ++ s → Fronts a r b s

pub fronts : (a r b s : List ℕ) → a ++ r ≡ b ++ s → Fronts a r b s
fronts [] r b s e = shorter b refl e
fronts (x ∷ a) r [] s e = longer (x ∷ a) refl (sym e)
fronts (x ∷ a) r (y ∷ b) s e =
    let h : x ≡ y = cc in
    let t : a ++ r ≡ b ++ s = cc in
    elim (fronts a r b s t) as (λ _. Fronts (x ∷ a) r (y ∷ b) s) [
      | longer m p q ↦ longer m (λ i. h i ∷ p i) q
      | shorter m p q ↦ shorter m (λ i. sym h i ∷ p i) q
    ]

-- a head does not go on behind an end
no_more : (a b m : List ℕ) → EndsHead a → EndsInEmptyLine b → a ≡ b ++ m → a ≡ b
no_more a b [] is end e = e ∙ append-nil b
no_more a b (x ∷ m) is end e = absurd (is.first b m x e end)

pub heads_same : (a r b s : List ℕ) → EndsHead a → EndsHead b → a ++ r ≡ b ++ s → a ≡ b
heads_same a r b s is other e = elim (fronts a r b s e) as (λ _. a ≡ b) [
  | longer m p q ↦ no_more a b m is other.ends p
  | shorter m p q ↦ sym (no_more b a m other is.ends p)
]

-- no head within the limit begins bytes of that length in which none ends
pub not_headless : (head r bytes s : List ℕ) → IsHead head → IsHeadless bytes → head ++ r ≡ bytes ++ s → ⊥
not_headless head r bytes s is none e = elim (fronts head r bytes s e) as (λ _. ⊥) [
  | longer m p q ↦
      let empty : length m ≡ 0 = omega (arith, is.within, none.size, ap length p, length-append bytes m) in
      none.endless head [] (elim m as (λ l. head ≡ bytes ++ l → length l ≡ 0 → bytes ≡ head ++ []) [
        | [] ↦ λ p' z. sym (append-nil bytes) ∙ sym p' ∙ sym (append-nil head)
        | y ∷ l ↦ λ p' z. absurd (omega (arith, z))
      ] p empty) is.ends.ends
  | shorter m p q ↦ none.endless head m p is.ends.ends
]

pub not_part : (head r bytes : List ℕ) → IsHead head → HasNoEnd bytes → head ++ r ≡ bytes → ⊥
not_part head r bytes is none e = none head r (sym e) is.ends.ends

nil_of : (m : List ℕ) → length m ≡ 0 → m ≡ []
nil_of [] z = refl
nil_of (x ∷ m) z = absurd (omega (arith, z))

-- what stands behind two fronts of one length is the same
pub behind_same : (a r b s : List ℕ) → length a ≡ length b → a ++ r ≡ b ++ s → r ≡ s
behind_same a r b s size e = elim (fronts a r b s e) as (λ _. r ≡ s) [
  | longer m p q ↦ sym (q ∙ ap (λ (l : List ℕ). l ++ r) (nil_of m (omega (arith, size, ap length p, length-append b m))))
  | shorter m p q ↦ q ∙ ap (λ (l : List ℕ). l ++ s) (nil_of m (omega (arith, size, ap length p, length-append a m)))
]

-- what is left says what was taken
pub one_stream : {a b : List ℕ} {old x y : Stream} → Took a old x → Took b old y → x.rest ≡ y.rest → x ≡ y
one_stream {a} {b} {old} {x} {y} s t e =
    let taken : x.taken ≡ y.taken = omega (arith, s.taken, t.taken, ap length s.front, ap length t.front, ap length e, length-append a x.rest, length-append b y.rest) in
    λ i. record { taken = taken i; rest = e i; sent = (s.sent ∙ sym t.sent) i }
