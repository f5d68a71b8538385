-- How many replies have begun, by the bytes that are out.
use Rattle.std.proofs.Common.{◌≡◌, ℕ, zero, suc, ◌+◌, ◌-◌, ◌<◌, ◌≤◌, ◌⊎◌, List, [], ◌∷◌, ◌++◌, length, refl, ap, inl, inr, arith, length-append}
use Rattle.std.proofs.lemmas.Bool.Decides.{nat_tests}
use Rattle.std.specs.List.{flat_map}
use Rattle.frames.specs.Frames.{Frame, frame_bytes}
use Rattle.turn_loop.specs.Promised.{begun}

begun-none : (frames : List Frame) (n : ℕ) → n ≡ 0 → begun frames n ≡ 0
begun-none [] n none = refl
begun-none (f ∷ fs) n none = grind (arith, nat_tests)

begun-some : (f : Frame) (fs : List Frame) (n : ℕ) → 0 < n → begun (f ∷ fs) n ≡ 1 + begun fs (n - length (frame_bytes f))
begun-some f fs n some = grind (arith, nat_tests)

length-more : (f : Frame) (fs : List Frame) → length (flat_map frame_bytes (f ∷ fs)) ≡ length (frame_bytes f) + length (flat_map frame_bytes fs)
length-more f fs = length-append (frame_bytes f) (flat_map frame_bytes fs)

zero_or : (n : ℕ) → (n ≡ 0) ⊎ (0 < n)
zero_or zero = inl refl
zero_or (suc n) = inr (omega arith)

-- a list that is not empty has a last item
last_of : (x : Frame) (xs : List Frame) → (first : List Frame) × (last : Frame) × (x ∷ xs ≡ first ++ last ∷ [])
last_of x [] = ([], x, refl)
last_of x (y ∷ ys) = let more = last_of y ys in (x ∷ more.0, more.1, ap (λ (l : List Frame). x ∷ l) more.2)

-- where the replies but the last are out, and no more than all of them, the last is the next to begin, or has begun
pub begun_cut : (replies : List Frame) (n : ℕ) → ((first : List Frame) (last : Frame) → replies ≡ first ++ last ∷ [] → length (flat_map frame_bytes first) ≤ n)
    → n ≤ length (flat_map frame_bytes replies) → (length replies ≡ begun replies n) ⊎ (length replies ≡ begun replies n + 1)
begun_cut [] n low high = inl refl
begun_cut (f ∷ []) n low high = elim (zero_or n) [
  | inl none ↦ let b : begun (f ∷ []) n ≡ 0 = begun-none (f ∷ []) n none in inr (omega arith)
  | inr more ↦ let b = begun-some f [] n more in inl (omega arith)
]
begun_cut (f ∷ g ∷ gs) n low high =
    let size = length (frame_bytes f) in
    let end = last_of g gs in
    let low_here : size + length (flat_map frame_bytes end.0) ≤ n = omega (arith, low (f ∷ end.0) end.1 (ap (λ (l : List Frame). f ∷ l) end.2), length-more f end.0) in
    let b = begun-some f (g ∷ gs) n (omega (arith, low_here)) in
    elim (begun_cut (g ∷ gs) (n - size) (λ first last is. omega (arith, low (f ∷ first) last (ap (λ (l : List Frame). f ∷ l) is), length-more f first)) (omega (arith, high, length-more f (g ∷ gs)))) [
      | inl is ↦ inl (omega arith)
      | inr is ↦ inr (omega arith)
    ]
