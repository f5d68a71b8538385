-- The ends of the chains of a one-time signature, joined.
use Rattle.std.proofs.Common.{◌≡◌, ℕ, ◌-◌, ◌*◌, ◌^◌, ◌<◌, List, [], length, refl, sym, ◌∙◌, ap}
use Rattle.std.specs.Prelude.{map, slice_index_or}
use Rattle.std.specs.List.{concat, range_with_len}
use Rattle.std.proofs.lemmas.List.FromFn.{fill_by_all}
use Rattle.lms_core.specs.Chains.{chain}
use Rattle.lms_core.specs.Digits.{coef}
use Rattle.lms_core.specs.OneTime.{chain_end}
use Rattle.lms_core.specs.Layout.{hashes_in}
use Rattle.lms_core.proofs.Public.Hashes.{concat-hashes_in, get_or-hashes_in, length-hashes_in}
use Rattle.lms_core.proofs.Slots.{slot}

-- bytes whose strings are the ends of the chains
pub ends_joined : (identifier : List ℕ) (q w : ℕ) (string ys bytes : List ℕ) (n : ℕ) → length bytes ≡ 32 * n → ((i : ℕ) → i < n → slot bytes i ≡ chain_end identifier q w string i (slot ys i))
    → bytes ≡ concat (map (λ i. chain_end identifier q w string i (slice_index_or (hashes_in n ys) i [])) (range_with_len 0 n))
ends_joined identifier q w string ys bytes n size ends =
    let end : ℕ → List ℕ = λ i. chain_end identifier q w string i (slice_index_or (hashes_in n ys) i []) in
    let each : (i : ℕ) → i < n → slice_index_or (hashes_in n bytes) i [] ≡ end i = λ i h.
    get_or-hashes_in n i bytes h ∙ ends i h ∙ ap (chain_end identifier q w string i) (sym (get_or-hashes_in n i ys h)) in
    sym (concat-hashes_in n bytes size) ∙ ap concat (fill_by_all end (hashes_in n bytes) n [] (length-hashes_in n bytes) each)

-- a chain up to the largest digit ends there
pub end_is : (identifier : List ℕ) (q w : ℕ) (string : List ℕ) (i largest digit : ℕ) (y y' z : List ℕ) → z ≡ chain identifier q i digit (largest - digit) y → largest ≡ 2 ^ w - 1
    → digit ≡ coef string i w → y ≡ y' → z ≡ chain_end identifier q w string i y'
end_is identifier q w string i largest digit y y' z end largest_is digit_is same = end ∙ rw (largest_is, digit_is, same) refl
