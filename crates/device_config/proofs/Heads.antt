-- The head of an image, part by part.
use Rattle.std.proofs.Common.{◌≡◌, ◌≤◌, ◌<◌, ◌+◌, ◌-◌, ◌^◌, ℕ, zero, suc, true, false, List, [], ◌∷◌, ◌++◌, length, take, drop, codes, replicate, nat_eq, refl, sym, ap, ◌∙◌, arith}
use Rattle.std.specs.Int.{to_be_bytes, w32}
use Rattle.std.specs.Cmp.Lexicographic.{pointwise, same_text, other_text}
use Rattle.std.proofs.Math.Dec.{eqb-suc-zero}
use Rattle.std.specs.Int.{from_be_bytes}
use Rattle.std.proofs.lemmas.Nat.{from_be_bytes-to_be_bytes_4}
use Rattle.std.proofs.lemmas.List.{length-append, take-append-drop, take_at, drop_at}
use Rattle.device_config.specs.declared.config.TheConstants.{CONFIG_LIMIT}
use Rattle.device_config.specs.Image.{IsHead, head_bytes}
use Rattle.device_config.specs.Zeros.{all_zeros}

zeros_are : (bytes : List ℕ) → all_zeros bytes ≡ true → bytes ≡ replicate (length bytes) 0
zeros_are [] all = refl
zeros_are (zero ∷ bytes) all = ap (λ (l : List ℕ). 0 ∷ l) (zeros_are bytes all)
zeros_are (suc b ∷ bytes) all =
    let step : all_zeros (suc b ∷ bytes) ≡ false = rw (eqb-suc-zero b) refl in
    absurd (let wrong : false ≡ true = sym step ∙ all in cc)

are_zeros : (n : ℕ) → all_zeros (replicate n 0) ≡ true
are_zeros zero = refl
are_zeros (suc n) = are_zeros n

-- ---- a front that is taken off

pub stripped : (front bytes rest : List ℕ) → pointwise nat_eq (take (length front) bytes) front ≡ true → rest ≡ drop (length front) bytes → bytes ≡ front ++ rest
stripped front bytes rest same is =
    let front_is : take (length front) bytes ≡ front = same_text (take (length front) bytes) front (sym same) in
    sym (take-append-drop (length front) bytes) ∙ rw (front_is, is) refl

pub not_stripped : (front bytes : List ℕ) → pointwise nat_eq (take (length front) bytes) front ≡ false → (rest : List ℕ) → bytes ≡ front ++ rest → ⊥
not_stripped front bytes other rest is =
    let front_is : take (length front) bytes ≡ front = ap (take (length front)) is ∙ take_at front rest (length front) refl in
    other_text (take (length front) bytes) front (sym other) front_is

-- ---- the whole head

module _ (head rest rest2 rest3 config zeros : List ℕ) (n : ℕ) (marked : head ≡ codes "TEEPIMG1" ++ rest) (laid_out : rest ≡ to_be_bytes w32 1 ++ rest2)
    (sized : rest2 ≡ to_be_bytes w32 n ++ rest3) (parted : rest3 ≡ config ++ zeros) (config_size : length config ≡ n) where
  whole : head ≡ codes "TEEPIMG1" ++ (to_be_bytes w32 1 ++ (to_be_bytes w32 n ++ (config ++ zeros)))
  whole = rw (marked, laid_out, sized, parted) refl

  pub head_is : n ≤ CONFIG_LIMIT → length head ≡ 65536 → all_zeros zeros ≡ true → IsHead config head
  head_is short head_size all =
      let mark : length (codes "TEEPIMG1") ≡ 8 = refl in
      let layout : length (to_be_bytes w32 1) ≡ 4 = refl in
      let number : length (to_be_bytes w32 n) ≡ 4 = refl in
      let size : length head ≡ 16 + (length config + length zeros) = omega (
        arith,
        ap length whole,
        mark,
        layout,
        number,
        length-append (codes "TEEPIMG1") (to_be_bytes w32 1 ++ (to_be_bytes w32 n ++ (config ++ zeros))),
        length-append (to_be_bytes w32 1) (to_be_bytes w32 n ++ (config ++ zeros)),
        length-append (to_be_bytes w32 n) (config ++ zeros),
        length-append config zeros,
      ) in
      let left : length zeros ≡ CONFIG_LIMIT - length config = omega (arith, size, head_size, config_size, short) in
      let zeros_is : zeros ≡ replicate (CONFIG_LIMIT - length config) 0 = zeros_are zeros all ∙ ap (λ (k : ℕ). replicate k 0) left in
      record {
        short = omega (arith, config_size, short);
        spelled = whole ∙ rw (sym config_size, zeros_is) refl;
      }

  pub no_head : n < 2 ^ 32 → all_zeros zeros ≡ false → (v : List ℕ) → IsHead v head → ⊥
  no_head fits not_all v is =
      let more = v ++ replicate (CONFIG_LIMIT - length v) 0 in
      let both : codes "TEEPIMG1" ++ (to_be_bytes w32 1 ++ (to_be_bytes w32 n ++ (config ++ zeros))) ≡ head_bytes v = sym whole ∙ is.spelled in
      let behind : to_be_bytes w32 n ++ (config ++ zeros) ≡ to_be_bytes w32 (length v) ++ more = ap (drop 12) both in
      let numbers : to_be_bytes w32 n ≡ to_be_bytes w32 (length v) = ap (take 4) behind in
      let short : length v < 2 ^ 32 = omega (arith, is.short) in
      let n_is : n ≡ length v = sym (from_be_bytes-to_be_bytes_4 n fits) ∙ ap (from_be_bytes w32) numbers ∙ from_be_bytes-to_be_bytes_4 (length v) short in
      let bodies : config ++ zeros ≡ more = ap (drop 4) behind in
      let ends : zeros ≡ replicate (CONFIG_LIMIT - length v) 0 =
      sym (drop_at config zeros n config_size) ∙ ap (drop n) bodies ∙ drop_at v (replicate (CONFIG_LIMIT - length v) 0) n (sym n_is) in
      let all : all_zeros zeros ≡ true = ap all_zeros ends ∙ are_zeros (CONFIG_LIMIT - length v) in
      let wrong : false ≡ true = sym not_all ∙ all in
      cc

-- behind the mark another layout stands
pub no_layout : (head rest layout : List ℕ) → head ≡ codes "TEEPIMG1" ++ rest → layout ≡ to_be_bytes w32 1 → ((more : List ℕ) → rest ≡ layout ++ more → ⊥) → (v : List ℕ) → IsHead v head → ⊥
no_layout head rest layout marked layout_is none v is =
    let more = to_be_bytes w32 (length v) ++ (v ++ replicate (CONFIG_LIMIT - length v) 0) in
    let both : codes "TEEPIMG1" ++ rest ≡ head_bytes v = sym marked ∙ is.spelled in
    let behind : rest ≡ to_be_bytes w32 1 ++ more = ap (drop 8) both in
    none more (behind ∙ ap (λ (l : List ℕ). l ++ more) (sym layout_is))
