-- The first byte of a head.
use Rattle.std.proofs.Common.{◌≡◌, ℕ, ◌+◌, ◌*◌, ◌<◌, ◌≤◌, List, [], ◌∷◌, refl, arith, inl, inr}
use Rattle.std.specs.Int.{to_be_bytes, w8, w16, w32, w64}
use Rattle.std.proofs.lemmas.Bool.{cases_lt}
use Rattle.cbor_heads.specs.Head.{head}
use Rattle.cbor_heads.proofs.Public.Heads.{head_short, head_8, head_16, head_32, head_64}

-- the major type, and with it the argument where that is short
pub record Front (major n : ℕ) : Type 0 where
  pub first : ℕ
  pub more : List ℕ
  pub is : head major n ≡ first ∷ more
  pub low : 32 * major ≤ first
  pub high : first < 32 * major + 32
  pub short : first < 32 * major + 24 → first ≡ 32 * major + n

pub head_front : (major n : ℕ) → Front major n
head_front major n = elim (cases_lt n 24) [
  | inl short ↦ record { first = 32 * major + n; more = []; is = head_short major n short; low = omega arith; high = omega arith; short = λ lt. refl }
  | inr long ↦ elim (cases_lt n 256) [
    | inl one ↦ record { first = 32 * major + 24; more = to_be_bytes w8 n; is = head_8 major n long one; low = omega arith; high = omega arith; short = λ lt. omega arith }
    | inr long1 ↦ elim (cases_lt n 65536) [
      | inl two ↦ record { first = 32 * major + 25; more = to_be_bytes w16 n; is = head_16 major n long1 two; low = omega arith; high = omega arith; short = λ lt. omega arith }
      | inr long2 ↦ elim (cases_lt n 4294967296) [
        | inl four ↦ record { first = 32 * major + 26; more = to_be_bytes w32 n; is = head_32 major n long2 four; low = omega arith; high = omega arith; short = λ lt. omega arith }
        | inr long4 ↦ record { first = 32 * major + 27; more = to_be_bytes w64 n; is = head_64 major n long4; low = omega arith; high = omega arith; short = λ lt. omega arith }
      ]
    ]
  ]
]
