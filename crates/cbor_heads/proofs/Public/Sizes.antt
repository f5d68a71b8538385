-- How long a head is at most.
use Rattle.std.proofs.Common.{ℕ, ◌≤◌, length, arith, inl, inr}
use Rattle.std.proofs.lemmas.Bool.{cases_lt}
use Rattle.cbor_heads.specs.Head.{head}
use Rattle.cbor_heads.proofs.Public.Heads.{head_short, head_8, head_16, head_32, head_64}

-- a head has nine bytes at most (RFC 8949, section 3)
pub head_size : (major n : ℕ) → length (head major n) ≤ 9
head_size major n = elim (cases_lt n 24) [
  | inl short ↦ rw (head_short major n short) (omega arith)
  | inr long ↦ elim (cases_lt n 256) [
    | inl one ↦ rw (head_8 major n long one) (omega arith)
    | inr long1 ↦ elim (cases_lt n 65536) [
      | inl two ↦ rw (head_16 major n long1 two) (omega arith)
      | inr long2 ↦ elim (cases_lt n 4294967296) [
        | inl four ↦ rw (head_32 major n long2 four) (omega arith)
        | inr long4 ↦ rw (head_64 major n long4) (omega arith)
      ]
    ]
  ]
]
