-- Bytes of which there are so many at most.
use Rattle.std.proofs.Common.{◌⊎◌, ℕ, zero, suc, ◌+◌, ◌-◌, ◌*◌, ◌<◌, ◌≤◌, List, [], ◌∷◌, ◌++◌, length, get_or, take, inl, inr, refl, arith}
use Rattle.std.specs.Int.{byte_at, bytes_high_first}
use Rattle.std.specs.List.{AllByRecursion, concat}
use Rattle.std.proofs.lemmas.Bool.{cases_lt}
use Rattle.std.proofs.lemmas.List.{length-append, length-take, get_or_append_left, get_or-append_right}
use Rattle.base_types.specs.Bytes.{IsBytes}
use Rattle.base_types.proofs.Public.Bytes.{IsBytes-take}
use Rattle.lms_core.specs.Bytes.{u32_bytes}

-- these are bytes, and there are so many at most
pub record IsShort (most : ℕ) (bytes : List ℕ) : Type 0 where
  pub are : IsBytes bytes
  pub len : length bytes ≤ most

none_at : (i : ℕ) → get_or [] i 0 < 256
none_at i = omega arith

pub none : IsShort 0 []
none = record { are = none_at; len = omega arith }

both_at : (a b : List ℕ) (i : ℕ) → IsBytes a → IsBytes b → (i < length a) ⊎ (length a ≤ i) → get_or (a ++ b) i 0 < 256
both_at a b i first second (inl h) = rw (get_or_append_left a b 0 i h) (first i)
both_at a b i first second (inr h) = rw (get_or-append_right a b (length a) i 0 refl h) (second (i - length a))

-- one list behind another
pub both : {m n : ℕ} {a b : List ℕ} → IsShort m a → IsShort n b → IsShort (m + n) (a ++ b)
both {m} {n} {a} {b} first second = record {
  are = λ i. both_at a b i first.are second.are (cases_lt i (length a));
  len = rw (length-append a b) (omega (arith, first.len, second.len));
}

-- more may be there
pub wider : {m : ℕ} {bytes : List ℕ} (n : ℕ) → m ≤ n → IsShort m bytes → IsShort n bytes
wider n less short = record { are = short.are; len = omega (arith, less, short.len) }

-- a front
pub front : {m : ℕ} {bytes : List ℕ} (n : ℕ) → IsShort m bytes → IsShort n (take n bytes)
front {m} {bytes} n short = record { are = IsBytes-take n bytes short.are; len = omega (arith, length-take n bytes) }

-- strings of one hash each, one behind the other
pub all : (strings : List (List ℕ)) → AllByRecursion (IsShort 32) strings → IsShort (32 * length strings) (concat strings)
all [] each = none
all (string ∷ strings) each = wider (32 * suc (length strings)) (omega arith) (both each.0 (all strings each.1))

one_at : (b : ℕ) (bytes : List ℕ) (i : ℕ) → b < 256 → IsBytes bytes → get_or (b ∷ bytes) i 0 < 256
one_at b bytes zero low are = low
one_at b bytes (suc i) low are = are i

-- one byte more in front
pub one : {m : ℕ} {bytes : List ℕ} (b : ℕ) → b < 256 → IsShort m bytes → IsShort (suc m) (b ∷ bytes)
one {m} {bytes} b low short = record { are = λ i. one_at b bytes i low short.are; len = omega (arith, short.len) }

byte_low : (i n : ℕ) → byte_at i n < 256
byte_low zero n = omega arith
byte_low (suc i) n = omega arith

-- the lowest bytes of a number
pub bytes_of_number : (k n : ℕ) → IsShort k (bytes_high_first k n)
bytes_of_number zero n = none
bytes_of_number (suc k) n = one (byte_at k n) (byte_low k n) (bytes_of_number k n)

-- four of them
pub four : (n : ℕ) → IsShort 4 (u32_bytes n)
four n = bytes_of_number 4 n
