-- The test of UTF-8 and what it tells.
use Rattle.std.proofs.Common.{◌≡◌, ℕ, Bool, true, false, List, refl}
use Rattle.std.specs.Str.{is_utf8, IsUtf8}
use Rattle.std.proofs.lemmas.Str.{is_utf8-from_IsUtf8, IsUtf8-from_is_utf8}

utf8_by : (bs : List ℕ) (b : Bool) → is_utf8 bs ≡ b → ¬ (IsUtf8 bs) → is_utf8 bs ≡ false
utf8_by bs true e wrong = absurd (wrong (IsUtf8-from_is_utf8 bs e))
utf8_by bs false e wrong = e

pub not_utf8 : (bs : List ℕ) → ¬ (IsUtf8 bs) → is_utf8 bs ≡ false
not_utf8 bs wrong = utf8_by bs (is_utf8 bs) refl wrong

pub ruleset texts = (is_utf8-from_IsUtf8, not_utf8)
