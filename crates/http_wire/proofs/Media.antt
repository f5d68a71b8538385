-- A media type is shown where it is a text.
use Rattle.std.proofs.Common.{◌≡◌, ℕ, Bool, true, false, cond, List, [], map, refl, sym, ap, ◌∙◌}
use Rattle.std.specs.Char.{to_ascii_lowercase}
use Rattle.std.specs.Str.{IsUtf8, is_utf8}
use Rattle.std.proofs.lemmas.Str.{is_utf8-from_IsUtf8, IsUtf8-from_is_utf8}
use Rattle.http_wire.specs.Verdicts.{lower_media}

pub text_media : (media text shown : List ℕ) → text ≡ media → IsUtf8 media → shown ≡ map to_ascii_lowercase text → shown ≡ lower_media media
text_media media text shown same good is =
    is ∙ ap (λ (l : List ℕ). map to_ascii_lowercase l) same ∙ sym (ap (λ (b : Bool). cond b (map to_ascii_lowercase media) []) (is_utf8-from_IsUtf8 media good))

pub other_media : (media : List ℕ) → ¬ (IsUtf8 media) → (shown : List ℕ) → shown ≡ [] → shown ≡ lower_media media
other_media media bad shown is = is ∙ sym (ap (λ (b : Bool). cond b (map to_ascii_lowercase media) []) (by (is_utf8 media) refl))
  where
    by : (b : Bool) → is_utf8 media ≡ b → is_utf8 media ≡ false
    by true e = absurd (bad (IsUtf8-from_is_utf8 media e))
    by false e = e
