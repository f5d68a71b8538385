-- How long a public key is (RFC 8554, section 6.1).
use Rattle.std.proofs.Common.{◌≡◌, ℕ, ◌+◌, List, length, ap, ◌∙◌}
use Rattle.std.proofs.lemmas.List.{length-append}
use Rattle.lms_core.proofs.Public.Forms.{key_size}
use Rattle.lms_core.specs.Bytes.{u32_bytes}
use Rattle.hss_verify.specs.Hss.{IsHssPublic}

pub hss_size : (public : List ℕ) → IsHssPublic public → length public ≡ 60
hss_size public is =
    let top : length is.top ≡ 56 = key_size is.top is.known.0 is.known.1 in
    ap length is.spelled ∙ length-append (u32_bytes is.levels) is.top ∙ ap (λ (n : ℕ). 4 + n) top
