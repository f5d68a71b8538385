-- A number of 64 bits is at most two to a power of 64 and more.
use Rattle.std.proofs.Common.{◌≡◌, ℕ, ◌<◌, ◌≤◌, ◌^◌, ◌*◌, true, ◌↔◌, subst, sym, arith}
use Rattle.std.specs.Prelude.{IsTrue, nat_le}
use Rattle.std.proofs.lemmas.Bool.{le-leb}
use native.Mathlib.Nat.{pow-le-pow_right}
use Rattle.hss_sign.specs.declared.params.KeyParams.{KeyParams}
use Rattle.hss_sign.specs.Params.{capacity}

pub many : (params : KeyParams) (leaves bits : ℕ) → leaves < 2 ^ 64 → bits ≡ params.levels * params.height → 64 ≤ bits → IsTrue (nat_le 64 bits) ↔ (leaves ≤ capacity params)
many params leaves bits fits is least =
    let power : 2 ^ 64 ≤ 2 ^ bits = pow-le-pow_right {n = 2} (omega arith) least in
    let within : leaves ≤ 2 ^ bits = omega arith in (
      λ _. subst (λ (n : ℕ). leaves ≤ 2 ^ n) is within,
      λ _. le-leb 64 bits least,
    )
