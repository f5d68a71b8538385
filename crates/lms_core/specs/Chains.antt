-- The hash chains of LM-OTS (RFC 8554, 4.3 to 4.6).
use Rattle.std.specs.Prelude.{ℕ, zero, suc, ◌+◌, List, ◌∷◌, ◌++◌}
use Rattle.sha2.specs.Sha256.{sha256}
use Rattle.lms_core.specs.Bytes.{u16_bytes, u32_bytes}

-- step j of chain i: H(I || u32str(q) || u16str(i) || u8str(j) || tmp)
abbrev pub chain_step : List ℕ → ℕ → ℕ → ℕ → List ℕ → List ℕ
chain_step identifier q i j tmp = sha256 (identifier ++ u32_bytes q ++ u16_bytes i ++ j ∷ tmp)

-- chain i after so many steps from the value at digit a
unfoldable pub chain : List ℕ → ℕ → ℕ → ℕ → ℕ → List ℕ → List ℕ
chain identifier q i a zero start = start
chain identifier q i a (suc steps) start =
    chain_step identifier q i (a + steps) (chain identifier q i a steps start)
