-- What a seed gives (RFC 8554, appendix A).
use Rattle.std.specs.Prelude.{ℕ, List, ◌∷◌, take}
use Rattle.sha2.specs.Sha256.{sha256}
use Rattle.lms_core.specs.Chains.{chain_step}
use Rattle.hss_sign.specs.declared.secrets.TreeSecret.{TreeSecret}

-- what a tree's seed gives at leaf q and a number i: H(I || u32str(q) || u16str(i) || 0xff || SEED) (RFC 8554, appendix A)
abbrev pub secret_at : TreeSecret → ℕ → ℕ → List ℕ
secret_at tree q i = chain_step tree.identifier q i 0xff tree.seed

-- the top tree of a key seed: I is the first 16 bytes of H(0x49 || seed), and SEED is H(0x53 || seed)
abbrev pub top_secret : List ℕ → TreeSecret
top_secret seed = record { identifier = take 16 (sha256 (0x49 ∷ seed)); seed = sha256 (0x53 ∷ seed) }

-- the tree below leaf t of the top tree: I from the number 0xfffc, and SEED from 0xfffe
abbrev pub lower_secret : TreeSecret → ℕ → TreeSecret
lower_secret top t = record { identifier = take 16 (secret_at top t 0xfffc); seed = secret_at top t 0xfffe }
