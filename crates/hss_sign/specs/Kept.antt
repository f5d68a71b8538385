-- What contracts see of a key, and what it keeps.
use Rattle.std.specs.Prelude.{◌≡◌, ℕ, ◌≤◌, List, Option, IfSome}
use Rattle.hss_sign.specs.declared.params.KeyParams.{KeyParams}
use Rattle.hss_sign.specs.declared.tree.Tree.{Tree}
use Rattle.hss_sign.specs.declared.key.Lower.{Lower}
use Rattle.hss_sign.specs.Params.{IsProperParams}
use Rattle.hss_sign.specs.Secrets.{lower_secret, top_secret}
use Rattle.hss_sign.specs.Sign.{public_of, signed_key}
use Rattle.hss_sign.specs.Trees.{IsGrown}

-- a key is its parameters and its seed, whatever it keeps
pub record HssKey : Type 0 where
  pub params : KeyParams
  pub seed : List ℕ

-- what is kept is the tree below its leaf of the top tree, and the signed public key of that tree
pub record IsLower (params : KeyParams) (seed : List ℕ) (lower : Lower) : Type 0 where
  pub secret : lower.tree.secret ≡ lower_secret (top_secret seed) lower.leaf
  pub grown : IsGrown params (lower_secret (top_secret seed) lower.leaf) lower.tree.nodes.items
  pub signed : lower.signed.items ≡ signed_key params seed lower.leaf

-- what a key keeps is what its parameters and its seed give
pub record IsKept (params : KeyParams) (seed : List ℕ) (workers : ℕ) (public : List ℕ) (top : Tree) (lower : Option Lower) : Type 0 where
  pub proper : IsProperParams params
  pub workers_some : 1 ≤ workers
  pub public_key : public ≡ public_of params seed
  pub secret : top.secret ≡ top_secret seed
  pub grown : IsGrown params (top_secret seed) top.nodes.items
  pub below : IfSome lower (IsLower params seed)
