-- The printed form of a role.
use Rattle.std.specs.Prelude.{ℕ, List, codes}
use Rattle.trust_anchors.specs.declared.role.Role.{Role}
use Rattle.trust_anchors.specs.declared.role.Role.TheVariants as role

-- the name of a role
abbrev pub name : Role → List ℕ
name role.Manager = codes "manager"
name role.Author = codes "author"
