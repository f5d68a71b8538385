-- The printed form of a fault.
use Rattle.std.specs.Prelude.{ℕ, List, ◌++◌, codes, decimal}
use Rattle.cbor_heads.specs.declared.fault.Fault.{Fault}
use Rattle.cbor_heads.specs.declared.fault.Why.{Why}
use Rattle.cbor_heads.specs.declared.fault.Why.TheVariants as why

-- a cause by its name
abbrev pub name : Why → List ℕ
name why.CutHead = codes "CutHead"
name why.CutBody = codes "CutBody"
name why.BadInfo = codes "BadInfo"
name why.LongForm = codes "LongForm"
name why.BadText = codes "BadText"
name why.KeyOrder = codes "KeyOrder"
name why.BadSimple = codes "BadSimple"
name why.TooDeep = codes "TooDeep"
name why.Extra = codes "Extra"

-- the cause, and its place in decimal
abbrev pub text : Fault → List ℕ
text f = name f.why ++ codes " at " ++ decimal f.at
