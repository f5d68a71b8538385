-- The passes of a run as the code goes through them.
use Rattle.std.specs.Prelude.{List, [], ◌∷◌, Option, Some, None}
use Rattle.suit_engine.specs.declared.pass.Pass.{Pass}
use Rattle.suit_engine.specs.declared.pass.Pass.TheVariants.{SharedBeforeFetch, Fetch, SharedBeforeInstall, Install, SharedBeforeValidate, Validate}

-- the pass behind one
abbrev pub next : Pass → Option Pass
next SharedBeforeFetch = Some Fetch
next Fetch = Some SharedBeforeInstall
next SharedBeforeInstall = Some Install
next Install = Some SharedBeforeValidate
next SharedBeforeValidate = Some Validate
next Validate = None

-- all passes behind one
abbrev pub behind : Pass → List Pass
behind SharedBeforeFetch = Fetch ∷ SharedBeforeInstall ∷ Install ∷ SharedBeforeValidate ∷ Validate ∷ []
behind Fetch = SharedBeforeInstall ∷ Install ∷ SharedBeforeValidate ∷ Validate ∷ []
behind SharedBeforeInstall = Install ∷ SharedBeforeValidate ∷ Validate ∷ []
behind Install = SharedBeforeValidate ∷ Validate ∷ []
behind SharedBeforeValidate = Validate ∷ []
behind Validate = []
