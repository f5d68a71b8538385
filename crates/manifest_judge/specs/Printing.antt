-- The printed form of a word.
use Rattle.std.specs.Prelude.{ℕ, List, codes}
use Rattle.manifest_judge.specs.declared.word.Word.{Word}
use Rattle.manifest_judge.specs.declared.word.Word.TheVariants.{Form, Digest, Signature, Sequence, Command, Condition, Payload, Fetches, Image, Owner}

-- its name in small letters
abbrev pub name : Word → List ℕ
name Form = codes "form"
name Digest = codes "digest"
name Signature = codes "signature"
name Sequence = codes "sequence"
name Command = codes "command"
name Condition = codes "condition"
name Payload = codes "payload"
name Fetches = codes "fetches"
name Image = codes "image"
name Owner = codes "owner"
