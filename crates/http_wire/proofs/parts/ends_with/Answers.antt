use Rattle.std.proofs.lemmas.Bool.Decides.{Decides-eqb}
use Rattle.std.proofs.lemmas.Slice.Eq.{ends_is}
use Rattle.http_wire.proofs.parts.ends_with.Goals as goal

pub returns : goal.returns
returns c = let is = ends_is Decides-eqb c.args.bytes.now c.args.end.now c.ends_with.result c.ends_with.ensures.value in (λ t. (_, is.0 t), λ e. is.1 e.0 e.1)
