use Rattle.std.proofs.Common.{sym, ◌∙◌}
use Rattle.wave_core.proofs.Shapes.{size_there, size_none}
use Rattle.wave_core.proofs.wave.Wave.size_of.Goals as goal

pub returns-in-Some : goal.returns-in-Some
returns-in-Some c = c.len.ensures ∙ size_there c.args.self.now.steps c.args.step c.in-Some.step.now (sym c.in-Some.ensures.value)

pub returns-in-None : goal.returns-in-None
returns-in-None c = size_none c.args.self.now.steps c.args.step (sym c.in-None.ensures.value)
