use Rattle.std.specs.Prelude.{Ok, Err}
use Rattle.suit_commands.specs.declared.fault.SequenceFault.TheVariants.{NoMemory}
use Rattle.suit_envelope.specs.Plans.{plan_of}
use Rattle.suit_envelope.proofs.Tells.{found, only, bad}
use Rattle.suit_envelope.proofs.manifest.Manifest.commands.Goals as goal

pub returns-clause-found : goal.returns-clause-found
returns-clause-found c = found NoMemory (plan_of c.args.self.now) c.read_plan.result c.read_plan.ensures

pub returns-clause-only : goal.returns-clause-only
returns-clause-only c = λ plan is. only NoMemory (plan_of c.args.self.now) c.read_plan.result (Ok plan) c.read_plan.ensures is

pub returns-clause-bad : goal.returns-clause-bad
returns-clause-bad c = bad NoMemory (plan_of c.args.self.now) c.read_plan.result c.read_plan.ensures

pub returns-clause-refused : goal.returns-clause-refused
returns-clause-refused c = λ fault is. only NoMemory (plan_of c.args.self.now) c.read_plan.result (Err fault) c.read_plan.ensures is
