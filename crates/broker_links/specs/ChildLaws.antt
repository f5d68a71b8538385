-- Reads of a spawner in memory, one behind the other, leave what each of them leaves.
use Rattle.std.specs.Prelude.{Option, Some, None, is_none}
use Rattle.std.proofs.Common.{refl, ◌∙◌, ap, arith}
use Rattle.broker_links.specs.Children.{Started, OnChild, ReadOf}
use Rattle.broker_links.specs.Spawning.{KeepsRead, child_of}
use Rattle.broker_links.specs.declared.memory_spawner.MemorySpawner.{MemorySpawner}

read_none : (c : Option Started) → OnChild ReadOf c c
read_none None = refl
read_none (Some c) = record { program = refl; input = refl; sent = refl; finished = refl; gone = λ e. refl }

read_both : {c d e : Started} → ReadOf c d → ReadOf d e → ReadOf c e
read_both first second = record {
  program = second.program ∙ first.program;
  input = second.input ∙ first.input;
  sent = second.sent ∙ first.sent;
  finished = second.finished ∙ first.finished;
  gone = λ is. second.gone (ap is_none first.finished ∙ is) ∙ first.gone is;
}

child_both : (a b c : Option Started) → OnChild ReadOf a b → OnChild ReadOf b c → OnChild ReadOf a c
child_both None None c first second = second
child_both None (Some b) c first second = grind (arith, first)
child_both (Some a) None c first second = absurd first
child_both (Some a) (Some b) None first second = second
child_both (Some a) (Some b) (Some c) first second = read_both first second

-- no read
pub reads_none : (m : MemorySpawner) → KeepsRead m m
reads_none m = record { setting = record { output = refl; piece = refl; failing = refl }; alone = read_none (child_of m) }

-- a read behind another
pub reads_on : (old mid new : MemorySpawner) → KeepsRead old mid → KeepsRead mid new → KeepsRead old new
reads_on old mid new first second = record {
  setting = record {
    output = second.setting.output ∙ first.setting.output;
    piece = second.setting.piece ∙ first.setting.piece;
    failing = second.setting.failing ∙ first.setting.failing;
  };
  alone = child_both (child_of old) (child_of mid) (child_of new) first.alone second.alone;
}
