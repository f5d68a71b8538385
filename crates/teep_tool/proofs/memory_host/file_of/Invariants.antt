use Rattle.std.proofs.Common.{◌≡◌, drop, nat_eq}
use Rattle.std.specs.List.{find}
use Rattle.std.specs.Cmp.Lexicographic.{pointwise}
use Rattle.teep_tool.proofs.memory_host.file_of.Given as goal

abbrev pub invariant-loop-file : goal.invariant-loop-file
invariant-loop-file l = find (λ file. pointwise nat_eq file.name l.name) (drop l.file-index l.files) ≡ find (λ file. pointwise nat_eq file.name l.name) l.files
