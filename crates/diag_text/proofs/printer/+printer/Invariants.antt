use Rattle.std.proofs.Common.{◌≡◌, ◌++◌, string_bytes, take}
use Rattle.diag_text.specs.Printed.{listed, printed, pair_printed}
use Rattle.diag_text.proofs.printer.+printer.Given as goal

abbrev pub invariant-push_members-loop-index : goal.invariant-push_members-loop-index
invariant-push_members-loop-index l = string_bytes l.out ≡ string_bytes l.fn.out ++ listed printed (take l.index l.members)

abbrev pub invariant-push_pairs-loop-index : goal.invariant-push_pairs-loop-index
invariant-push_pairs-loop-index l = string_bytes l.out ≡ string_bytes l.fn.out ++ listed pair_printed (take l.index l.pairs)
