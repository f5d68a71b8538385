use Rattle.std.proofs.Common.{◌≡◌, ◌++◌, IsUtf8, string_bytes}
use Rattle.std.specs.List.{flat_map}
use Rattle.std.specs.Str.Iter.{chars_rest}
use Rattle.diag_text.specs.Printed.{escaped}
use Rattle.diag_text.proofs.printer.push_text.Given as goal

abbrev pub invariant-loop-c : goal.invariant-loop-c
invariant-loop-c l = IsUtf8 (chars_rest l.c-iterator) × (string_bytes l.out ++ flat_map escaped (chars_rest l.c-iterator) ≡ string_bytes l.fn.out ++ flat_map escaped l.fn.text)
