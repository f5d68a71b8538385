use Rattle.std.proofs.Common.{◌≡◌, ◌-◌, [], length, codes}
use Rattle.diag_text.specs.Printed.{hex_byte}
use Rattle.diag_text.specs.Reading.{pieces_at, hex_guess}
use Rattle.diag_text.proofs.scan.read_bytes.Given as goal

abbrev pub invariant-loop : goal.invariant-loop
invariant-loop l = pieces_at hex_byte hex_guess (codes "'") l.at (length l.fn.input.rest - l.counter) l.found l.input ≡ pieces_at hex_byte hex_guess (codes "'") l.at (length l.fn.input.rest) [] l.fn.input
