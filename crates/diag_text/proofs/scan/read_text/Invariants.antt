use Rattle.std.proofs.Common.{◌≡◌, ◌-◌, [], length, codes}
use Rattle.diag_text.specs.Printed.{escaped}
use Rattle.diag_text.specs.Reading.{pieces_at, text_guess}
use Rattle.diag_text.proofs.scan.read_text.Given as goal

abbrev pub invariant-loop : goal.invariant-loop
invariant-loop l = pieces_at escaped text_guess (codes "\"") l.at (length l.fn.input.rest - l.counter) l.found l.input ≡ pieces_at escaped text_guess (codes "\"") l.at (length l.fn.input.rest) [] l.fn.input
