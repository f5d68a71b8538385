use Rattle.std.proofs.Common.{◌≤◌, length}
use Rattle.wave_core.specs.Book.{steps_of}
use Rattle.wave_core.proofs.tests.steps_open_as_devices_confirm.Given as goal

abbrev pub invariant-loop-row : goal.invariant-loop-row
invariant-loop-row w l = 2 ≤ length (steps_of l.book.waves 0)
