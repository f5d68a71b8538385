use Rattle.std.proofs.Common.{◌≡◌, drop}
use Rattle.wave_core.specs.Ledger.{Ledger}
use Rattle.wave_core.specs.Book.{StandsFor}
use Rattle.wave_core.specs.Law.{RiseInTurn}
use Rattle.wave_core.proofs.InTurn.{Reaches}
use Rattle.wave_core.proofs.laws.any_notes.Given as goal

abbrev pub invariant-loop-note : goal.invariant-loop-note
invariant-loop-note l = record {
  waves : l.book.waves ≡ l.initial.book.waves;
  reaches : (ledger : Ledger) → StandsFor l.initial.book ledger → RiseInTurn ledger l.note-items → Reaches l.book ledger l.note-items (drop l.note-index l.note-items);
}
