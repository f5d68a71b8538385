-- Notes in a row.
use Rattle.std.proofs.Common.{◌≡◌, List, ◌∷◌}
use Rattle.wave_core.specs.declared.note.Note.{Note}
use Rattle.wave_core.specs.Ledger.{Ledger, Rises, raised}
use Rattle.wave_core.specs.Book.{Book, StandsFor}
use Rattle.wave_core.specs.Law.{RiseInTurn, after_all}

-- the book stands for a ledger in which the notes that are left rise in turn, and they leave what all leave
pub record Reaches (book : Book) (ledger : Ledger) (all left : List Note) : Type 0 where
  pub now : Ledger
  pub stands : StandsFor book now
  pub rise : RiseInTurn now left
  pub ends : after_all now left ≡ after_all ledger all

-- one note on
pub one_on : (before after : Book) (ledger : Ledger) (all left : List Note) (note : Note) → Reaches before ledger all (note ∷ left)
    → ((l : Ledger) → StandsFor before l → Rises l note.device note.id note.before note.after → StandsFor after (raised note.device note.id note.after l))
    → Reaches after ledger all left
one_on before after ledger all left note reaches noted = record {
  now = raised note.device note.id note.after reaches.now;
  stands = noted reaches.now reaches.stands reaches.rise.0;
  rise = reaches.rise.1;
  ends = reaches.ends;
}
