-- What holds of waves over every ledger, and of a book after every list of notes.
use Rattle.std.specs.Prelude.{ℕ, List, [], ◌∷◌, Option}
use Rattle.wave_core.specs.declared.wave.Wave.{Wave}
use Rattle.wave_core.specs.declared.note.Note.{Note}
use Rattle.wave_core.specs.Ledger.{Ledger, NoneFalls, Rises, raised}
use Rattle.wave_core.specs.Waves.{Open}

-- where no number falls, what is open stays open
abbrev pub OpenStays : Type 0
OpenStays = (waves : List Wave) (earlier later : Ledger) → NoneFalls earlier later
    → (class id device : List ℕ) → Open waves earlier class id device → Open waves later class id device

-- where one number rises, none falls
abbrev pub RisesLowerNone : Type 0
RisesLowerNone = (ledger : Ledger) (device id : List ℕ) (before : Option ℕ) (after : ℕ) → Rises ledger device id before after
    → NoneFalls ledger (raised device id after ledger)

-- each of these numbers rises in the ledger as those before it left it
abbrev pub RiseInTurn : Ledger → List Note → Type 0
RiseInTurn ledger [] = Unit {0}
RiseInTurn ledger (note ∷ notes) = Rises ledger note.device note.id note.before note.after × RiseInTurn (raised note.device note.id note.after ledger) notes

-- the ledger that they leave
abbrev pub after_all : Ledger → List Note → Ledger
after_all ledger [] = ledger
after_all ledger (note ∷ notes) = after_all (raised note.device note.id note.after ledger) notes
