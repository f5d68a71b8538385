-- What a board in memory holds and keeps.
use Rattle.std.specs.Prelude.{◌≡◌, ◌++◌, ◌⊎◌, ℕ, List, [], ◌∷◌, Bool, true, false, length, drop, Result, is_ok, IsTrue}
use Rattle.outside_core.specs.Numbers.{works_at}
use Rattle.board_core.specs.Contents.{View}
use Rattle.board_core.specs.Faulted.{faults_in, no_faults}
use Rattle.board_core.specs.History.{seen}
use Rattle.board_core.specs.declared.call.Call.{Call}
use Rattle.board_core.specs.declared.memory_board.MemoryBoard.{MemoryBoard}

-- the image that it had at first
abbrev pub first_of : MemoryBoard → List ℕ
first_of m = m.history.first

-- the calls so far, each at the place that is its number
abbrev pub calls_of : MemoryBoard → List Call
calls_of m = m.history.calls

-- the numbers of the calls that are to fail
abbrev pub failing_of : MemoryBoard → List ℕ
failing_of m = m.failing

-- the most that one read gives
abbrev pub piece_of : MemoryBoard → ℕ
piece_of m = m.piece

-- some call found no room for its note
abbrev pub is_short : MemoryBoard → Bool
is_short m = m.short

-- what it tells follows from its calls, and from what reads have taken off its input; its clock is the number of the next call
abbrev pub view_of : MemoryBoard → View
view_of m = seen (faults_in m.counts) m.taken (drop m.taken m.input) m.history

-- what no call changes
pub record KeepsSetting (old new : MemoryBoard) : Type 0 where
  pub first : first_of new ≡ first_of old
  pub failing : failing_of new ≡ failing_of old
  pub piece : piece_of new ≡ piece_of old

-- The call takes the next number, and fails exactly where that number is to fail.
pub record TakesNumber {T E : Type 0} (call : Bool → Call) (result : Result T E) (old new : MemoryBoard) : Type 0 where
  pub works : is_ok result ≡ works_at (failing_of old) (length (calls_of old))
  pub calls : calls_of new ≡ calls_of old ++ call (is_ok result) ∷ []
  pub short : is_short new ≡ is_short old

-- The call finds no room for its note: it fails and takes no number, and the board says so from then on.
pub record FindsNoRoom {T E : Type 0} (result : Result T E) (old new : MemoryBoard) : Type 0 where
  pub failed : is_ok result ≡ false
  pub calls : calls_of new ≡ calls_of old
  pub short : IsTrue (is_short new)

-- the call is noted under its number, or finds no room for its note
pub record IsNoted {T E : Type 0} (call : Bool → Call) (result : Result T E) (old new : MemoryBoard) : Type 0 where
  pub either : TakesNumber call result old new ⊎ FindsNoRoom result old new
  pub keeps : KeepsSetting old new

-- a board of which no call was made
pub record IsNew (input image : List ℕ) (piece : ℕ) (failing : List ℕ) (m : MemoryBoard) : Type 0 where
  pub holds : (view_of m).now ≡ record {
    stream = record { taken = 0; rest = input; sent = [] };
    disk = record { stored = 0; bytes = image; clean = true };
    clock = 0;
  }
  pub faults : (view_of m).faults ≡ no_faults
  pub first : first_of m ≡ image
  pub calls : calls_of m ≡ []
  pub failing_is : failing_of m ≡ failing
  pub piece_is : piece_of m ≡ piece
  pub short : is_short m ≡ false
