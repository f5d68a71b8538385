-- What the history of a board in memory tells, and one more call in it, or none.
use Rattle.std.specs.Prelude.{◌≡◌, ◌++◌, List, [], ◌∷◌, ℕ, length}
use Rattle.outside_core.specs.Stream.{Stream}
use Rattle.board_core.specs.Contents.{Disk, View, Faults}
use Rattle.board_core.specs.Replay.{State, fresh, replay, LeftFrom}
use Rattle.board_core.specs.declared.call.Call.{Call}
use Rattle.board_core.specs.declared.history.History.{History}

-- what the calls so far have made of the first image
abbrev pub state_of : History → State
state_of h = replay (fresh h.first) h.calls

-- what a stop at some moment from call t on may leave: the clock is the number of the next call
abbrev pub left_by : History → ℕ → List ℕ → List ℕ → Type 0
left_by h t sent image = LeftFrom (fresh h.first) h.calls t sent image

-- the disk of a board in this state
abbrev pub disk_of : State → Disk
disk_of s = record { stored = s.stored; bytes = s.bytes; clean = s.clean }

-- the input and output of a board with this history, of whose input so much is read and this is left
abbrev pub stream_by : ℕ → List ℕ → History → Stream
stream_by taken rest h = record { taken = taken; rest = rest; sent = (state_of h).sent }

-- a board with this history, of whose input so much is read and this is left, behind these faults
abbrev pub seen : Faults → ℕ → List ℕ → History → View
seen faults taken rest h = record {
  faults = faults;
  extent = length h.first;
  now = record {
    stream = stream_by taken rest h;
    disk = disk_of (state_of h);
    clock = length h.calls;
  };
  left = left_by h;
}

-- the history has one call more
pub record Noted (call : Call) (old new : History) : Type 0 where
  pub first : new.first ≡ old.first
  pub calls : new.calls ≡ old.calls ++ call ∷ []

-- the history is as it was
pub record Untouched (old new : History) : Type 0 where
  pub first : new.first ≡ old.first
  pub calls : new.calls ≡ old.calls
