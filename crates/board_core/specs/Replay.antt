-- What a list of calls leaves, and what a crash inside one of them may leave.
use Rattle.std.specs.Prelude.{◌≡◌, ◌+◌, ◌/◌, ◌⊎◌, ◌++◌, List, [], ◌∷◌, ℕ, zero, suc, Bool, true, false, length, take, leb, if◌then◌else◌}
use Rattle.std.specs.List.{list_all}
use Rattle.outside_core.specs.Stream.{SendsSome}
use Rattle.board_core.specs.Moments.{SameOutside, written}
use Rattle.board_core.specs.declared.call.Call.{Call}
use Rattle.board_core.specs.declared.call.Call.TheVariants.{Read, Send, Load, Put, Sync}

-- what the calls have made of the board
pub record State : Type 1 where
  pub sent : List ℕ
  -- the image as a load gives it
  pub bytes : List ℕ
  -- how many bytes puts were given
  pub stored : ℕ
  -- nothing is pending
  pub clean : Bool
  -- the images that a crash may leave now
  pub may : List ℕ → Type 0

-- a board with this image, before any call
abbrev pub fresh : List ℕ → State
fresh image = record { sent = []; bytes = image; stored = 0; clean = true; may = λ after. after ≡ image }

-- what is done of so many bytes: all, or the first half
abbrev pub done : Bool → List ℕ → List ℕ
done ok bytes = if ok then bytes else take (length bytes / 2) bytes

-- A put leaves its range pending: a crash may leave any bytes there. A good sync leaves nothing pending.
abbrev pub step : State → Call → State
step s (Read ok) = s
step s (Send bytes ok) = record s { sent = s.sent ++ done ok bytes }
step s (Load ok) = s
step s (Put at bytes ok) = record s {
  bytes = written s.bytes at (done ok bytes);
  stored = s.stored + length bytes;
  clean = false;
  may = λ image. (was : List ℕ) × s.may was × SameOutside at (length bytes) was image;
}
step s (Sync true) = record s { clean = true; may = λ image. image ≡ s.bytes }
step s (Sync false) = s

-- what further calls make of it
abbrev pub replay : State → List Call → State
replay s [] = s
replay s (call ∷ calls) = replay (step s call) calls

-- what a stop between two calls may leave
abbrev pub Between : State → List ℕ → List ℕ → Type 0
Between s sent image = (sent ≡ s.sent) × s.may image

-- what a stop inside a call may leave: of a send any front is out, and a put's range holds any bytes
abbrev pub Inside : State → Call → List ℕ → List ℕ → Type 0
Inside s (Read ok) sent image = Between s sent image
Inside s (Send bytes ok) sent image = SendsSome bytes s.sent sent × s.may image
Inside s (Load ok) sent image = Between s sent image
Inside s (Put at bytes ok) sent image = (sent ≡ s.sent) × ((was : List ℕ) × s.may was × SameOutside at (length bytes) was image)
Inside s (Sync ok) sent image = Between s sent image

-- what a stop at some moment from call t on may leave
abbrev pub LeftFrom : State → List Call → ℕ → List ℕ → List ℕ → Type 0
LeftFrom s [] t sent image = Between s sent image
LeftFrom s (call ∷ calls) zero sent image = Inside s call sent image ⊎ LeftFrom (step s call) calls zero sent image
LeftFrom s (call ∷ calls) (suc t) sent image = LeftFrom (step s call) calls t sent image

-- a put lies within the image
abbrev pub fits : ℕ → Call → Bool
fits size (Read ok) = true
fits size (Send bytes ok) = true
fits size (Load ok) = true
fits size (Put at bytes ok) = leb (at + length bytes) size
fits size (Sync ok) = true

-- each put lies within the image
abbrev pub all_fit : ℕ → List Call → Bool
all_fit size calls = list_all (fits size) calls

-- a call that leaves the image as it is
abbrev pub IsIdle : Call → Type 0
IsIdle (Read ok) = Unit {0}
IsIdle (Send bytes ok) = Unit {0}
IsIdle (Load ok) = Unit {0}
IsIdle (Put at bytes ok) = ⊥
IsIdle (Sync ok) = Unit {0}
