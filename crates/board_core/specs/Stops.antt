-- What a stop inside a call leaves, exactly: a choice among the moments of that call.
use Rattle.std.specs.Prelude.{◌≡◌, ◌+◌, ◌/◌, ◌⊎◌, ◌++◌, ◌==◌, List, [], ◌∷◌, ℕ, Bool, true, false, length, take, fold, replicate, if◌then◌else◌}
use Rattle.std.specs.List.{flat_map, list_any}
use Rattle.board_core.specs.Moments.{written}
use Rattle.board_core.specs.Replay.{fresh, replay, done}
use Rattle.board_core.specs.declared.call.Call.{Call}
use Rattle.board_core.specs.declared.call.Call.TheVariants.{Read, Send, Load, Put, Sync}
use Rattle.board_core.specs.declared.stop.Stop.{Stop}
use Rattle.board_core.specs.declared.stop.Stop.TheVariants.{AsSynced, AsPut, FilledA5, Filled5A}

-- the kinds of a stop by their numbers, 0 to 3
abbrev pub kind_of : ℕ → Stop
kind_of mode = if mode == 0 then AsSynced else (if mode == 1 then AsPut else (if mode == 2 then FilledA5 else Filled5A))

-- what a stop leaves in the range of a put: what was there, what was put, or one byte all over
abbrev pub left_in_put : Stop → List ℕ → ℕ → List ℕ → Bool → List ℕ
left_in_put AsSynced image at bytes ok = image
left_in_put AsPut image at bytes ok = written image at (done ok bytes)
left_in_put FilledA5 image at bytes ok = written image at (replicate (length bytes) 0xa5)
left_in_put Filled5A image at bytes ok = written image at (replicate (length bytes) 0x5a)

-- what a stop leaves of any call: another than a put leaves the image as it was
abbrev pub left_in : Stop → List ℕ → Call → List ℕ
left_in stop image (Read ok) = image
left_in stop image (Send bytes ok) = image
left_in stop image (Load ok) = image
left_in stop image (Put at bytes ok) = left_in_put stop image at bytes ok
left_in stop image (Sync ok) = image

-- what a call that was not stopped has sent
abbrev pub sent_by : Call → List ℕ
sent_by (Read ok) = []
sent_by (Send bytes ok) = done ok bytes
sent_by (Load ok) = []
sent_by (Put at bytes ok) = []
sent_by (Sync ok) = []

-- what a stop lets out of a send's bytes: none, or the first half rounded up
abbrev pub let_out : Stop → List ℕ → List ℕ
let_out AsSynced bytes = []
let_out AsPut bytes = take ((length bytes + 1) / 2) bytes
let_out FilledA5 bytes = []
let_out Filled5A bytes = take ((length bytes + 1) / 2) bytes

-- what a stopped call has sent
abbrev pub begun_by : Stop → Call → List ℕ
begun_by stop (Read ok) = []
begun_by stop (Send bytes ok) = let_out stop bytes
begun_by stop (Load ok) = []
begun_by stop (Put at bytes ok) = []
begun_by stop (Sync ok) = []

-- a sync that worked
abbrev pub is_good_sync : Call → Bool
is_good_sync (Read ok) = false
is_good_sync (Send bytes ok) = false
is_good_sync (Load ok) = false
is_good_sync (Put at bytes ok) = false
is_good_sync (Sync ok) = ok

-- no call, or some of which the last is a good sync
abbrev pub EndsSynced : List Call → Type 0
EndsSynced calls = (calls ≡ []) ⊎ ((front : List Call) × (calls ≡ front ++ Sync true ∷ []))

-- The calls stand behind an image, and then a stop comes inside one call more. It leaves the image of the last good sync,
-- with the range of each put since then, that of the stopped call too, as the kind of the stop says.
pub record StopLeaves (stop : Stop) (first : List ℕ) (calls : List Call) (call : Call) (sent image : List ℕ) : Type 0 where
  pub synced : List Call
  pub since : List Call
  pub whole : calls ≡ synced ++ since
  pub last : EndsSynced synced
  pub none_since : list_any is_good_sync since ≡ false
  pub image_is : image ≡ fold (left_in stop) (replay (fresh first) synced).bytes (since ++ call ∷ [])
  pub sent_is : sent ≡ flat_map sent_by calls ++ begun_by stop call
