-- What a board in memory tells behind one more call.
use Rattle.std.proofs.Common.{◌≡◌, ◌+◌, ◌≤◌, ◌/◌, ◌<◌, min, ◌⊎◌, ℕ, Bool, true, false, List, [], ◌∷◌, ◌++◌, length, take, drop, refl, sym, ◌∙◌, ap, subst, arith, inl, inr, Result, Ok, Err, OnOk, OnErr, take-append-drop}
use Rattle.std.proofs.lemmas.List.{append-nil, drop-drop}
use Rattle.outside_core.specs.Stream.{Stream, Begins, Sends, Gives, sends_on}
use Rattle.board_core.specs.Contents.{Faults, View}
use Rattle.board_core.specs.Moments.{SameOutside, Passes, NoMoment, WithinSend, WithinPut, written}
use Rattle.board_core.specs.Calls.{SendsOut, Loads, Puts, Syncs, ReadAlone}
use Rattle.board_core.specs.Replay.{State, fresh, done, step, replay, Between, Inside, LeftFrom}
use Rattle.board_core.specs.ReplayLaws.{Elapses, replay-push, elapsed, now_left, written_torn, done_short}
use Rattle.board_core.specs.History.{state_of, disk_of, stream_by, seen, left_by, Noted}
use Rattle.board_core.specs.MemoryLaws.{sound_here}
use Rattle.board_core.specs.declared.call.Call.{Call}
use Rattle.board_core.specs.declared.call.Call.TheVariants.{Read, Send, Load, Put, Sync}
use Rattle.board_core.specs.declared.history.History.{History}

-- the state behind a noted call
pub state_next : (c : Call) (old new : History) → Noted c old new → state_of new ≡ step (state_of old) c
state_next c old new noted =
    ap (λ (f : List ℕ). replay (fresh f) new.calls) noted.first
    ∙ ap (λ (l : List Call). replay (fresh old.first) l) noted.calls
    ∙ replay-push (fresh old.first) old.calls c

-- the image keeps its length
pub long : (h : History) → length h.image.items ≡ length h.first
long h = ap length h.followed ∙ (sound_here h).measured

done_begins : (ok : Bool) (bytes : List ℕ) → Begins (done ok bytes) bytes
done_begins true bytes = ([], sym (append-nil bytes))
done_begins false bytes = (drop (length bytes / 2) bytes, sym (take-append-drop (length bytes / 2) bytes))

on_ok : {T E A B : Type 0} (r : Result T E) → OnOk r A → (A → B) → OnOk r B
on_ok (Ok x) a f = f a
on_ok (Err e) a f = tt

no_length : (l : List ℕ) → length l ≡ 0 → l ≡ []
no_length [] is = refl
no_length (x ∷ l) is = absurd (omega arith)

-- the stream behind a send of which this was done
sends_done : {T E : Type 0} (bytes : List ℕ) (result : Result T E) (ok : Bool) (old : Stream) → OnOk result (ok ≡ true) → Sends bytes result old (sends_on (done ok bytes) old)
sends_done bytes (Ok u) ok old is = ap (λ (b : Bool). sends_on (done b bytes) old) is
sends_done bytes (Err e) ok old is = (done ok bytes, done_begins ok bytes, refl)

-- a call behind a history, with what the board counts and has read before and behind it
module _ (f f2 : Faults) (taken taken2 : ℕ) (rest rest2 : List ℕ) (old new : History) where
  abbrev Before : View
  Before = seen f taken rest old

  abbrev Behind : View
  Behind = seen f2 taken2 rest2 new

  -- the moments behind a noted call
  moments_next : (c : Call) (within : List ℕ → List ℕ → Type 0) → Noted c old new
      → ((sent image : List ℕ) → Inside (state_of old) c sent image → Between (state_of old) sent image ⊎ within sent image)
      → ((sent image : List ℕ) → Between (step (state_of old) c) sent image → Between (state_of old) sent image ⊎ within sent image)
      → Passes Before Behind within
  moments_next c within noted inside behind =
      let was = elapsed (fresh old.first) old.calls c within inside behind in
      let calls = subst (λ (l : List Call). Elapses (length old.calls) (length l) (left_by old) (λ t sent image. LeftFrom (fresh old.first) l t sent image) within) (sym noted.calls) was in
      let both = subst (λ (h : List ℕ). Elapses (length old.calls) (length new.calls) (left_by old) (λ t sent image. LeftFrom (fresh h) new.calls t sent image) within) (sym noted.first) calls in
      record { later = both.later; nothing_else = both.nothing_else; keeps = both.keeps }

  quiet_moments : (c : Call) → Noted c old new
      → ((sent image : List ℕ) → Inside (state_of old) c sent image → Between (state_of old) sent image)
      → ((sent image : List ℕ) → Between (step (state_of old) c) sent image → Between (state_of old) sent image)
      → Passes Before Behind NoMoment
  quiet_moments c noted inside behind = moments_next c NoMoment noted (λ sent image i. inl (inside sent image i)) (λ sent image b. inl (behind sent image b))

  pub sync_moments : (ok : Bool) → Noted (Sync ok) old new → Passes Before Behind NoMoment
  sync_moments true noted = quiet_moments (Sync true) noted (λ sent image i. i)
      (λ sent image now. (now.0, subst (λ (b : List ℕ). (state_of old).may b) (sym now.1) (sound_here old).stands))
  sync_moments false noted = quiet_moments (Sync false) noted (λ sent image i. i) (λ sent image b. b)

  pub load_moments : (ok : Bool) → Noted (Load ok) old new → Passes Before Behind NoMoment
  load_moments ok noted = quiet_moments (Load ok) noted (λ sent image i. i) (λ sent image b. b)

  pub read_moments : (ok : Bool) → Noted (Read ok) old new → Passes Before Behind NoMoment
  read_moments ok noted = quiet_moments (Read ok) noted (λ sent image i. i) (λ sent image b. b)

  pub send_moments : (bytes : List ℕ) (ok : Bool) → Noted (Send bytes ok) old new → Passes Before Behind (WithinSend Before bytes)
  send_moments bytes ok noted = moments_next (Send bytes ok) _ noted
      (λ sent image inside. inr (inside.0, now_left (fresh old.first) old.calls (length old.calls) _ image (refl, inside.1)))
      (λ sent image now. inr ((done ok bytes, done_begins ok bytes, now.0), now_left (fresh old.first) old.calls (length old.calls) _ image (refl, now.1)))

  pub put_moments : (at : ℕ) (bytes : List ℕ) (ok : Bool) → Noted (Put at bytes ok) old new → Passes Before Behind (WithinPut Before at (length bytes))
  put_moments at bytes ok noted = moments_next (Put at bytes ok) _ noted
      (λ sent image i. inr (i.1.0, now_left (fresh old.first) old.calls (length old.calls) sent i.1.0 (i.0, i.1.1), i.1.2))
      (λ sent image b. inr (b.1.0, now_left (fresh old.first) old.calls (length old.calls) sent b.1.0 (b.0, b.1.1), b.1.2))

  -- what a read leaves
  pub read_alone : (ok : Bool) → Noted (Read ok) old new → f2.send ≡ f.send → f2.disk ≡ f.disk → ReadAlone (Unit {0}) Before Behind
  read_alone ok noted send disk = record {
    send = send;
    disk = disk;
    extent = ap length noted.first;
    same = λ told. ap disk_of (state_next (Read ok) old new noted);
    moments = λ told. read_moments ok noted;
  }

-- a call that neither reads nor fails to be noted
module _ (f f2 : Faults) (taken : ℕ) (rest : List ℕ) (old new : History) where
  pub send_told : {T E : Type 0} (bytes : List ℕ) (result : Result T E) (ok : Bool) → OnOk result (ok ≡ true) → Noted (Send bytes ok) old new
      → SendsOut bytes result (seen f taken rest old) (seen f2 taken rest new)
  send_told bytes result ok all noted =
      let was : Stream = record { taken = taken; rest = rest; sent = (state_of old).sent } in
      let next = state_next (Send bytes ok) old new noted in
      record {
        stream = subst (λ (s : State). Sends bytes result was (record { taken = taken; rest = rest; sent = s.sent })) (sym next) (sends_done bytes result ok was all);
        disk = ap disk_of next;
      }

  -- what was read and sent, where a call neither reads nor sends
  abbrev silent_in : State → Stream
  silent_in s = record { taken = taken; rest = rest; sent = s.sent }

  pub sync_told : {E : Type 0} (result : Result (Unit {0}) E) (ok : Bool) → OnOk result (ok ≡ true) → OnErr result (ok ≡ false) → Noted (Sync ok) old new
      → Syncs result (seen f taken rest old) (seen f2 taken rest new)
  sync_told (Ok u) true is not noted = let next = state_next (Sync true) old new noted in record {
    ok = ap (λ (s : State). s.clean) next;
    err = tt;
    disk = subst (λ (s : State). disk_of s ≡ record (disk_of (state_of old)) { clean = s.clean }) (sym next) refl;
    silent = ap silent_in next;
  }
  sync_told (Ok u) false is not noted = absurd (let never : false ≡ true = is in cc)
  sync_told (Err e) true is not noted = absurd (let never : true ≡ false = not in cc)
  sync_told (Err e) false is not noted = let next = state_next (Sync false) old new noted in record {
    ok = tt;
    err = ap disk_of next;
    disk = subst (λ (s : State). disk_of s ≡ record (disk_of (state_of old)) { clean = s.clean }) (sym next) refl;
    silent = ap silent_in next;
  }

  pub put_told : {T E : Type 0} (at : ℕ) (bytes : List ℕ) (result : Result T E) (ok : Bool) → OnOk result (ok ≡ true) → at + length bytes ≤ length old.first → Noted (Put at bytes ok) old new
      → Puts at bytes result (seen f taken rest old) (seen f2 taken rest new)
  put_told at bytes result ok all fit noted =
      let next = state_next (Put at bytes ok) old new noted in
      let was = (state_of old).bytes in
      let count : (state_of new).stored ≡ (state_of old).stored + length bytes = ap (λ (s : State). s.stored) next in
      record {
        ok = on_ok result all (λ (is : ok ≡ true). ap (λ (s : State). s.bytes) next ∙ ap (λ (b : Bool). written was at (done b bytes)) is);
        outside = subst (λ (s : State). SameOutside at (length bytes) was s.bytes) (sym next)
            (written_torn was at (length bytes) (done ok bytes) (rw (sound_here old).measured fit) (done_short ok bytes));
        silent = ap silent_in next;
        stored = omega (arith, count);
        stored_most = omega (arith, count);
        stored_ok = on_ok result all (λ is. count);
      }

  pub load_told : {T E : Type 0} (result : Result T E) (at : ℕ) (buf : List ℕ) (ok : Bool) → Noted (Load ok) old new
      → OnOk result (buf ≡ take (length buf) (drop at new.image.items))
      → Loads at buf result (seen f taken rest old) (seen f2 taken rest new)
  load_told result at buf ok noted filled = let next = state_next (Load ok) old new noted in record {
    ok = on_ok result filled (λ is. is ∙ ap (λ (l : List ℕ). take (length buf) (drop at l)) (new.followed ∙ ap (λ (s : State). s.bytes) next));
    same = record { stream = ap silent_in next; disk = ap disk_of next };
  }

-- a read that works hands out the next bytes
pub reads_told : (n : ℕ) (buf : List ℕ) (ok : Bool) (taken : ℕ) (input : List ℕ) (old new : History) → Noted (Read ok) old new
    → take n buf ≡ take n (drop taken input) → (n ≡ 0 → drop taken input ≡ [])
    → Gives n buf (stream_by taken (drop taken input) old) (stream_by (taken + n) (drop (taken + n) input) new)
reads_told n buf ok taken input old new noted front none = record {
  front = sym (take-append-drop n (drop taken input)) ∙ ap (λ (l : List ℕ). l ++ drop n (drop taken input)) (sym front) ∙ ap (λ (l : List ℕ). take n buf ++ l) (drop-drop n taken input);
  taken = refl;
  sent = ap (λ (s : State). s.sent) (state_next (Read ok) old new noted);
  ended = none;
}

-- one that fails takes nothing
pub reads_none_told : (ok : Bool) (taken : ℕ) (rest : List ℕ) (old new : History) → Noted (Read ok) old new → stream_by taken rest new ≡ stream_by taken rest old
reads_none_told ok taken rest old new noted = ap (λ (s : State). record { taken = taken; rest = rest; sent = s.sent }) (state_next (Read ok) old new noted)

-- none come only where nothing is left
pub none_left : (n taken piece most : ℕ) (input : List ℕ) → n ≡ min (min (length (drop taken input)) piece) most → 0 < piece → 0 < most → n ≡ 0 → drop taken input ≡ []
none_left n taken piece most input is some room none = no_length (drop taken input) (omega arith)
