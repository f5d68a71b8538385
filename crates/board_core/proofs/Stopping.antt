-- What a stop leaves is one of the moments of its call.
use Rattle.std.proofs.Common.{◌≡◌, ◌+◌, ◌-◌, ◌≤◌, ◌<◌, ◌/◌, ℕ, zero, suc, Bool, true, false, List, [], ◌∷◌, ◌++◌, length, take, drop, get_or, refl, sym, ◌∙◌, ap, subst, arith, inl, inr}
use Rattle.std.proofs.Common.{take-append-drop, append_assoc, Some, Result, Ok, Err, IfOk}
use Rattle.std.specs.Prelude.{fold, replicate, slice_get, ◌||◌}
use Rattle.std.specs.List.{flat_map, list_any}
use Rattle.std.proofs.lemmas.List.{append-nil, length-replicate, take_more, take_rest}
use Rattle.std.proofs.lemmas.List.Sums.{fold-append}
use Rattle.std.proofs.lemmas.List.Folds.{list_all-append}
use Rattle.std.proofs.Math.Seq.{drop-cons}
use Rattle.outside_core.specs.Stream.{Begins}
use Rattle.board_core.specs.Moments.{SameOutside}
use Rattle.board_core.specs.Replay.{State, fresh, done, step, replay, Inside, LeftFrom, fits, all_fit}
use Rattle.board_core.specs.ReplayLaws.{sound, sound_fresh, written_torn, done_short, torn_same, now_left, le_of, and_true}
use Rattle.board_core.specs.Stops.{left_in, left_in_put, sent_by, begun_by, let_out, is_good_sync, EndsSynced, StopLeaves}
use Rattle.board_core.specs.History.{state_of, left_by}
use Rattle.board_core.specs.MemoryLaws.{sound_here}
use Rattle.board_core.specs.declared.history.History.{History}
use Rattle.board_core.specs.declared.call.Call.{Call}
use Rattle.board_core.specs.declared.call.Call.TheVariants.{Read, Send, Load, Put, Sync}
use Rattle.board_core.specs.declared.stop.Stop.{Stop}
use Rattle.board_core.specs.declared.stop.Stop.TheVariants.{AsSynced, AsPut, FilledA5, Filled5A}

-- each kind of stop changes the range of a put alone
left_in_put-outside : (stop : Stop) (image : List ℕ) (at : ℕ) (bytes : List ℕ) (ok : Bool) → at + length bytes ≤ length image
    → SameOutside at (length bytes) image (left_in_put stop image at bytes ok)
left_in_put-outside AsSynced image at bytes ok fit = torn_same at (length bytes) image
left_in_put-outside AsPut image at bytes ok fit = written_torn image at (length bytes) (done ok bytes) fit (done_short ok bytes)
left_in_put-outside FilledA5 image at bytes ok fit = written_torn image at (length bytes) (replicate (length bytes) 0xa5) fit (omega (arith, length-replicate {A = ℕ} (length bytes) 0xa5))
left_in_put-outside Filled5A image at bytes ok fit = written_torn image at (length bytes) (replicate (length bytes) 0x5a) fit (omega (arith, length-replicate {A = ℕ} (length bytes) 0x5a))

pub length-left_in : (stop : Stop) (image : List ℕ) (c : Call) → fits (length image) c ≡ true → length (left_in stop image c) ≡ length image
length-left_in stop image (Read ok) fit = refl
length-left_in stop image (Send bytes ok) fit = refl
length-left_in stop image (Load ok) fit = refl
length-left_in stop image (Put at bytes ok) fit = (left_in_put-outside stop image at bytes ok (le_of (at + length bytes) (length image) fit)).length_kept
length-left_in stop image (Sync ok) fit = refl

pub length-left_in_all : (stop : Stop) (image : List ℕ) (cs : List Call) → all_fit (length image) cs ≡ true → length (fold (left_in stop) image cs) ≡ length image
length-left_in_all stop image [] fit = refl
length-left_in_all stop image (c ∷ cs) fit =
    let both = and_true (fits (length image) c) (all_fit (length image) cs) fit in
    let kept = length-left_in stop image c both.0 in
    length-left_in_all stop (left_in stop image c) cs (subst (λ (n : ℕ). all_fit n cs ≡ true) (sym kept) both.1) ∙ kept

pub all_fit-append : (size : ℕ) (front back : List Call) → all_fit size (front ++ back) ≡ true → (all_fit size front ≡ true) × (all_fit size back ≡ true)
all_fit-append size front back fit = and_true (all_fit size front) (all_fit size back) (sym (list_all-append (fits size) front back) ∙ fit)

pub all_fit-parts : (size n : ℕ) (cs : List Call) → all_fit size cs ≡ true → (all_fit size (take n cs) ≡ true) × (all_fit size (drop n cs) ≡ true)
all_fit-parts size n cs fit = all_fit-append size (take n cs) (drop n cs) (ap (λ (l : List Call). all_fit size l) (take-append-drop n cs) ∙ fit)

pub all_fit-item : (size : ℕ) (cs : List Call) (i : ℕ) (c : Call) → i < length cs → c ≡ get_or cs i c → all_fit size cs ≡ true → fits size c ≡ true
all_fit-item size [] i c within is fit = absurd (omega arith)
all_fit-item size (d ∷ ds) zero c within is fit = ap (λ (e : Call). fits size e) is ∙ (and_true (fits size d) (all_fit size ds) fit).0
all_fit-item size (d ∷ ds) (suc i) c within is fit = all_fit-item size ds i c (omega arith) is (and_true (fits size d) (all_fit size ds) fit).1

pub all_fit-get : (size : ℕ) (cs : List Call) (i : ℕ) (c : Call) → slice_get cs i ≡ Some c → all_fit size cs ≡ true → fits size c ≡ true
all_fit-get size [] i c is fit = absurd (let none : ⊥ = cc in none)
all_fit-get size (d ∷ ds) zero c is fit = (let same : c ≡ d = cc in ap (λ (e : Call). fits size e) same) ∙ (and_true (fits size d) (all_fit size ds) fit).0
all_fit-get size (d ∷ ds) (suc i) c is fit = all_fit-get size ds i c is (and_true (fits size d) (all_fit size ds) fit).1

-- the last good sync
good_sync : (c : Call) → is_good_sync c ≡ true → c ≡ Sync true
good_sync (Read ok) is = absurd (let never : ⊥ = cc in never)
good_sync (Send bytes ok) is = absurd (let never : ⊥ = cc in never)
good_sync (Load ok) is = absurd (let never : ⊥ = cc in never)
good_sync (Put at bytes ok) is = absurd (let never : ⊥ = cc in never)
good_sync (Sync ok) is = ap Sync is

pub ends_synced : (cs : List Call) (n : ℕ) (c : Call) → 0 < n → n ≤ length cs → c ≡ get_or cs (n - 1) c → is_good_sync c ≡ true → EndsSynced (take n cs)
ends_synced cs n c some within is good =
    let same : n - 1 + 1 ≡ n = omega arith in
    inr (take (n - 1) cs, ap (λ (k : ℕ). take k cs) (sym same) ∙ take_more cs (n - 1) c (omega arith) ∙ ap (λ (d : Call). take (n - 1) cs ++ d ∷ []) (sym is ∙ good_sync c good))

pub none_more : (cs : List Call) (n : ℕ) (c : Call) → 0 < n → n ≤ length cs → c ≡ get_or cs (n - 1) c → is_good_sync c ≡ false → list_any is_good_sync (drop n cs) ≡ false
    → list_any is_good_sync (drop (n - 1) cs) ≡ false
none_more cs n c some within is good none =
    let same : suc (n - 1) ≡ n = omega arith in
    let split : drop (n - 1) cs ≡ c ∷ drop n cs = drop-cons cs (n - 1) c (omega arith) ∙ ap (λ (k : ℕ). get_or cs (n - 1) c ∷ drop k cs) same ∙ ap (λ (d : Call). d ∷ drop n cs) (sym is) in
    ap (λ (l : List Call). list_any is_good_sync l) split ∙ ap (λ (b : Bool). b || list_any is_good_sync (drop n cs)) good ∙ none

-- what the calls have made of the board
replay-append : (s : State) (front back : List Call) → replay s (front ++ back) ≡ replay (replay s front) back
replay-append s [] back = refl
replay-append s (c ∷ front) back = replay-append (step s c) front back

pub replay-bytes : (s : State) (cs : List Call) → (replay s cs).bytes ≡ fold (left_in AsPut) s.bytes cs
replay-bytes s [] = refl
replay-bytes s (Read ok ∷ cs) = replay-bytes s cs
replay-bytes s (Send bytes ok ∷ cs) = replay-bytes (step s (Send bytes ok)) cs
replay-bytes s (Load ok ∷ cs) = replay-bytes s cs
replay-bytes s (Put at bytes ok ∷ cs) = replay-bytes (step s (Put at bytes ok)) cs
replay-bytes s (Sync true ∷ cs) = replay-bytes (step s (Sync true)) cs
replay-bytes s (Sync false ∷ cs) = replay-bytes s cs

pub replay-sent : (s : State) (cs : List Call) → (replay s cs).sent ≡ s.sent ++ flat_map sent_by cs
replay-sent s [] = sym (append-nil s.sent)
replay-sent s (Read ok ∷ cs) = replay-sent s cs
replay-sent s (Send bytes ok ∷ cs) = replay-sent (step s (Send bytes ok)) cs ∙ append_assoc s.sent (done ok bytes) (flat_map sent_by cs)
replay-sent s (Load ok ∷ cs) = replay-sent s cs
replay-sent s (Put at bytes ok ∷ cs) = replay-sent (step s (Put at bytes ok)) cs
replay-sent s (Sync true ∷ cs) = replay-sent (step s (Sync true)) cs
replay-sent s (Sync false ∷ cs) = replay-sent s cs

-- what a stop leaves of puts that no good sync is behind is an image that a crash may leave
may_left : (stop : Stop) (s : State) (image : List ℕ) (cs : List Call) → s.may image → all_fit (length image) cs ≡ true → list_any is_good_sync cs ≡ false
    → (replay s cs).may (fold (left_in stop) image cs)
may_left stop s image [] may fit none = may
may_left stop s image (Read ok ∷ cs) may fit none = may_left stop s image cs may fit none
may_left stop s image (Send bytes ok ∷ cs) may fit none = may_left stop (step s (Send bytes ok)) image cs may fit none
may_left stop s image (Load ok ∷ cs) may fit none = may_left stop s image cs may fit none
may_left stop s image (Put at bytes ok ∷ cs) may fit none =
    let both = and_true (fits (length image) (Put at bytes ok)) (all_fit (length image) cs) fit in
    let outside = left_in_put-outside stop image at bytes ok (le_of (at + length bytes) (length image) both.0) in
    may_left stop (step s (Put at bytes ok)) (left_in_put stop image at bytes ok) cs (image, may, outside)
    (subst (λ (n : ℕ). all_fit n cs ≡ true) (sym outside.length_kept) both.1) none
may_left stop s image (Sync true ∷ cs) may fit none = absurd (let never : ⊥ = cc in never)
may_left stop s image (Sync false ∷ cs) may fit none = may_left stop s image cs may fit none

let_out-begins : (stop : Stop) (bytes : List ℕ) → Begins (let_out stop bytes) bytes
let_out-begins AsSynced bytes = (bytes, refl)
let_out-begins AsPut bytes = (drop ((length bytes + 1) / 2) bytes, sym (take-append-drop ((length bytes + 1) / 2) bytes))
let_out-begins FilledA5 bytes = (bytes, refl)
let_out-begins Filled5A bytes = (drop ((length bytes + 1) / 2) bytes, sym (take-append-drop ((length bytes + 1) / 2) bytes))

inside_left : (stop : Stop) (s : State) (c : Call) (was sent image : List ℕ) → s.may was → fits (length was) c ≡ true
    → image ≡ left_in stop was c → sent ≡ s.sent ++ begun_by stop c → Inside s c sent image
inside_left stop s (Read ok) was sent image may fit image_is sent_is = (sent_is ∙ append-nil s.sent, subst (λ (l : List ℕ). s.may l) (sym image_is) may)
inside_left stop s (Send bytes ok) was sent image may fit image_is sent_is = ((let_out stop bytes, let_out-begins stop bytes, sent_is), subst (λ (l : List ℕ). s.may l) (sym image_is) may)
inside_left stop s (Load ok) was sent image may fit image_is sent_is = (sent_is ∙ append-nil s.sent, subst (λ (l : List ℕ). s.may l) (sym image_is) may)
inside_left stop s (Put at bytes ok) was sent image may fit image_is sent_is = (
  sent_is ∙ append-nil s.sent,
  (was, may, subst (λ (l : List ℕ). SameOutside at (length bytes) was l) (sym image_is) (left_in_put-outside stop was at bytes ok (le_of (at + length bytes) (length was) fit))),
)
inside_left stop s (Sync ok) was sent image may fit image_is sent_is = (sent_is ∙ append-nil s.sent, subst (λ (l : List ℕ). s.may l) (sym image_is) may)

-- what a stop leaves is a moment inside its call
pub stops_inside : (stop : Stop) (first : List ℕ) (calls : List Call) (c : Call) (sent image : List ℕ) → all_fit (length first) calls ≡ true → fits (length first) c ≡ true
    → StopLeaves stop first calls c sent image → Inside (replay (fresh first) calls) c sent image
stops_inside stop first calls c sent image fit call_fits left =
    let parts = all_fit-append (length first) left.synced left.since (ap (λ (l : List Call). all_fit (length first) l) (sym left.whole) ∙ fit) in
    let s = replay (fresh first) left.synced in
    let here = sound (length first) (fresh first) left.synced parts.0 (sound_fresh first) in
    let since_fit : all_fit (length s.bytes) left.since ≡ true = subst (λ (n : ℕ). all_fit n left.since ≡ true) (sym here.measured) parts.1 in
    let was = fold (left_in stop) s.bytes left.since in
    let long : length was ≡ length first = length-left_in_all stop s.bytes left.since since_fit ∙ here.measured in
    let state : replay (fresh first) calls ≡ replay s left.since = ap (λ (l : List Call). replay (fresh first) l) left.whole ∙ replay-append (fresh first) left.synced left.since in
    inside_left stop (replay (fresh first) calls) c was sent image
    (subst (λ (t : State). t.may was) (sym state) (may_left stop s s.bytes left.since here.stands since_fit left.none_since))
    (subst (λ (n : ℕ). fits n c ≡ true) (sym long) call_fits)
    (left.image_is ∙ fold-append (left_in stop) s.bytes left.since (c ∷ []))
    (left.sent_is ∙ ap (λ (l : List ℕ). l ++ begun_by stop c) (sym (replay-sent (fresh first) calls)))

-- a moment inside a call is left from that call on
pub inside_from : (s : State) (cs : List Call) (k : ℕ) (c : Call) (sent image : List ℕ) → slice_get cs k ≡ Some c → Inside (replay s (take k cs)) c sent image → LeftFrom s cs k sent image
inside_from s [] k c sent image is inside = absurd (let none : ⊥ = cc in none)
inside_from s (d ∷ ds) zero c sent image is inside = let same : c ≡ d = cc in inl (subst (λ (e : Call). Inside s e sent image) same inside)
inside_from s (d ∷ ds) (suc k) c sent image is inside = inside_from (step s d) ds k c sent image is inside

-- the two passes over an image, parted at the last good sync
pub stop_leaves : (stop : Stop) (first : List ℕ) (calls : List Call) (c : Call) (n : ℕ) (sent sent2 image image2 image3 image4 : List ℕ)
    → EndsSynced (take n calls) → list_any is_good_sync (drop n calls) ≡ false
    → sent ≡ flat_map sent_by calls → sent2 ≡ sent ++ begun_by stop c
    → image ≡ first → image2 ≡ fold (left_in AsPut) image (take n calls) → image3 ≡ fold (left_in stop) image2 (take (length calls - n) (drop n calls)) → image4 ≡ left_in stop image3 c
    → StopLeaves stop first calls c sent2 image4
stop_leaves stop first calls c n sent sent2 image image2 image3 image4 last none is_sent is_sent2 is_image is_image2 is_image3 is_image4 =
    let at_sync : image2 ≡ (replay (fresh first) (take n calls)).bytes =
    is_image2 ∙ ap (λ (l : List ℕ). fold (left_in AsPut) l (take n calls)) is_image ∙ sym (replay-bytes (fresh first) (take n calls)) in
    let behind : image3 ≡ fold (left_in stop) image2 (drop n calls) = is_image3 ∙ ap (λ (l : List Call). fold (left_in stop) image2 l) (take_rest calls n) in
    record {
      synced = take n calls;
      since = drop n calls;
      whole = sym (take-append-drop n calls);
      last = last;
      none_since = none;
      image_is = is_image4 ∙ ap (λ (l : List ℕ). left_in stop l c) (behind ∙ ap (λ (l : List ℕ). fold (left_in stop) l (drop n calls)) at_sync)
          ∙ sym (fold-append (left_in stop) (replay (fresh first) (take n calls)).bytes (drop n calls) (c ∷ []));
      sent_is = is_sent2 ∙ ap (λ (l : List ℕ). l ++ begun_by stop c) is_sent;
    }

-- a history, stopped inside its call of number k
module _ (h : History) (k : ℕ) (c : Call) (is : slice_get h.calls k ≡ Some c) where
  pub calls_before_fit : all_fit (length h.first) (take k h.calls) ≡ true
  calls_before_fit = (all_fit-parts (length h.first) k h.calls h.puts_fit).0

  pub stopped_fits : fits (length h.first) c ≡ true
  stopped_fits = all_fit-get (length h.first) h.calls k c is h.puts_fit

  pub crash_inside : (stop : Stop) (sent image : List ℕ) → StopLeaves stop h.first (take k h.calls) c sent image → Inside (replay (fresh h.first) (take k h.calls)) c sent image
  crash_inside stop sent image left = stops_inside stop h.first (take k h.calls) c sent image calls_before_fit stopped_fits left

  pub crash_left : (stop : Stop) (sent image : List ℕ) → StopLeaves stop h.first (take k h.calls) c sent image → left_by h k sent image
  crash_left stop sent image left = inside_from (fresh h.first) h.calls k c sent image is (crash_inside stop sent image left)

  -- the same said of slices of the history
  pub crash_of : (stop : Stop) (first : List ℕ) (calls : List Call) (sent image : List ℕ) → first ≡ h.first → calls ≡ h.calls
      → StopLeaves stop first (take k calls) c sent image → StopLeaves stop h.first (take k h.calls) c sent image
  crash_of stop first calls sent image firsts callss left =
      subst (λ (l : List Call). StopLeaves stop h.first (take k l) c sent image) callss (subst (λ (f : List ℕ). StopLeaves stop f (take k calls) c sent image) firsts left)

pub only_one : (h : History) (k : ℕ) (c d : Call) → slice_get h.calls k ≡ Some c → slice_get h.calls k ≡ Some d → c ≡ d
only_one h k c d one other = let same : Some c ≡ Some d = sym one ∙ other in cc

-- what is so of a value is so of what follows from it
pub if_ok : {T E : Type 0} {P Q : T → Type 0} (r : Result T E) → IfOk r P → ((x : T) → P x → Q x) → IfOk r Q
if_ok (Ok x) p f = f x p
if_ok (Err e) p f = tt

-- behind the last call
module _ (h : History) (sent image : List ℕ) (calls : List Call) (calls_are : calls ≡ h.calls) (sent_is : sent ≡ flat_map sent_by calls) (image_is : image ≡ h.image.items) where
  pub present : (sent ≡ (state_of h).sent) × (image ≡ (state_of h).bytes)
  present = (sent_is ∙ ap (λ (l : List Call). flat_map sent_by l) calls_are ∙ sym (replay-sent (fresh h.first) h.calls), image_is ∙ h.followed)

  pub present_left : (t : ℕ) → left_by h t sent image
  present_left t = now_left (fresh h.first) h.calls t sent image (present.0, subst (λ (l : List ℕ). (state_of h).may l) (sym present.1) (sound_here h).stands)
