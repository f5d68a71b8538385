-- The loop over frames: what holds between two frames, and what each way out of it leaves.
use Rattle.std.proofs.Common.{◌≡◌, ◌+◌, ◌-◌, ◌≤◌, ◌<◌, ◌⊎◌, ℕ, List, [], ◌∷◌, ◌++◌, IsTrue, length, take, refl, sym, ◌∙◌, ap, subst, inl, inr, arith, length-append, append_assoc}
use Rattle.std.proofs.lemmas.List.{append-nil, append_cancel_right, flat_map_more, take_all, take_at}
use Rattle.std.proofs.lemmas.List.Elements.{All-push, All-nil}
use Rattle.std.proofs.Math.Seq.{take-append-add}
use Rattle.std.specs.List.{All, flat_map}
use Rattle.outside_core.specs.Stream.{Stream}
use Rattle.board_core.specs.Contents.{View, Disk, NothingPending, SameDisk}
use Rattle.board_core.specs.Moments.{Passes, NoMoment, Lawful, LeftNow}
use Rattle.board_core.proofs.Public.Chaining.{goes_on, stays, then_quiet, each_moment, widened}
use Rattle.frames.specs.Frames.{Frame, frame_bytes, four_bytes}
use Rattle.frames.specs.Reading.{IsFrame, IsCut, IsLong, IsPart}
use Rattle.frames.specs.Filling.{TookSome}
use Rattle.frames.specs.Nexts.{Came, PartCame, LongCame, Nexts, Grows}
use Rattle.frames.specs.declared.next.Next.{Next}
use Rattle.frames.specs.declared.next.Next.TheVariants.{Got, Whole, Long, Cut, Spent, ReadFault, NoMemory}
use Rattle.frames.proofs.Public.Sizes.{length-four_bytes}
use Rattle.turn_loop.specs.Follows.{Follows}
use Rattle.turn_loop.specs.Promised.{AllFrames}
use Rattle.turn_loop.specs.Turns.{WithinAnswer, Turned}
use Rattle.turn_loop.specs.Outcome.{Answered, Outcome, Ran}
use Rattle.turn_loop.specs.declared.stop.Stop.{Stop}
use Rattle.turn_loop.specs.declared.stop.Stop.TheVariants as stops
use Rattle.turn_loop.specs.declared.answer.Answer.{Answer}
use Rattle.turn_loop.specs.declared.answer.Answer.TheVariants as turns
use Rattle.turn_loop.proofs.Following.{follows_push}
use Rattle.turn_loop.proofs.Cutting.{Cut as CutAt, grown, none_out, within_answer, promised}

-- the board at the start of a run: nothing is pending, and its image stands for the state
pub record Start {S : Type 0} (stands : List ℕ → S → Type 0) (s : S) (old : View) : Type 0 where
  pub laws : Lawful old
  pub clean : NothingPending old
  pub image_stands : stands old.now.disk.bytes s

-- Between two frames, of which `count` bytes are taken: each is answered, and the machine is in the state behind them.
pub record Looping {S : Type 0} (turn : S → Frame → S → Frame → Type 0) (stands : List ℕ → S → Type 0) (s : S) (limit count : ℕ) (old now : View) (state : S) (keeps : List ℕ → Type 0) : Type 0 where
  pub start : Start stands s old
  pub frames : List Frame
  pub each : All (IsFrame limit) frames
  pub front : old.now.stream.rest ≡ flat_map frame_bytes frames ++ now.now.stream.rest
  pub counted : count ≡ length (flat_map frame_bytes frames)
  pub taken : now.now.stream.taken ≡ old.now.stream.taken + count
  pub replies : List Frame
  pub follows : Follows turn s frames state replies
  pub sent_is : now.now.stream.sent ≡ old.now.stream.sent ++ flat_map frame_bytes replies
  pub kept : keeps now.now.disk.bytes
  pub clean : NothingPending now
  pub moments : Passes old now (CutAt turn stands s frames old.now.stream.sent)

past : (xs ys : List ℕ) (m n : ℕ) → m ≡ length xs + n → take m (xs ++ ys) ≡ xs ++ take n ys
past xs ys m n is = ap (λ (k : ℕ). take k (xs ++ ys)) is ∙ take-append-add xs ys n

module _ {S : Type 0} (turn : S → Frame → S → Frame → Type 0) (stands : List ℕ → S → Type 0) (s : S) (limit : ℕ) where
  pub starts : (count : ℕ) → count ≡ 0 → (now : View) (keeps : List ℕ → Type 0) → Lawful now → NothingPending now → keeps now.now.disk.bytes → stands now.now.disk.bytes s → Looping turn stands s limit count now now s keeps
  starts count none now keeps laws clean kept stood = record {
    start = record { laws = laws; clean = clean; image_stands = stood };
    frames = [];
    each = All-nil (IsFrame limit);
    front = refl;
    counted = none;
    taken = omega (arith, none);
    replies = [];
    follows = refl;
    sent_is = sym (append-nil now.now.stream.sent);
    kept = kept;
    clean = clean;
    moments = stays now (CutAt turn stands s [] now.now.stream.sent);
  }

  -- one look for a frame, from between two frames on
  module _ (most count : ℕ) (old mid new : View) (state : S) (keeps : List ℕ → Type 0) (law : (image : List ℕ) → keeps image → stands image state)
      (run : Looping turn stands s limit count old mid state keeps) (count2 : ℕ) (took : TookSome count count2 mid.now.stream new.now.stream)
      (same : SameDisk mid new) (quiet : Passes mid new NoMoment) (within : count2 ≤ most) where
    abbrev taken_frames : List ℕ
    taken_frames = flat_map frame_bytes run.frames

    abbrev all_taken : List ℕ
    all_taken = taken_frames ++ took.bytes

    abbrev input : List ℕ
    input = old.now.stream.rest

    all_front : input ≡ all_taken ++ new.now.stream.rest
    all_front = run.front ∙ ap (λ (l : List ℕ). taken_frames ++ l) took.took.front ∙ sym (append_assoc taken_frames took.bytes new.now.stream.rest)

    -- what came is the front of what was there
    same_bytes : (bytes : List ℕ) → mid.now.stream.rest ≡ bytes ++ new.now.stream.rest → took.bytes ≡ bytes
    same_bytes bytes front = append_cancel_right took.bytes bytes new.now.stream.rest (sym took.took.front ∙ front)

    taken_within : length all_taken ≤ most
    taken_within = omega (arith, run.counted, took.counted, within, length-append taken_frames took.bytes)

    still_kept : keeps new.now.disk.bytes
    still_kept = subst (λ (d : Disk). keeps d.bytes) (sym same) run.kept

    still_clean : NothingPending new
    still_clean = subst (λ (d : Disk). IsTrue d.clean) (sym same) run.clean

    still_sent : new.now.stream.sent ≡ old.now.stream.sent ++ flat_map frame_bytes run.replies
    still_sent = took.took.sent ∙ run.sent_is

    still_moments : Passes old new (CutAt turn stands s run.frames old.now.stream.sent)
    still_moments = then_quiet run.moments quiet

    still_answered : Answered turn stands s run.frames old.now.stream.sent new
    still_answered = record {
      state = state;
      replies = run.replies;
      follows = run.follows;
      sent_is = still_sent;
      image_stands = law new.now.disk.bytes still_kept;
      clean = still_clean;
    }

    at_start : (frames : List Frame) (sent image : List ℕ) → LeftNow old sent image → CutAt turn stands s frames old.now.stream.sent sent image
    at_start frames sent image was = none_out turn stands s frames old.now.stream.sent sent image (run.start.laws.sent_now sent image was)
        (subst (λ (l : List ℕ). stands l s) (sym (run.start.laws.clean_now run.start.clean sent image was)) run.start.image_stands)

    -- what a run leaves that took so much, of which these are the frames
    ran_by : (last : View) → last.now.stream.rest ≡ new.now.stream.rest → last.now.stream.taken ≡ new.now.stream.taken → (frames : List Frame) → AllFrames limit all_taken frames
        → Passes old last (CutAt turn stands s frames old.now.stream.sent)
        → (stop : Stop) → Outcome turn stands s limit most stop input all_taken frames old.now.stream.sent last → Ran turn stands s limit most stop old last
    ran_by last rest taken frames all moments stop is = record {
      survives = record {
        took = all_taken;
        front = all_front ∙ ap (λ (l : List ℕ). all_taken ++ l) (sym rest);
        frames = frames;
        all = all;
        each_moment = λ sent image left. promised turn stands s frames old.now.stream.sent sent image
            (each_moment moments (at_start frames) sent image left);
      };
      moments = widened moments (λ sent image c. promised turn stands s frames old.now.stream.sent sent image c);
      taken = omega (arith, taken, took.took.taken, run.taken, run.counted, took.counted, length-append taken_frames took.bytes);
      within = taken_within;
      outcome = is;
    }

    -- no frame came: behind those that did stands a rest
    ran : AllFrames limit all_taken run.frames → (stop : Stop) → Outcome turn stands s limit most stop input all_taken run.frames old.now.stream.sent new → Ran turn stands s limit most stop old new
    ran all stop is = ran_by new refl refl run.frames all still_moments stop is

    frames_and : IsPart limit took.bytes ⊎ IsLong limit took.bytes → AllFrames limit all_taken run.frames
    frames_and no_more = record { rest = took.bytes; splits = record { whole = refl; each = run.each }; no_more = no_more }

    -- all of the input was taken
    all_of_it : new.now.stream.rest ≡ [] → input ≡ all_taken
    all_of_it ended = all_front ∙ ap (λ (l : List ℕ). all_taken ++ l) ended ∙ append-nil all_taken

    -- the rest was taken
    rest_taken : new.now.stream.rest ≡ [] → took.bytes ≡ mid.now.stream.rest
    rest_taken ended = sym (append-nil took.bytes) ∙ ap (λ (l : List ℕ). took.bytes ++ l) (sym ended) ∙ sym took.took.front

    -- it ended in time
    in_time : new.now.stream.rest ≡ [] → count2 < most → length input < most
    in_time ended below = omega (arith, ap length (all_of_it ended), length-append taken_frames took.bytes, run.counted, took.counted)

    short : length input < most → take most input ≡ input
    short below = take_all most input (omega arith)

    whole : mid.now.stream.rest ≡ [] → new.now.stream.rest ≡ [] → count2 < most → Ran turn stands s limit most stops.Whole old new
    whole none ended below =
        let in_time_ = in_time ended below in
        ran (frames_and (inl (inl (rest_taken ended ∙ none)))) stops.Whole (record {
          events = record {
            rest = [];
            splits = record { whole = short in_time_ ∙ run.front ∙ ap (λ (l : List ℕ). taken_frames ++ l) none; each = run.each };
            ends = (refl, in_time_);
          };
          taken = sym (all_of_it ended);
          answered = still_answered;
        })

    cut : IsCut limit mid.now.stream.rest → new.now.stream.rest ≡ [] → count2 < most → Ran turn stands s limit most stops.Cut old new
    cut is ended below =
        let in_time_ = in_time ended below in
        ran (frames_and (inl (inr (subst (λ (l : List ℕ). IsCut limit l) (sym (rest_taken ended)) is)))) stops.Cut (record {
          events = record { rest = mid.now.stream.rest; splits = record { whole = short in_time_ ∙ run.front; each = run.each }; ends = (is, in_time_) };
          taken = sym (all_of_it ended);
          answered = still_answered;
        })

    -- a head says too much
    long : LongCame limit mid.now.stream.rest new.now.stream.rest → count + 5 ≤ count2 → Ran turn stands s limit most stops.Long old new
    long came grows =
        let head = came.head in
        let room = most - count in
        let front = ap (λ (l : List ℕ). take most l) run.front ∙ past taken_frames mid.now.stream.rest most room (omega (arith, run.counted)) in
        let five = length-four_bytes head.size in
        let head_front = ap (λ (l : List ℕ). take room l) head.spelled ∙ past (head.kind ∷ four_bytes head.size) head.behind room (room - 5) (omega (arith, five)) in
        let bytes = same_bytes (head.kind ∷ four_bytes head.size) (head.spelled ∙ ap (λ (l : List ℕ). (head.kind ∷ four_bytes head.size) ++ l) (sym came.stays)) in
        let alone = bytes ∙ sym (append-nil (head.kind ∷ four_bytes head.size)) in
        ran (frames_and (inr (record { kind = head.kind; size = head.size; behind = []; spelled = alone; size_fits = head.size_fits }, came.above))) stops.Long (record {
          events = record {
            rest = take room mid.now.stream.rest;
            splits = record { whole = front; each = run.each };
            ends = (record { kind = head.kind; size = head.size; behind = take (room - 5) head.behind; spelled = head_front; size_fits = head.size_fits }, came.above);
          };
          taken = (took.bytes, omega (arith, ap length bytes, five), refl);
          answered = still_answered;
        })

    part_is : (part : PartCame limit mid.now.stream.rest new.now.stream.rest) → IsPart limit took.bytes
    part_is part = subst (λ (l : List ℕ). IsPart limit l) (sym (same_bytes part.bytes part.front)) part.part

    -- no more may be taken
    spent : PartCame limit mid.now.stream.rest new.now.stream.rest → most ≤ count2 → Ran turn stands s limit most stops.Spent old new
    spent part reached =
        let size : length all_taken ≡ most = omega (arith, length-append taken_frames took.bytes, run.counted, took.counted) in
        let all = ap (λ (l : List ℕ). take most l) all_front ∙ take_at all_taken new.now.stream.rest most size in
        ran (frames_and (inl (part_is part))) stops.Spent (record {
          events = record {
            rest = took.bytes;
            splits = record { whole = all; each = run.each };
            ends = (part_is part, omega (arith, ap length all_front, length-append all_taken new.now.stream.rest, size));
          };
          taken = sym all;
          answered = still_answered;
        })

    -- a frame came whole, and this is the board behind its answer
    module _ (frame : Frame) (came : Came limit frame mid.now.stream.rest new.now.stream.rest) (last : View)
        (rest : last.now.stream.rest ≡ new.now.stream.rest) (taken : last.now.stream.taken ≡ new.now.stream.taken)
        (answering : Passes new last (WithinAnswer turn stands state frame new.now.stream.sent)) where
      abbrev more : List Frame
      more = run.frames ++ frame ∷ []

      more_frames : all_taken ≡ flat_map frame_bytes more
      more_frames = ap (λ (l : List ℕ). taken_frames ++ l) (same_bytes (frame_bytes frame) came.front) ∙ flat_map_more frame_bytes [] run.frames frame

      more_each : All (IsFrame limit) more
      more_each = All-push (IsFrame limit) run.frames frame run.each came.within

      more_all : AllFrames limit all_taken more
      more_all = record { rest = []; splits = record { whole = more_frames ∙ sym (append-nil (flat_map frame_bytes more)); each = more_each }; no_more = inl (inl refl) }

      more_moments : Passes old last (CutAt turn stands s more old.now.stream.sent)
      more_moments = goes_on still_moments answering
          (λ sent image c. grown turn stands s run.frames frame old.now.stream.sent sent image c)
          (λ sent image w. within_answer turn stands s run.frames state run.replies run.follows old.now.stream.sent frame new.now.stream.sent sent image still_sent w)

      ran_last : (stop : Stop) → Outcome turn stands s limit most stop input all_taken more old.now.stream.sent last → Ran turn stands s limit most stop old last
      ran_last stop is = ran_by last rest taken more more_all more_moments stop is

      went_on : (becomes : S) (keeps2 : List ℕ → Type 0) (reply : Frame) → turn state frame becomes reply → last.now.stream.sent ≡ new.now.stream.sent ++ frame_bytes reply → keeps2 last.now.disk.bytes → NothingPending last
          → Looping turn stands s limit count2 old last becomes keeps2
      went_on becomes keeps2 reply turns_ sent kept clean = record {
        start = run.start;
        frames = more;
        each = more_each;
        front = all_front ∙ ap (λ (l : List ℕ). all_taken ++ l) (sym rest) ∙ ap (λ (l : List ℕ). l ++ last.now.stream.rest) more_frames;
        counted = omega (arith, run.counted, took.counted, length-append taken_frames took.bytes, ap length more_frames);
        taken = omega (arith, taken, took.took.taken, run.taken, took.counted);
        replies = run.replies ++ reply ∷ [];
        follows = follows_push turn s run.frames state run.replies frame becomes reply run.follows turns_;
        sent_is = sent ∙ ap (λ (l : List ℕ). l ++ frame_bytes reply) still_sent ∙ flat_map_more frame_bytes old.now.stream.sent run.replies reply;
        kept = kept;
        clean = clean;
        moments = more_moments;
      }

    -- what a run leaves whose frame got this answer: it goes on, or it ends
    abbrev After : View → S → (List ℕ → Type 0) → Answer → Type 0
    After last becomes keeps2 turns.Sent = Looping turn stands s limit count2 old last becomes keeps2
    After last becomes keeps2 turns.SendFault = Ran turn stands s limit most stops.SendFault old last
    After last becomes keeps2 turns.DiskFault = Ran turn stands s limit most stops.DiskFault old last
    After last becomes keeps2 turns.NoMemory = Ran turn stands s limit most stops.NoMemory old last

    pub after : (frame : Frame) → Came limit frame mid.now.stream.rest new.now.stream.rest → (last : View) (becomes : S) (keeps2 : List ℕ → Type 0) (result : Answer)
        → (NothingPending new → keeps new.now.disk.bytes → Turned turn stands state frame becomes keeps2 new last result) → After last becomes keeps2 result
    after frame came last becomes keeps2 turns.Sent turned =
        let is = turned still_clean still_kept in
        let sent = is.ends.sent in
        went_on frame came last (ap (λ (t : Stream). t.rest) sent) (ap (λ (t : Stream). t.taken) sent) is.moments becomes keeps2 is.ends.reply is.ends.turns (ap (λ (t : Stream). t.sent) sent) is.ends.kept is.ends.clean
    after frame came last becomes keeps2 turns.SendFault turned =
        let is = turned still_clean still_kept in
        let sent = is.ends.sent in
        ran_last frame came last (ap (λ (t : Stream). t.rest) sent) (ap (λ (t : Stream). t.taken) sent) is.moments stops.SendFault (record {
          state = is.ends.becomes;
          replies = run.replies;
          last = is.ends.reply;
          follows = follows_push turn s run.frames state run.replies frame is.ends.becomes is.ends.reply run.follows is.ends.turns;
          front = (is.ends.front, is.ends.begins, ap (λ (t : Stream). t.sent) sent ∙ ap (λ (l : List ℕ). l ++ is.ends.front) still_sent);
          image_stands = is.ends.image_stands;
          clean = is.ends.clean;
        })
    after frame came last becomes keeps2 turns.DiskFault turned =
        let is = turned still_clean still_kept in
        let silent = is.ends.silent in
        ran_last frame came last (ap (λ (t : Stream). t.rest) silent) (ap (λ (t : Stream). t.taken) silent) is.moments stops.DiskFault (record {
          first = run.frames;
          last = frame;
          frames_are = refl;
          state = state;
          replies = run.replies;
          follows = run.follows;
          sent_is = ap (λ (t : Stream). t.sent) silent ∙ still_sent;
          image_stands = is.ends.image_stands;
        })
    after frame came last becomes keeps2 turns.NoMemory turned =
        let is = turned still_clean still_kept in
        let silent = is.ends.stream in
        ran_last frame came last (ap (λ (t : Stream). t.rest) silent) (ap (λ (t : Stream). t.taken) silent) is.moments stops.NoMemory (inr (record {
          first = run.frames;
          last = frame;
          frames_are = refl;
          answered = record {
            state = state;
            replies = run.replies;
            follows = run.follows;
            sent_is = ap (λ (t : Stream). t.sent) silent ∙ still_sent;
            image_stands = subst (λ (d : Disk). stands d.bytes state) (sym is.ends.disk) (law new.now.disk.bytes still_kept);
            clean = subst (λ (d : Disk). IsTrue d.clean) (sym is.ends.disk) still_clean;
          };
        }))

    -- what a run leaves that ends without another frame
    abbrev Leaves : Next → Type 0
    Leaves (Got kind body) = Unit {0}
    Leaves Whole = Ran turn stands s limit most stops.Whole old new
    Leaves Long = Ran turn stands s limit most stops.Long old new
    Leaves Cut = Ran turn stands s limit most stops.Cut old new
    Leaves Spent = Ran turn stands s limit most stops.Spent old new
    Leaves ReadFault = Ran turn stands s limit most stops.ReadFault old new
    Leaves NoMemory = Ran turn stands s limit most stops.NoMemory old new

    pub left : (next : Next) → Grows count count2 next → Nexts limit most count2 mid.now.stream.rest new.now.stream.rest next → Leaves next
    left (Got kind body) grows is = tt
    left Whole grows is = whole is.0 is.1 is.2
    left Long grows is = long is grows
    left Cut grows is = cut is.0 is.1 is.2
    left Spent grows is = spent is.0 is.1
    left ReadFault grows is = ran (frames_and (inl (part_is is))) stops.ReadFault still_answered
    left NoMemory grows is = ran (frames_and (inl (part_is is))) stops.NoMemory (inl still_answered)
