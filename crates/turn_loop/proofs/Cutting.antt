-- What is promised of a moment, without the count of replies that have begun: it stays so as frames come.
use Rattle.std.proofs.Common.{◌≡◌, ◌∙◌, ◌++◌, ℕ, List, [], ◌∷◌, length, take, refl, sym, ap, subst, inl, inr, arith, length-append, append_assoc}
use Rattle.std.proofs.lemmas.List.{append-nil, flat_map_more, take_at}
use Rattle.std.specs.List.{flat_map}
use Rattle.outside_core.specs.Stream.{Begins}
use Rattle.frames.specs.Frames.{Frame, frame_bytes}
use Rattle.turn_loop.specs.Follows.{Follows}
use Rattle.turn_loop.specs.Promised.{Promised}
use Rattle.turn_loop.specs.Turns.{BegunReply, WithinAnswer}
use Rattle.turn_loop.proofs.Begun.{begun_cut}
use Rattle.turn_loop.proofs.Following.{follows_push, as_many}

-- as `Promised`, by the frames that the image stands behind and those that are left, and with no count of replies
pub record Cut {S : Type 0} (turn : S → Frame → S → Frame → Type 0) (stands : List ℕ → S → Type 0) (s : S) (frames : List Frame) (before sent image : List ℕ) : Type 0 where
  pub done : List Frame
  pub left : List Frame
  pub frames_are : frames ≡ done ++ left
  pub state : S
  pub replies : List Frame
  pub follows : Follows turn s done state replies
  pub image_stands : stands image state
  pub since : List ℕ
  pub sent_is : sent ≡ before ++ since
  pub replied : (first : List Frame) (last : Frame) → replies ≡ first ++ last ∷ [] → Begins (flat_map frame_bytes first) since
  pub sent_within : Begins since (flat_map frame_bytes replies)

push_cancel : (xs : List Frame) (x : Frame) (ys : List Frame) (y : Frame) → xs ++ x ∷ [] ≡ ys ++ y ∷ [] → xs ≡ ys
push_cancel [] x [] y same = refl
push_cancel [] x (z ∷ []) y same = cc
push_cancel [] x (z ∷ w ∷ ws) y same = cc
push_cancel (z ∷ []) x [] y same = cc
push_cancel (z ∷ w ∷ ws) x [] y same = cc
push_cancel (v ∷ xs) x (w ∷ ys) y same =
    let heads : v ≡ w = cc same in
    let tails : xs ++ x ∷ [] ≡ ys ++ y ∷ [] = cc same in
    let more : xs ≡ ys = push_cancel xs x ys y tails in
    cc

module _ {S : Type 0} (turn : S → Frame → S → Frame → Type 0) (stands : List ℕ → S → Type 0) (s : S) where
  -- one frame more came
  pub grown : (frames : List Frame) (frame : Frame) (before sent image : List ℕ) → Cut turn stands s frames before sent image → Cut turn stands s (frames ++ frame ∷ []) before sent image
  grown frames frame before sent image c = record {
    done = c.done;
    left = c.left ++ frame ∷ [];
    frames_are = ap (λ (l : List Frame). l ++ frame ∷ []) c.frames_are ∙ append_assoc c.done c.left (frame ∷ []);
    state = c.state;
    replies = c.replies;
    follows = c.follows;
    image_stands = c.image_stands;
    since = c.since;
    sent_is = c.sent_is;
    replied = c.replied;
    sent_within = c.sent_within;
  }

  -- the start: nothing is out, and the image stands for the first state
  pub none_out : (frames : List Frame) (before sent image : List ℕ) → sent ≡ before → stands image s → Cut turn stands s frames before sent image
  none_out frames before sent image is st = record {
    done = [];
    left = frames;
    frames_are = refl;
    state = s;
    replies = [];
    follows = refl;
    image_stands = st;
    since = [];
    sent_is = is ∙ sym (append-nil before);
    replied = λ first last same. absurd (omega (arith, ap length same, length-append first (last ∷ [])));
    sent_within = ([], refl);
  }

  module _ (frames : List Frame) (state : S) (replies : List Frame) (follows : Follows turn s frames state replies) (before : List ℕ) where
    abbrev out : List ℕ
    out = flat_map frame_bytes replies

    -- all replies are out, and the image stands behind their frames
    pub all_out : (sent image : List ℕ) → sent ≡ before ++ out → stands image state → Cut turn stands s frames before sent image
    all_out sent image is st = record {
      done = frames;
      left = [];
      frames_are = sym (append-nil frames);
      state = state;
      replies = replies;
      follows = follows;
      image_stands = st;
      since = out;
      sent_is = is;
      replied = λ first last same. (frame_bytes last, ap (λ (l : List Frame). flat_map frame_bytes l) same ∙ sym (flat_map_more frame_bytes [] first last));
      sent_within = ([], sym (append-nil out));
    }

    -- a front of one reply more is out, and the image stands behind its frame
    one_more : (frame : Frame) (between sent image : List ℕ) → between ≡ before ++ out → BegunReply turn stands state frame between sent image → Cut turn stands s (frames ++ frame ∷ []) before sent image
    one_more frame between sent image is b =
        let front = b.front.0 in
        record {
          done = frames ++ frame ∷ [];
          left = [];
          frames_are = sym (append-nil (frames ++ frame ∷ []));
          state = b.becomes;
          replies = replies ++ b.reply ∷ [];
          follows = follows_push turn s frames state replies frame b.becomes b.reply follows b.turns;
          image_stands = b.image_stands;
          since = out ++ front;
          sent_is = b.front.2 ∙ ap (λ (l : List ℕ). l ++ front) is ∙ append_assoc before out front;
          replied = λ first last same. (front, ap (λ (l : List Frame). flat_map frame_bytes l ++ front) (push_cancel replies b.reply first last same));
          sent_within = (b.front.1.0, sym (flat_map_more frame_bytes [] replies b.reply) ∙ ap (λ (l : List ℕ). out ++ l) b.front.1.1 ∙ sym (append_assoc out front b.front.1.0));
        }

    -- a moment within the answer to the next frame
    pub within_answer : (frame : Frame) (between sent image : List ℕ) → between ≡ before ++ out → WithinAnswer turn stands state frame between sent image → Cut turn stands s (frames ++ frame ∷ []) before sent image
    within_answer frame between sent image is (inl same) = grown frames frame before sent image (all_out sent image (same.0 ∙ is) same.1)
    within_answer frame between sent image is (inr b) = one_more frame between sent image is b

  -- the count of replies that have begun is brought in
  pub promised : (frames : List Frame) (before sent image : List ℕ) → Cut turn stands s frames before sent image → Promised turn stands s frames before sent image
  promised frames before sent image c =
      let many = as_many turn s c.done c.state c.replies c.follows in
      let counted = begun_cut c.replies (length c.since)
      (λ first last is. let b = c.replied first last is in omega (arith, ap length b.1, length-append (flat_map frame_bytes first) b.0))
      (let b = c.sent_within in omega (arith, ap length b.1, length-append c.since b.0)) in
      let taken : take (length c.done) frames ≡ c.done = ap (λ (l : List Frame). take (length c.done) l) c.frames_are ∙ take_at c.done c.left (length c.done) refl in
      record {
        cut = length c.done;
        within = omega (arith, ap length c.frames_are, length-append c.done c.left);
        state = c.state;
        replies = c.replies;
        follows = subst (λ (l : List Frame). Follows turn s l c.state c.replies) (sym taken) c.follows;
        image_stands = c.image_stands;
        since = c.since;
        sent_is = c.sent_is;
        replied = c.replied;
        sent_within = c.sent_within;
        begun_or_next = elim counted [ inl is ↦ inl (many ∙ is) | inr is ↦ inr (many ∙ is) ];
      }
