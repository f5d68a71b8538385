-- A run behind calls that took nothing, sent nothing and added no moment.
use Rattle.std.proofs.Common.{◌≡◌, ◌+◌, ◌++◌, ℕ, List, [], length, refl, sym, ap, subst, inl}
use Rattle.std.proofs.lemmas.List.Elements.{All-nil}
use Rattle.outside_core.specs.Stream.{Stream}
use Rattle.board_core.specs.Contents.{View, NothingPending, Silent}
use Rattle.board_core.specs.Moments.{Passes, NoMoment, Lawful, LeftNow}
use Rattle.board_core.proofs.Public.Chaining.{quiet_then, widened, each_moment}
use Rattle.frames.specs.Frames.{Frame}
use Rattle.frames.specs.Reading.{IsFrame}
use Rattle.turn_loop.specs.Promised.{Promised, Survives}
use Rattle.turn_loop.specs.Outcome.{Outcome, Ran}
use Rattle.turn_loop.specs.declared.stop.Stop.{Stop}
use Rattle.turn_loop.proofs.Cutting.{none_out, promised}

module _ {S : Type 0} (turn : S → Frame → S → Frame → Type 0) (stands : List ℕ → S → Type 0) (s : S) (limit : ℕ) (old mid : View)
    (laws : Lawful old) (clean : NothingPending old) (stood : stands old.now.disk.bytes s) (silent : Silent old mid) (quiet : Passes old mid NoMoment) where
  -- what a crash at the start leaves is promised of any frames
  at_start : (frames : List Frame) (sent image : List ℕ) → LeftNow old sent image → Promised turn stands s frames old.now.stream.sent sent image
  at_start frames sent image left = promised turn stands s frames old.now.stream.sent sent image (none_out turn stands s frames old.now.stream.sent sent image (laws.sent_now sent image left)
      (subst (λ (l : List ℕ). stands l s) (sym (laws.clean_now clean sent image left)) stood))

  -- no frame was taken
  pub none_taken : Survives turn stands s limit old mid
  none_taken = record {
    took = [];
    front = sym (ap (λ (t : Stream). t.rest) silent);
    frames = [];
    all = record { rest = []; splits = record { whole = refl; each = All-nil (IsFrame limit) }; no_more = inl (inl refl) };
    each_moment = λ sent image left. each_moment (widened quiet (λ sent image never. absurd never)) (at_start []) sent image left;
  }

  -- a run from there is one from the start
  pub ran_from : (most : ℕ) (new : View) (stop : Stop) → Ran turn stands s limit most stop mid new → Ran turn stands s limit most stop old new
  ran_from most new stop run =
      let took : List ℕ = run.survives.took in
      let frames : List Frame = run.survives.frames in
      let moments : Passes old new (Promised turn stands s frames old.now.stream.sent) =
      quiet_then quiet (subst (λ (t : Stream). Passes mid new (Promised turn stands s frames t.sent)) silent run.moments) in
      record {
        survives = record {
          took = took;
          front = subst (λ (t : Stream). t.rest ≡ took ++ new.now.stream.rest) silent run.survives.front;
          frames = frames;
          all = run.survives.all;
          each_moment = λ sent image left. each_moment moments (at_start frames) sent image left;
        };
        moments = moments;
        taken = subst (λ (t : Stream). new.now.stream.taken ≡ t.taken + length took) silent run.taken;
        within = run.within;
        outcome = subst (λ (t : Stream). Outcome turn stands s limit most stop t.rest took frames t.sent new) silent run.outcome;
      }
