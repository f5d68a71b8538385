-- Where nothing failed, the end of the input decides the stop.
use Rattle.std.proofs.Common.{◌≢◌, ◌^◌, ◌<◌, ℕ, List, refl, ap, subst}
use Rattle.board_core.specs.Contents.{View}
use Rattle.frames.specs.Frames.{Frame}
use Rattle.frames.specs.Reading.{End, Events}
use Rattle.frames.specs.Reading.End.{Whole as WholeEnd, Long as LongEnd, Cut as CutEnd, Spent as SpentEnd}
use Rattle.frames.proofs.Public.OneReading.{at_most_one}
use Rattle.turn_loop.specs.Outcome.{Answered, EndedAs, Ran, Completed, StopCause, NothingFailed}
use Rattle.turn_loop.specs.Stops.{stop_of}
use Rattle.turn_loop.specs.declared.stop.Stop.{Stop}
use Rattle.turn_loop.specs.declared.stop.Stop.TheVariants.{Whole, Cut, Long, Spent, ReadFault, SendFault, DiskFault, NoMemory}
use Rattle.turn_loop.proofs.Caused.{blames_nothing}

module _ {S : Type 0} (turn : S → Frame → S → Frame → Type 0) (stands : List ℕ → S → Type 0) (s : S) (limit most : ℕ) (limit_fits : limit < 2 ^ 32) (old new : View)
    (frames : List Frame) (end : End) (events : Events limit most old.now.stream.rest frames end) where
  completed : (found : End) (took : List ℕ) (came : List Frame) → EndedAs turn stands s limit most found old.now.stream.rest took came old.now.stream.sent new
      → Completed turn stands s (stop_of found) end frames old.now.stream.sent new
  completed found took came ended =
      let same = at_most_one limit limit_fits most old.now.stream.rest came frames found end ended.events events in
      record {
        stop_is = ap stop_of same.1;
        answered = subst (λ (l : List Frame). Answered turn stands s l old.now.stream.sent new) same.0 ended.answered;
      }

  by_stop : (stop : Stop) → Ran turn stands s limit most stop old new → stop ≢ ReadFault → stop ≢ SendFault → stop ≢ DiskFault → stop ≢ NoMemory
      → Completed turn stands s stop end frames old.now.stream.sent new
  by_stop Whole ran read send disk memory = completed WholeEnd ran.survives.took ran.survives.frames ran.outcome
  by_stop Cut ran read send disk memory = completed CutEnd ran.survives.took ran.survives.frames ran.outcome
  by_stop Long ran read send disk memory = completed LongEnd ran.survives.took ran.survives.frames ran.outcome
  by_stop Spent ran read send disk memory = completed SpentEnd ran.survives.took ran.survives.frames ran.outcome
  by_stop ReadFault ran read send disk memory = absurd (read refl)
  by_stop SendFault ran read send disk memory = absurd (send refl)
  by_stop DiskFault ran read send disk memory = absurd (disk refl)
  by_stop NoMemory ran read send disk memory = absurd (memory refl)

  pub exactly : (stop : Stop) → Ran turn stands s limit most stop old new → StopCause stop old new → NothingFailed old new → stop ≢ NoMemory → Completed turn stands s stop end frames old.now.stream.sent new
  exactly stop ran cause nothing memory = let blames = blames_nothing cause nothing in by_stop stop ran blames.0 blames.1 blames.2 memory
