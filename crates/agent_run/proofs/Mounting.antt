-- A run behind the mount of its image.
use Rattle.std.proofs.Common.{◌≡◌, ℕ, List, subst, sym, ◌∙◌, inl, inr}
use Rattle.base_types.specs.declared.limits.TheConstants.{FRAME_IN_LIMIT, INPUT_LIMIT}
use Rattle.outside_core.specs.Stream.{Stream}
use Rattle.board_core.specs.Contents.{View, NothingPending, Silent}
use Rattle.board_core.specs.Moments.{Passes, NoMoment, Lawful}
use Rattle.board_core.proofs.Public.Chaining.{quiet_then}
use Rattle.frames.specs.Frames.{Frame}
use Rattle.frames.specs.Reading.{End, Events}
use Rattle.device_state.specs.State.{State}
use Rattle.device_image.specs.Stands.{Stands}
use Rattle.device_image.specs.Law.{OneState}
use Rattle.component_store.specs.Stores.{state, keeps}
use Rattle.component_store.specs.StoreLaws.{any_stands}
use Rattle.component_store.specs.declared.any.AnyStore.{AnyStore}
use Rattle.turn_loop.specs.Promised.{Survives}
use Rattle.turn_loop.specs.Outcome.{Answered}
use Rattle.turn_loop.proofs.Public.Before.{none_taken, ran_from}
use Rattle.agent_core.specs.Turns.{Turn, StandsFor, started}
use Rattle.agent_run.specs.Outcome.{Mounted, RanToEnd}
use Rattle.agent_run.specs.Running.{StoreRan}
use Rattle.agent_run.specs.declared.status.Status.{Status}

-- the state of a store that keeps the image is the one for which the image stands
same_state : OneState → (store : AnyStore) (image : List ℕ) → keeps store image → (s : State) → Stands image s → state store ≡ s
same_state one store image kept s stood = one image (state store) s (any_stands store image kept) stood

module _ (old mid : View) (one : OneState) (store : AnyStore) (kept : keeps store old.now.disk.bytes) (s : State) (stood : Stands old.now.disk.bytes s)
    (bytes : mid.now.disk.bytes ≡ old.now.disk.bytes) where
  still_kept : keeps store mid.now.disk.bytes
  still_kept = subst (λ (l : List ℕ). keeps store l) (sym bytes) kept

  -- a run of the mounted store is one of that state
  pub ran_as : (new : View) (status : Status) → (keeps store mid.now.disk.bytes → StoreRan (state store) status mid new) → StoreRan s status mid new
  ran_as new status run = subst (λ (t : State). StoreRan t status mid new) (same_state one store old.now.disk.bytes kept s stood) (run still_kept)

  -- and so is one to its end
  pub ended_as : Silent old mid → (new : View) (status : Status) (frames : List Frame) (end : End) → Events FRAME_IN_LIMIT INPUT_LIMIT old.now.stream.rest frames end
      → (keeps store mid.now.disk.bytes → Events FRAME_IN_LIMIT INPUT_LIMIT mid.now.stream.rest frames end → RanToEnd (state store) status end frames mid new) → RanToEnd s status end frames mid new
  ended_as silent new status frames end events run =
      subst (λ (t : State). RanToEnd t status end frames mid new) (same_state one store old.now.disk.bytes kept s stood)
      (run still_kept (subst (λ (t : Stream). Events FRAME_IN_LIMIT INPUT_LIMIT t.rest frames end) (sym silent) events))

module _ (old mid : View) (laws : Lawful old) (clean : NothingPending old) (s : State) (stood : Stands old.now.disk.bytes s)
    (silent : Silent old mid) (bytes : mid.now.disk.bytes ≡ old.now.disk.bytes) (quiet : Passes old mid NoMoment) where
  -- no frame was taken
  pub not_started : Survives Turn StandsFor (started s) FRAME_IN_LIMIT old mid
  not_started = none_taken Turn StandsFor (started s) FRAME_IN_LIMIT old mid laws clean stood silent quiet

  module _ (new : View) (status : Status) where
    pub survived : StoreRan s status mid new → Survives Turn StandsFor (started s) FRAME_IN_LIMIT old new
    survived (inl run) = (ran_from Turn StandsFor (started s) FRAME_IN_LIMIT old mid laws clean stood silent quiet INPUT_LIMIT new run.stop run.ran).survives
    survived (inr none) = none_taken Turn StandsFor (started s) FRAME_IN_LIMIT old new laws clean stood (none.silent ∙ silent) (quiet_then quiet none.moments)

    pub mounted : StoreRan s status mid new → Mounted s status old new
    mounted (inl run) = inl (record { stop = run.stop; status_is = run.status_is; ran = ran_from Turn StandsFor (started s) FRAME_IN_LIMIT old mid laws clean stood silent quiet INPUT_LIMIT new run.stop run.ran })
    mounted (inr none) = inr (record { blamed = inr none.blamed; silent = none.silent ∙ silent; bytes = none.bytes ∙ bytes })

    pub to_end : (end : End) (frames : List Frame) → RanToEnd s status end frames mid new → RanToEnd s status end frames old new
    to_end end frames run = record { status_is = run.status_is; answered = subst (λ (t : Stream). Answered Turn StandsFor (started s) frames t.sent new) silent run.answered }
