-- What becomes of a manifest before anything of it is run.
use Rattle.std.proofs.Common.{◌≡◌, ◌<◌, List, None, Err, Ok, Result, inl, inr, ap, ◌∙◌}
use Rattle.std.specs.Prelude.{IfOk}
use Rattle.base_types.specs.declared.limits.TheConstants.{MANIFESTS_LIMIT}
use Rattle.base_types.specs.declared.memory.NoMemory.{NoMemory}
use Rattle.item_codec.specs.Answers.{IsAnswer}
use Rattle.suit_envelope.specs.declared.envelope.Envelope.{Envelope}
use Rattle.suit_envelope.specs.declared.manifest.Manifest.{Manifest}
use Rattle.suit_envelope.specs.declared.fault.EnvelopeFault.{EnvelopeFault}
use Rattle.suit_envelope.specs.declared.fault.EnvelopeFault.TheVariants as faults
use Rattle.suit_envelope.specs.Envelopes.{EnvelopeIs}
use Rattle.suit_engine.specs.Contents.{Contents}
use Rattle.suit_engine.proofs.Public.Suspended.{fresh_goes_on}
use Rattle.device_state.specs.declared.heads.RowHead.{RowHead}
use Rattle.manifest_judge.specs.declared.word.Word.TheVariants.{Form}
use Rattle.manifest_judge.specs.declared.candidate.Entry.{Entry}
use Rattle.manifest_judge.specs.declared.candidate.Entry.TheVariants.{Goes, Fails}
use Rattle.manifest_judge.specs.Subjects.{Subject}
use Rattle.manifest_judge.specs.Openings.{Begins, IsFresh}
use Rattle.manifest_judge.specs.Answers.{Carries}

-- bytes that are no envelope are refused by `form`
pub refused_form : (s : Subject) (fault : EnvelopeFault) → s.place < MANIFESTS_LIMIT
    → ((e : Envelope) → EnvelopeIs e s.bytes → IsAnswer faults.NoMemory (Err fault) (Ok e))
    → (r : Result Entry NoMemory) → IfOk r (λ it. (fault ≡ faults.NoMemory → ⊥) × (it ≡ Fails Form)) → IfOk r (Begins s)
refused_form s fault early only (Err none) told = tt
refused_form s fault early only (Ok it) told = inl (record {
  holds = early;
  decides = inr (record {
    none = λ e is. elim (only e is) [
      | inl found ↦ absurd cc
      | inr memory ↦ told.0 (cc)
    ];
    refused = told.1;
  });
})

-- where nothing waits, it may be run with whatever was fetched
pub carried_fresh : (rows : List RowHead) (m : Manifest) (engine : Contents) → engine.waiting ≡ None → (r : Result Entry NoMemory) → IfOk r (Carries rows m engine) → IfOk r IsFresh
carried_fresh rows m engine waits (Err none) carries = tt
carried_fresh rows m engine waits (Ok (Fails word)) carries = tt
carried_fresh rows m engine waits (Ok (Goes candidate)) carries = λ env.
    fresh_goes_on candidate.engine env (ap (λ (e : Contents). e.waiting) carries.0 ∙ waits)
