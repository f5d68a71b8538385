-- What is heard, from one part of an event to the next.
use Rattle.std.proofs.Common.{◌≡◌, ◌⊎◌, ◌<◌, ℕ, List, [], ◌∷◌, refl, ◌∙◌, ap, subst, inl, inr, arith}
use Rattle.std.specs.Prelude.{Bool, false, ◌==◌, Option, Some, None, Result, Ok, Err, IfOk, option_map}
use Rattle.std.specs.List.{AllByRecursion}
use Rattle.std.proofs.lemmas.Bool.{ne_eqb}
use Rattle.base_types.specs.declared.memory.NoMemory.{NoMemory}
use Rattle.cbor_core.specs.declared.item.Item.{Item}
use Rattle.cbor_fields.specs.Views.{IsIdentifier}
use Rattle.cose_core.specs.declared.sign1.Sign1.{Sign1}
use Rattle.hss_sign.specs.Params.{capacity}
use Rattle.teep_messages.specs.declared.fault.MessageFault.{MessageFault}
use Rattle.teep_messages.specs.declared.fault.MessageFault.TheVariants as faults
use Rattle.teep_messages.specs.declared.operation.Operation.{Operation}
use Rattle.teep_messages.specs.declared.options.Options.{Options}
use Rattle.teep_messages.specs.Messages.{MessageIs, RefusedAs}
use Rattle.trust_anchors.specs.declared.role.Role.TheVariants as role
use Rattle.trust_anchors.specs.Verified.{Verified, VerifiedBy}
use Rattle.device_config.specs.declared.config.Config.{Config}
use Rattle.device_state.specs.declared.heads.RowHead.{RowHead}
use Rattle.device_state.specs.declared.rows.ManifestRow.{ManifestRow}
use Rattle.device_state.specs.State.{State}
use Rattle.device_state.specs.Heads.{heads}
use Rattle.device_state.specs.Valid.{IsRow}
use Rattle.agent_replies.specs.Saying.{answer_to, is_known}
use Rattle.agent_core.specs.declared.event.Event.{Event}
use Rattle.agent_core.specs.declared.event.Event.TheVariants.{Message, Payload, FetchFailed, Strange}
use Rattle.agent_core.specs.declared.refusal.Refusal.{Refusal}
use Rattle.agent_core.specs.declared.refusal.Refusal.TheVariants.{Kind, NotCose, NotSigned, NotMessage}
use Rattle.agent_core.specs.declared.session.Session.{Session}
use Rattle.agent_core.specs.declared.hearing.Heard.{Heard}
use Rattle.agent_core.specs.declared.hearing.Heard.TheVariants as heard
use Rattle.agent_core.specs.Answers.{Answer, Refused, Says, Answers, AnswersContent, AnswersPayload, question_answer, session_behind}
use Rattle.agent_core.specs.Hearing.{Hears, HasLeaf, session_of}

-- a refusal is heard
pub hears_refused : {P : Answer → Type 0} (s : State) (refusal : Refusal) → P (Refused refusal) → Hears s P (heard.Refused refusal)
hears_refused s refusal is = record { answer = Refused refusal; is = is; heard_is = refl }

-- an event that is no message is refused for its kind
pub hears_other : (s : State) (event : Event) → ((bytes : List ℕ) → event ≡ Message bytes → ⊥) → Hears s (Answers s event) (heard.Refused Kind)
hears_other s (Message bytes) other = absurd (other bytes refl)
hears_other s (Payload body) other = hears_refused s Kind refl
hears_other s FetchFailed other = hears_refused s Kind refl
hears_other s Strange other = hears_refused s Kind refl

-- an envelope without a payload is refused as none
pub hears_no_content : {X : Type 0} (s : State) (value : Sign1) (payload : Option X) (bytes : X → List ℕ) → ((x : X) → payload ≡ Some x → ⊥)
    → option_map bytes payload ≡ value.payload → Hears s (AnswersContent s value value.payload) (heard.Refused NotCose)
hears_no_content s value (Some x) bytes none is = absurd (none x refl)
hears_no_content s value None bytes none is = subst (λ (o : Option (List ℕ)). Hears s (AnswersContent s value o) (heard.Refused NotCose)) is (hears_refused s NotCose refl)

-- equal parts are verified alike
pub verified_too : {a b : Config} {p q x y : List ℕ} (content : List ℕ) → a ≡ b → p ≡ q → x ≡ y → (at : ℕ)
    → VerifiedBy b.anchors role.Manager q y content at → VerifiedBy a.anchors role.Manager p x content at
verified_too content configs headers signatures at verified = rw (configs, headers, signatures) verified

-- a payload that none of the manager's keys signed is refused as such
pub hears_unsigned : (s : State) (value : Sign1) (payload : List ℕ) → Some payload ≡ value.payload → ((at : ℕ) → Verified s.config.anchors role.Manager value payload at → ⊥)
    → Hears s (AnswersContent s value value.payload) (heard.Refused NotSigned)
hears_unsigned s value payload is never = subst (λ (o : Option (List ℕ)). Hears s (AnswersContent s value o) (heard.Refused NotSigned)) is
    (hears_refused s NotSigned (inr (record { unsigned = λ signed. never signed.0 signed.1; answer_is = refl })))

-- a payload that is refused, and not for want of memory, is no message
pub hears_no_message : (s : State) (payload : List ℕ) (fault : MessageFault) (result : Result Heard NoMemory) → (fault ≡ faults.NoMemory) ⊎ RefusedAs payload fault
    → IfOk result (λ it. (fault ≡ faults.NoMemory → ⊥) × (it ≡ heard.Refused NotMessage)) → IfOk result (Hears s (AnswersPayload s payload))
hears_no_message s payload fault (Ok it) (inl memory) told = absurd (told.0 memory)
hears_no_message s payload fault (Ok it) (inr refused) told =
    rw told.1 (hears_refused s NotMessage (inr (record { fault = fault; refused = refused; answer_is = refl })))
hears_no_message s payload fault (Err e) why told = tt

-- a number below another is not that one
below_differs : (m n : ℕ) → m < n → (m == n) ≡ false
below_differs m n lt = ne_eqb m n (λ e. omega (arith, lt, e))

-- a question with a token is answered where a leaf is left
pub question_says : (s : State) (config : Config) (rows : List RowHead) (asked : Options) (suites : List (List Operation)) (profiles : List (List Item)) (items : ℕ) (token : List ℕ)
    (ready : Bool) (message : List ℕ) (session : Session) → config ≡ s.config → rows ≡ heads s.rows → asked.token ≡ Some token → HasLeaf s
    → MessageIs (answer_to config.device rows asked suites profiles items token) message → ready ≡ is_known asked suites profiles → session ≡ session_of ready token
    → Hears s (λ answer. answer ≡ question_answer s asked suites profiles items asked.token) (heard.Says message session)
question_says s config rows asked suites profiles items token ready message session configs all has leaf is known becomes =
    let differs : (s.leaf == capacity s.config.params) ≡ false = below_differs s.leaf (capacity s.config.params) leaf.left in
    record {
      answer = Says (answer_to s.config.device (heads s.rows) asked suites profiles items token) (session_behind asked suites profiles token);
      is = rw (has, differs) refl;
      heard_is = record {
        message_is = subst (λ (rs : List RowHead). MessageIs (answer_to s.config.device rs asked suites profiles items token) message) all
            (subst (λ (v : Config). MessageIs (answer_to v.device rows asked suites profiles items token) message) configs is);
        session_is = becomes ∙ ap (λ (b : Bool). session_of b token) known;
        leaf = leaf;
      };
    }

-- the heads of rows have identifiers
pub heads_have_ids : (rows : List ManifestRow) → AllByRecursion IsRow rows → AllByRecursion (λ row. IsIdentifier row.id) (heads rows)
heads_have_ids [] all = tt
heads_have_ids (row ∷ rows) all = (all.0.id.identifier, heads_have_ids rows all.1)
