-- The bodies of a journal are gone through over a board.
use Rattle.std.proofs.Common.{◌≡◌, ◌<◌, ◌≤◌, ◌+◌, ℕ, List, [], ◌∷◌, ◌++◌, Option, Some, Result, Ok, Err, length, take, drop, get_or, add-one, refl, sym, ap, subst, ◌∙◌, arith}
use Rattle.std.specs.List.{slice_get}
use Rattle.std.specs.List.Sorted.{IsStrictlySortedBy}
use Rattle.std.proofs.lemmas.List.{take-append-drop, take_all, take_more}
use Rattle.std.proofs.lemmas.Option.{slice_get-get_or}
use Rattle.std.proofs.Math.Seq.{drop-cons}
use Rattle.board_core.specs.Contents.{View, Disk, Same}
use Rattle.board_core.specs.Moments.{Passes, NoMoment}
use Rattle.board_core.specs.Calls.{DiskCausedBy}
use Rattle.board_core.proofs.Public.Chaining.{stays, then_quiet}
use Rattle.board_core.proofs.Public.Counts.{same_none, same_both}
use Rattle.journal_core.specs.Kept.{Kept, Fits, IsWithin}
use Rattle.journal_core.specs.declared.region.Region.{Region}
use Rattle.device_config.specs.declared.config.Config.{Config}
use Rattle.device_config.specs.declared.fault.MountFault.{MountFault}
use Rattle.device_config.specs.declared.fault.MountFault.TheVariants.{BadImage, DiskFault, NoMemory}
use Rattle.device_state.specs.declared.rows.ManifestRow.{ManifestRow}
use Rattle.device_state.specs.declared.change.Change.{Change}
use Rattle.device_state.specs.State.{State, new_state, changed}
use Rattle.device_state.specs.Valid.{IsValid}
use Rattle.device_state.specs.Law.{AreInOrder}
use Rattle.commit_records.specs.Changes.{ChangeIs}
use Rattle.device_image.specs.declared.held.Held.{Held}
use Rattle.device_image.specs.Stands.{Leads}
use Rattle.device_image.specs.Held.{state_of, head_of}
use Rattle.device_image.specs.Replay.{IsOf, Takes, TakenAs, ReplayedAs, JudgedAs, SettledAs}
use Rattle.device_image.proofs.Leading.{more_leads, none_leads, next_follows, one_led, Follows}
use Rattle.device_image.proofs.Causes.{no_call, worked, behind}

-- no rows are in order
none_in_order : AreInOrder []
unfolding IsStrictlySortedBy
none_in_order = record { ascend = tt; ordered = tt }

-- bodies up to an index lead to what is held, and each load until then worked
pub record Going (told : Type 0) (start held : Held) (old new : View) (index : ℕ) : Type 0 where
  pub is_of : IsOf start held
  pub cause : DiskCausedBy ⊥ old new
  pub same : told → Same old new
  pub moments : told → Passes old new NoMoment
  pub leads : told → (bodies : List (List ℕ)) → Fits start.journal old.now.disk.bytes bodies → Leads (head_of start) (take index bodies) (state_of held)

module _ (told : Type 0) (start : Held) (old : View) where
  pub going_started : state_of start ≡ new_state (head_of start) → Going told start start old old 0
  going_started new = record {
    is_of = record { head = refl; journal = refl; order = subst (λ (rows : List ManifestRow). AreInOrder rows) (sym (ap (λ (s : State). s.rows) new)) none_in_order };
    cause = no_call old;
    same = λ tells. same_none old;
    moments = λ tells. stays old NoMoment;
    leads = λ tells bodies fits. subst (λ (s : State). Leads (head_of start) [] s) (sym new) (none_leads (head_of start));
  }

  module _ (held : Held) (mid : View) (index : ℕ) (going : Going told start held old mid index) where
    -- the journal keeps the same bodies still
    pub fits_still : told → (bodies : List (List ℕ)) → Fits start.journal old.now.disk.bytes bodies → Fits held.journal mid.now.disk.bytes bodies
    fits_still tells bodies fits =
        subst (λ (k : Kept). Fits k mid.now.disk.bytes bodies) (sym going.is_of.journal) (subst (λ (d : Disk). Fits start.journal d.bytes bodies) (sym (going.same tells).disk) fits)

    pub within_still : IsWithin start.journal.region old.extent → IsWithin held.journal.region mid.extent
    within_still within = subst (λ (k : Kept). IsWithin k.region mid.extent) (sym going.is_of.journal) (subst (λ (n : ℕ). IsWithin start.journal.region n) (sym going.cause.extent) within)

    pub index_still : index < length start.journal.places → index < length held.journal.places
    index_still less = subst (λ (k : Kept). index < length k.places) (sym going.is_of.journal) less

    pub going_on : {P : Type 0} {new : View} (next : Held) → IsOf held next → (P → ⊥) → DiskCausedBy P mid new → (told → Same mid new) → (told → Passes mid new NoMoment)
        → (told → (bodies : List (List ℕ)) → Fits start.journal old.now.disk.bytes bodies → index < length bodies)
        → (told → (bodies : List (List ℕ)) (body : List ℕ) → Fits held.journal mid.now.disk.bytes bodies → slice_get bodies index ≡ Some body → Takes held body next)
        → Going told start next old new (index + 1)
    going_on next is_of other cause same moments less takes = record {
      is_of = record { head = is_of.head ∙ going.is_of.head; journal = is_of.journal ∙ going.is_of.journal; order = is_of.order };
      cause = behind going.cause (worked other cause);
      same = λ tells. same_both (going.same tells) (same tells);
      moments = λ tells. then_quiet (going.moments tells) (moments tells);
      leads = λ tells bodies fits.
          let within : index < length bodies = less tells bodies fits in
          let body : List ℕ = get_or bodies index [] in
          let t : Takes held body next = takes tells bodies body (fits_still tells bodies fits) (slice_get-get_or bodies index [] within) in
          let more : Leads (head_of start) (take index bodies ++ body ∷ []) (changed t.change (state_of held)) =
          more_leads (head_of start) (take index bodies) (state_of held) t.change body (going.leads tells bodies fits) t.change_is t.leaf in
          subst (λ (s : State). Leads (head_of start) (take (index + 1) bodies) s) (sym t.state)
          (subst (λ (bs : List (List ℕ)). Leads (head_of start) bs (changed t.change (state_of held))) (sym (take_more bodies index [] within)) more);
    }

    -- a body that cannot be taken in leads to no state
    pub going_refused : told → (bodies : List (List ℕ)) → Fits start.journal old.now.disk.bytes bodies → index < length bodies
        → ((body : List ℕ) → Fits held.journal mid.now.disk.bytes bodies → slice_get bodies index ≡ Some body → (change : Change) → ChangeIs change body → held.leaf ≤ change.leaf → ⊥)
        → (s : State) → Leads (head_of start) bodies s → ⊥
    going_refused tells bodies fits within none s leads =
        let body : List ℕ = get_or bodies index [] in
        let parted : bodies ≡ take index bodies ++ body ∷ drop (index + 1) bodies =
        sym (take-append-drop index bodies) ∙ ap (λ (l : List (List ℕ)). take index bodies ++ l) (rw (add-one) (drop-cons bodies index [] within)) in
        let f : Follows (state_of held) body = next_follows (head_of start) (take index bodies) (drop (index + 1) bodies) body (state_of held) s (going.leads tells bodies fits)
        (subst (λ (bs : List (List ℕ)). Leads (head_of start) bs s) parted leads) in
        none body (fits_still tells bodies fits) (slice_get-get_or bodies index [] within) f.change f.change_is f.leaf

    pub going_done : told → (bodies : List (List ℕ)) → Fits start.journal old.now.disk.bytes bodies → length bodies ≤ index → Leads (head_of start) bodies (state_of held)
    going_done tells bodies fits all = subst (λ (bs : List (List ℕ)). Leads (head_of start) bs (state_of held)) (take_all index bodies all) (going.leads tells bodies fits)

    -- the same by the answer of the call that takes the body in
    pub going_ended : (e : MountFault) (next : Held) (s : State) → told → (bodies : List (List ℕ)) → Fits start.journal old.now.disk.bytes bodies → index < length bodies
        → ((body : List ℕ) → Fits held.journal mid.now.disk.bytes bodies → slice_get bodies index ≡ Some body → TakenAs held body next (Err e)) → ReplayedAs (head_of start) bodies s (Err e)
    going_ended BadImage next s tells bodies fits within none = going_refused tells bodies fits within none
    going_ended DiskFault next s tells bodies fits within none = tt
    going_ended NoMemory next s tells bodies fits within none = tt

-- what has gone well is no failure
pub went_well : {T E : Type 0} {x : T} {e : E} → Ok x ≡ Err e → ⊥
went_well is = cc

same_some : {A : Type 0} {o : Option A} {a b : A} → o ≡ Some a → o ≡ Some b → a ≡ b
same_some first second = cc

-- the body that was loaded is that of the index
pub taken_at : (old new : Held) (loaded slice body : List ℕ) (bodies : List (List ℕ)) (index : ℕ) (r : Result (Unit {0}) MountFault)
    → loaded ≡ slice → slice_get bodies index ≡ Some slice → slice_get bodies index ≡ Some body → TakenAs old loaded new r → TakenAs old body new r
taken_at old new loaded slice body bodies index r is here there taken = subst (λ (l : List ℕ). TakenAs old l new r) (is ∙ same_some here there) taken

-- what leads to no state leads to none that a device may be in
pub settled_refused : (config : Config) (bodies : List (List ℕ)) (s : State) (e : MountFault) → ReplayedAs config bodies s (Err e) → SettledAs config bodies s (Err e)
settled_refused config bodies s BadImage none = λ t leads valid. none t leads
settled_refused config bodies s DiskFault none = tt
settled_refused config bodies s NoMemory none = tt

-- the bodies lead to this state alone
pub settled_as : (config : Config) (bodies : List (List ℕ)) (s : State) (r : Result (Unit {0}) MountFault) → Leads config bodies s → JudgedAs s r → SettledAs config bodies s r
settled_as config bodies s (Ok u) leads judged = leads
settled_as config bodies s (Err BadImage) leads none = λ t other valid. none (subst IsValid (one_led config bodies t s other leads) valid)
settled_as config bodies s (Err DiskFault) leads none = tt
settled_as config bodies s (Err NoMemory) leads none = tt
