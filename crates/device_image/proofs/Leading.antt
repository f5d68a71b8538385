-- Bodies that lead from a new device to a state.
use Rattle.std.proofs.Common.{◌≡◌, ◌≤◌, ℕ, List, [], ◌∷◌, ◌++◌, refl, sym, ap, subst, ◌∙◌}
use Rattle.std.specs.List.{AllZip}
use Rattle.device_config.specs.declared.config.Config.{Config}
use Rattle.device_state.specs.declared.change.Change.{Change}
use Rattle.device_state.specs.State.{State, new_state, changed, folded}
use Rattle.commit_records.specs.Changes.{ChangeIs}
use Rattle.commit_records.proofs.Readers.{one_change}
use Rattle.device_image.specs.Stands.{NeverFall, Leads}
use Rattle.device_image.specs.Law.{MoreLeads}

-- ---- one change more

changes_more : (changes : List Change) (bodies : List (List ℕ)) (change : Change) (body : List ℕ)
    → AllZip ChangeIs changes bodies → ChangeIs change body → AllZip ChangeIs (changes ++ change ∷ []) (bodies ++ body ∷ [])
changes_more [] [] change body are is = (is, tt)
changes_more [] (b ∷ bodies) change body are is = absurd are
changes_more (c ∷ changes) [] change body are is = absurd are
changes_more (c ∷ changes) (b ∷ bodies) change body are is = (are.0, changes_more changes bodies change body are.1 is)

leaves_more : (changes : List Change) (s : State) (change : Change)
    → NeverFall s.leaf changes → (folded changes s).leaf ≤ change.leaf → NeverFall s.leaf (changes ++ change ∷ [])
leaves_more [] s change leaves least = (least, tt)
leaves_more (c ∷ changes) s change leaves least = (leaves.0, leaves_more changes (changed c s) change leaves.1 least)

folded_more : (changes : List Change) (s : State) (change : Change) → folded (changes ++ change ∷ []) s ≡ changed change (folded changes s)
folded_more [] s change = refl
folded_more (c ∷ changes) s change = folded_more changes (changed c s) change

pub more_leads : MoreLeads
more_leads config bodies s change body leads is least = record {
  changes = leads.changes ++ change ∷ [];
  are = changes_more leads.changes bodies change body leads.are is;
  leaves = leaves_more leads.changes (new_state config) change leads.leaves (subst (λ (t : State). t.leaf ≤ change.leaf) leads.state_is least);
  state_is = ap (changed change) leads.state_is ∙ sym (folded_more leads.changes (new_state config) change);
}

-- no body leads to a new device
pub none_leads : (config : Config) → Leads config [] (new_state config)
none_leads config = record { changes = []; are = tt; leaves = tt; state_is = refl }

-- ---- no other state

one_changes : (a b : List Change) (bodies : List (List ℕ)) → AllZip ChangeIs a bodies → AllZip ChangeIs b bodies → a ≡ b
one_changes [] [] bodies first second = refl
one_changes [] (d ∷ b) [] first second = absurd second
one_changes [] (d ∷ b) (body ∷ bodies) first second = absurd first
one_changes (c ∷ a) [] [] first second = absurd first
one_changes (c ∷ a) [] (body ∷ bodies) first second = absurd second
one_changes (c ∷ a) (d ∷ b) [] first second = absurd first
one_changes (c ∷ a) (d ∷ b) (body ∷ bodies) first second =
    ap (λ (x : Change). x ∷ a) (one_change body c d first.0 second.0) ∙ ap (λ (xs : List Change). d ∷ xs) (one_changes a b bodies first.1 second.1)

pub one_led : (config : Config) (bodies : List (List ℕ)) (a b : State) → Leads config bodies a → Leads config bodies b → a ≡ b
one_led config bodies a b first second =
    first.state_is ∙ ap (λ (changes : List Change). folded changes (new_state config)) (one_changes first.changes second.changes bodies first.are second.are) ∙ sym second.state_is

-- ---- the next body

-- the change that a body is, with a leaf that is not below
pub record Follows (s : State) (body : List ℕ) : Type 0 where
  pub change : Change
  pub change_is : ChangeIs change body
  pub leaf : s.leaf ≤ change.leaf

-- Behind the changes that the front bodies are, each body is such a change where all lead to a state.
next_from : (front behind : List (List ℕ)) (body : List ℕ) (first all : List Change) (s : State) → AllZip ChangeIs first front → AllZip ChangeIs all (front ++ body ∷ behind)
    → NeverFall s.leaf all → Follows (folded first s) body
next_from [] behind body [] [] s are all_are leaves = absurd all_are
next_from [] behind body [] (c ∷ all) s are all_are leaves = record { change = c; change_is = all_are.0; leaf = leaves.0 }
next_from [] behind body (c ∷ first) all s are all_are leaves = absurd are
next_from (b ∷ front) behind body [] all s are all_are leaves = absurd are
next_from (b ∷ front) behind body (c ∷ first) [] s are all_are leaves = absurd all_are
next_from (b ∷ front) behind body (c ∷ first) (d ∷ all) s are all_are leaves =
    let same : d ≡ c = one_change b d c all_are.0 are.0 in
    next_from front behind body first all (changed c s) are.1 all_are.1 (subst (λ (x : Change). NeverFall x.leaf all) same leaves.1)

pub next_follows : (config : Config) (front behind : List (List ℕ)) (body : List ℕ) (s end : State) → Leads config front s → Leads config (front ++ body ∷ behind) end → Follows s body
next_follows config front behind body s end leads all =
    subst (λ (t : State). Follows t body) (sym leads.state_is) (next_from front behind body leads.changes all.changes (new_state config) leads.are all.are all.leaves)
