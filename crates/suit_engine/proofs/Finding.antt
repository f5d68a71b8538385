-- What a fetch finds.
use Rattle.std.proofs.Common.{◌≡◌, ◌↔◌, ℕ, Bool, true, false, cond, IsTrue, List, refl, sym, ap, subst, ◌∙◌}
use Rattle.std.specs.Prelude.{◌==◌, slice_index, Result, Ok, Err, IfOk}
use Rattle.fetch_uri.specs.Address.{IsUri}
use Rattle.fetch_uri.specs.Tests.{is_address}
use Rattle.fetch_uri.proofs.Public.Tests.{is_address_iff}
use Rattle.suit_engine.specs.declared.outcome.Word.TheVariants.{Payload}
use Rattle.suit_engine.specs.declared.state.State.{State}
use Rattle.suit_engine.specs.declared.world.Found.{Found}
use Rattle.suit_engine.specs.declared.world.Found.TheVariants.{Bytes, Unknown, TooMany}
use Rattle.suit_engine.specs.Steps.{Fails, Act}
use Rattle.suit_engine.specs.Acts.{World, takes, attached_bytes, attached_as, fetched_as, takes_fetched, fetches}
use Rattle.suit_engine.specs.Answers.{FindsAs}

-- a test of a text tells what the test of the address tells
pub address_told : (r : Bool) (text uri : List ℕ) → text ≡ uri → (IsTrue r ↔ IsUri text) → is_address uri ≡ r
address_told true text uri same tells = (is_address_iff uri).1 (subst IsUri same (tells.0 refl))
address_told false text uri same tells = by_test (is_address uri) refl where
  by_test : (b : Bool) → is_address uri ≡ b → b ≡ false
  by_test false is = refl
  by_test true is = absurd (let wrong : false ≡ true = tells.1 (subst IsUri (sym same) ((is_address_iff uri).0 is)) in cc)

module _ (w : World) (uri text : List ℕ) (same : text ≡ uri) (no_name : (slice_index text 0 == 35) ≡ false) (r : Bool) (tells : IsTrue r ↔ IsUri text) where
  no_name_is : (slice_index uri 0 == 35) ≡ false
  no_name_is = ap (λ (l : List ℕ). slice_index l 0 == 35) (sym same) ∙ no_name

  fetches_is : (s : State) → fetches w uri s ≡ cond r (takes_fetched w uri (fetched_as uri w.env) s) (Fails Payload)
  fetches_is s =
      ap (λ (b : Bool). cond b (takes (attached_bytes (attached_as uri w.attached)) s) (cond (is_address uri) (takes_fetched w uri (fetched_as uri w.env) s) (Fails Payload))) no_name_is
      ∙ ap (λ (b : Bool). cond b (takes_fetched w uri (fetched_as uri w.env) s) (Fails Payload)) (address_told r text uri same tells)

  pub address_is : r ≡ true → (s : State) → fetches w uri s ≡ takes_fetched w uri (fetched_as uri w.env) s
  address_is passes s = fetches_is s ∙ ap (λ (b : Bool). cond b (takes_fetched w uri (fetched_as uri w.env) s) (Fails Payload)) passes

  pub other_is : r ≡ false → (s : State) → fetches w uri s ≡ Fails Payload
  other_is fails s = fetches_is s ∙ ap (λ (b : Bool). cond b (takes_fetched w uri (fetched_as uri w.env) s) (Fails Payload)) fails

-- what is found for an act is found for each act that does the same
finds_same : (a b : Act) → ((s : State) → a s ≡ b s) → (f : Found) → FindsAs b f → FindsAs a f
finds_same a b same (Bytes bytes) finds = λ s. same s ∙ finds s
finds_same a b same (Unknown uri) finds = λ s. same s ∙ finds s
finds_same a b same TooMany finds = λ s. same s ∙ finds s

pub found_same : {E : Type 0} (a b : Act) → ((s : State) → a s ≡ b s) → (r : Result Found E) → IfOk r (FindsAs b) → IfOk r (FindsAs a)
found_same a b same (Ok f) finds = finds_same a b same f finds
found_same a b same (Err e) finds = tt
