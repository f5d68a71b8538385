-- Components that are made one behind the other.
use Rattle.std.proofs.Common.{◌≡◌, ℕ, suc, ◌+◌, ◌<◌, ◌≤◌, List, [], ◌∷◌, ◌++◌, length, drop, get_or, append_assoc, append-nil, refl, sym, ap, subst, ◌∙◌}
use Rattle.std.proofs.lemmas.List.{drop_all}
use Rattle.suit_engine.specs.declared.outcome.Built.{Built}
use Rattle.device_state.specs.declared.rows.ComponentRow.{ComponentRow}
use Rattle.manifest_judge.specs.Claims.{IsMade, AreMade}
use Rattle.manifest_judge.proofs.Lists.{one_at}

-- some components are made of these
pub record SomeAreMade (ids : List (List ℕ)) (built : List Built) : Type 0 where
  pub components : List ComponentRow
  pub are : AreMade ids built components

-- What is made of those that are left, behind what was made so far, is made of all; and where something is made of all, something is made of those that are left.
pub record Going (ids : List (List ℕ)) (all : List Built) (place : ℕ) (left : List Built) (made : List ComponentRow) : Type 0 where
  pub on : (rest : List ComponentRow) → AreMade (drop place ids) left rest → AreMade ids all (made ++ rest)
  pub back : SomeAreMade ids all → SomeAreMade (drop place ids) left

pub started : (ids : List (List ℕ)) (all : List Built) → Going ids all 0 all []
started ids all = record { on = λ rest are. are; back = λ some. some }

-- as many are made as are listed and were built
pub as_many : (ids : List (List ℕ)) (all : List Built) (cs : List ComponentRow) → AreMade ids all cs → length ids ≡ length all
as_many [] [] [] are = refl
as_many (id ∷ ids) (b ∷ all) (c ∷ cs) are = ap suc (as_many ids all cs are.1)
as_many [] [] (c ∷ cs) are = absurd are
as_many [] (b ∷ all) cs are = absurd are
as_many (id ∷ ids) [] cs are = absurd are
as_many (id ∷ ids) (b ∷ all) [] are = absurd are

behind_first : (id : List ℕ) (ids : List (List ℕ)) (b : Built) (more : List Built) (cs : List ComponentRow) → AreMade (id ∷ ids) (b ∷ more) cs → SomeAreMade ids more
behind_first id ids b more [] are = absurd are
behind_first id ids b more (c ∷ cs) are = record { components = cs; are = are.1 }

first_of : (id : List ℕ) (ids : List (List ℕ)) (b : Built) (more : List Built) (cs : List ComponentRow) → AreMade (id ∷ ids) (b ∷ more) cs → ((c : ComponentRow) → IsMade id b c → ⊥) → ⊥
first_of id ids b more [] are none = are
first_of id ids b more (c ∷ cs) are none = none c are.0

module _ (ids : List (List ℕ)) (all : List Built) (place : ℕ) (left : List Built) (made : List ComponentRow) (b : Built) (more : List Built) (id d : List ℕ)
    (within : place < length ids) (here : id ≡ get_or ids place d) (left_is : left ≡ b ∷ more) (going : Going ids all place left made) where
  left_here : (cs : List ComponentRow) → AreMade (drop place ids) left cs → AreMade (id ∷ drop (place + 1) ids) (b ∷ more) cs
  left_here cs are =
      subst (λ (bs : List Built). AreMade (id ∷ drop (place + 1) ids) bs cs) left_is
      (subst (λ (rest : List (List ℕ)). AreMade rest left cs) (one_at ids place id d within here) are)

  left_back : (cs : List ComponentRow) → AreMade (id ∷ drop (place + 1) ids) (b ∷ more) cs → AreMade (drop place ids) left cs
  left_back cs are =
      subst (λ (bs : List Built). AreMade (drop place ids) bs cs) (sym left_is)
      (subst (λ (rest : List (List ℕ)). AreMade rest (b ∷ more) cs) (sym (one_at ids place id d within here)) are)

  -- one more is made
  pub one_more : (c : ComponentRow) (now : List ComponentRow) → now ≡ made ++ c ∷ [] → IsMade id b c → Going ids all (place + 1) more now
  one_more c now is this = record {
    on = λ rest are.
        let joined : made ++ (c ∷ rest) ≡ now ++ rest = sym (append_assoc made (c ∷ []) rest) ∙ ap (λ (cs : List ComponentRow). cs ++ rest) (sym is) in
        subst (AreMade ids all) joined (going.on (c ∷ rest) (left_back (c ∷ rest) (this, are)));
    back = λ some. (let left_some = going.back some in behind_first id (drop (place + 1) ids) b more left_some.components (left_here left_some.components left_some.are));
  }

  -- one is not made
  pub one_is_none : ((c : ComponentRow) → IsMade id b c → ⊥) → (cs : List ComponentRow) → AreMade ids all cs → ⊥
  one_is_none none cs are =
      let left_some = going.back (record { components = cs; are = are }) in
      first_of id (drop (place + 1) ids) b more left_some.components (left_here left_some.components left_some.are) none

-- none is left
pub all_made : (ids : List (List ℕ)) (all : List Built) (place : ℕ) (left : List Built) (made : List ComponentRow) → Going ids all place left made → left ≡ [] → length ids ≤ place → AreMade ids all made
all_made ids all place left made going is past =
    let nothing : AreMade (drop place ids) left [] =
    subst (λ (bs : List Built). AreMade (drop place ids) bs []) (sym is) (subst (λ (rest : List (List ℕ)). AreMade rest [] []) (sym (drop_all place ids past)) tt) in
    subst (AreMade ids all) (append-nil made) (going.on [] nothing)
