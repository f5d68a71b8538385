-- The components of a row that was made.
use Rattle.std.proofs.Common.{◌≡◌, ℕ, suc, List, [], ◌∷◌, length, refl, sym, ap, subst, ◌∙◌}
use Rattle.std.specs.Prelude.{map, IfSome}
use Rattle.std.specs.List.{AllByRecursion}
use Rattle.suit_commands.specs.Digests.{IsProperDigest}
use Rattle.suit_engine.specs.declared.outcome.Built.{Built}
use Rattle.device_state.specs.declared.rows.ComponentRow.{ComponentRow}
use Rattle.device_state.specs.Valid.{IsShortId, IsComponent}
use Rattle.manifest_judge.specs.Claims.{IsMade, AreMade}
use Rattle.manifest_judge.specs.Law.{IsVerifiedPart}
use Rattle.manifest_judge.proofs.Hashes.{matched_proper}

-- what holds of each component that is made, holds of all
module _ (P : List ℕ → Type 0) (Q : ComponentRow → Type 0) (each : (id : List ℕ) (b : Built) (c : ComponentRow) → P id → IsMade id b c → Q c) where
  each_made : (ids : List (List ℕ)) (all : List Built) (cs : List ComponentRow) → AllByRecursion P ids → AreMade ids all cs → AllByRecursion Q cs
  each_made [] [] [] have are = tt
  each_made (id ∷ ids) (b ∷ all) (c ∷ cs) have are = (each id b c have.0 are.0, each_made ids all cs have.1 are.1)
  each_made [] [] (c ∷ cs) have are = absurd are
  each_made [] (b ∷ all) cs have are = absurd are
  each_made (id ∷ ids) [] cs have are = absurd are
  each_made (id ∷ ids) (b ∷ all) [] have are = absurd are

-- they have the identifiers that are listed
pub made_ids : (ids : List (List ℕ)) (all : List Built) (cs : List ComponentRow) → AreMade ids all cs → map (λ c. c.id) cs ≡ ids
made_ids [] [] [] are = refl
made_ids (id ∷ ids) (b ∷ all) (c ∷ cs) are =
    ap (λ (first : List ℕ). first ∷ map (λ (d : ComponentRow). d.id) cs) are.0.id_is ∙ ap (λ (more : List (List ℕ)). id ∷ more) (made_ids ids all cs are.1)
made_ids [] [] (c ∷ cs) are = absurd are
made_ids [] (b ∷ all) cs are = absurd are
made_ids (id ∷ ids) [] cs are = absurd are
made_ids (id ∷ ids) (b ∷ all) [] are = absurd are

pub made_count : (ids : List (List ℕ)) (all : List Built) (cs : List ComponentRow) → AreMade ids all cs → length cs ≡ length ids
made_count [] [] [] are = refl
made_count (id ∷ ids) (b ∷ all) (c ∷ cs) are = ap suc (made_count ids all cs are.1)
made_count [] [] (c ∷ cs) are = absurd are
made_count [] (b ∷ all) cs are = absurd are
made_count (id ∷ ids) [] cs are = absurd are
made_count (id ∷ ids) (b ∷ all) [] are = absurd are

part_verified : (id : List ℕ) (b : Built) (c : ComponentRow) → Unit {0} → IsMade id b c → IsVerifiedPart c
part_verified id b c any is = record { digest = is.digest; kept = is.digest_kept; matched = is.whole.matched }

any_id : (ids : List (List ℕ)) → AllByRecursion (λ _. Unit {0}) ids
any_id [] = tt
any_id (id ∷ ids) = (tt, any_id ids)

-- the bytes of each have the digest that is kept
pub made_verified : (ids : List (List ℕ)) (all : List Built) (cs : List ComponentRow) → AreMade ids all cs → AllByRecursion IsVerifiedPart cs
made_verified ids all cs are = each_made (λ _. Unit {0}) IsVerifiedPart part_verified ids all cs (any_id ids) are

part_proper : (id : List ℕ) (b : Built) (c : ComponentRow) → IsShortId id → IsMade id b c → IsComponent c
part_proper id b c short is = record {
  id = subst IsShortId (sym is.id_is) short;
  digest = subst (λ o. IfSome o IsProperDigest) (sym is.digest_kept) (matched_proper is.digest c.bytes is.whole.matched);
}

-- each may be kept, where its identifier may
pub made_components : (ids : List (List ℕ)) (all : List Built) (cs : List ComponentRow) → AllByRecursion IsShortId ids → AreMade ids all cs → AllByRecursion IsComponent cs
made_components ids all cs short are = each_made IsShortId IsComponent part_proper ids all cs short are
