-- Items that are read one behind the other.
use Rattle.std.proofs.Common.{◌≡◌, ℕ, suc, ◌+◌, ◌<◌, ◌≤◌, List, [], ◌∷◌, ◌++◌, length, drop, get_or, refl, sym, ap, ◌∙◌, append_assoc, inl, inr, arith}
use Rattle.std.specs.Prelude.{Result, Ok, Err}
use Rattle.std.proofs.lemmas.List.{append-nil, drop_all}
use Rattle.std.proofs.Math.Seq.{drop-cons}
use Rattle.cbor_core.specs.declared.item.Item.{Item}
use Rattle.item_codec.specs.Answers.{and_then, mapped, Answers}
use Rattle.suit_envelope.specs.Each.{each_read}

pub one_at : {A : Type 0} (xs : List A) (k : ℕ) (x d : A) → k < length xs → x ≡ get_or xs k d → drop k xs ≡ x ∷ drop (k + 1) xs
one_at {A} xs k x d lt is = let next : k + 1 ≡ suc k = omega arith in rw next (drop-cons xs k d lt ∙ ap (λ (y : A). y ∷ drop (suc k) xs) (sym is))

module _ {V E : Type 0} (none : E) (view : Item → Result V E) where
  -- the values of items, behind those found
  abbrev pub each_from : List V → List Item → Result (List V) E
  each_from found [] = Ok found
  each_from found (x ∷ xs) = and_then (λ (v : V). each_from (found ++ v ∷ []) xs) (view x)

  joined : (found : List V) (v : V) (r : Result (List V) E) → mapped (λ (more : List V). (found ++ v ∷ []) ++ more) r ≡ mapped (λ (more : List V). found ++ more) (mapped (λ (more : List V). v ∷ more) r)
  joined found v (Ok more) = ap (λ (vs : List V). Ok vs) (append_assoc found (v ∷ []) more)
  joined found v (Err e) = refl

  first : (xs : List Item) (found : List V) → ((before : List V) → each_from before xs ≡ mapped (λ (more : List V). before ++ more) (each_read view xs)) → (r : Result V E)
      → and_then (λ (v : V). each_from (found ++ v ∷ []) xs) r ≡ mapped (λ (more : List V). found ++ more) (and_then (λ (v : V). mapped (λ (more : List V). v ∷ more) (each_read view xs)) r)
  first xs found behind (Err e) = refl
  first xs found behind (Ok v) = behind (found ++ v ∷ []) ∙ joined found v (each_read view xs)

  found_from : (xs : List Item) (found : List V) → each_from found xs ≡ mapped (λ (more : List V). found ++ more) (each_read view xs)
  found_from [] found = ap (λ (vs : List V). Ok vs) (sym (append-nil found))
  found_from (x ∷ xs) found = first xs found (λ before. found_from xs before) (view x)

  bare : (r : Result (List V) E) → mapped (λ (more : List V). [] ++ more) r ≡ r
  bare (Ok vs) = refl
  bare (Err e) = refl

  each_is : (xs : List Item) → each_from [] xs ≡ each_read view xs
  each_is xs = found_from xs [] ∙ bare (each_read view xs)

  module _ (found : List V) (xs : List Item) (k : ℕ) (x d : Item) (lt : k < length xs) (is : x ≡ get_or xs k d) (so_far : each_from found (drop k xs) ≡ each_from [] xs) where
    here : (r : Result V E) → view x ≡ r → each_from found (drop k xs) ≡ and_then (λ (v : V). each_from (found ++ v ∷ []) (drop (k + 1) xs)) r
    here r at = ap (each_from found) (one_at xs k x d lt is) ∙ ap (λ (q : Result V E). and_then (λ (v : V). each_from (found ++ v ∷ []) (drop (k + 1) xs)) q) at

    -- one item more
    pub each_goes_on : (v : V) → view x ≡ Ok v → each_from (found ++ v ∷ []) (drop (k + 1) xs) ≡ each_from [] xs
    each_goes_on v at = sym (here (Ok v) at) ∙ so_far

    -- an item that is refused
    pub each_stops : (e : E) → Answers {V = V} none (view x) (Err e) → Answers {V = List V} none (each_read view xs) (Err e)
    each_stops e (inl at) = inl (sym (each_is xs) ∙ sym so_far ∙ here (Err e) at)
    each_stops e (inr memory) = inr memory

  -- no item is left
  pub each_ends : (found : List V) (xs : List Item) (k : ℕ) → length xs ≤ k → each_from found (drop k xs) ≡ each_from [] xs → each_read view xs ≡ Ok found
  each_ends found xs k le so_far = sym (each_is xs) ∙ sym so_far ∙ ap (each_from found) (drop_all k xs le)
