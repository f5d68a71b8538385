-- The values of the fields of a name, as far as a look has come.
use Rattle.std.proofs.Common.{◌≡◌, ◌+◌, ◌<◌, ℕ, Bool, true, false, cond, List, [], ◌∷◌, ◌++◌, length, map, take, drop, get_or, refl, sym, ap, ◌∙◌, append_assoc, append-nil, take-append-drop, Option, Some, None, Bor}
use Rattle.std.specs.List.{filter}
use Rattle.std.specs.Char.{to_ascii_lowercase}
use Rattle.std.proofs.lemmas.Slice.Eq.{bytes_eq-Decides}
use Rattle.std.proofs.lemmas.List.{take_more, map-append}
use Rattle.httparse.specs.Borrowed.{header_parts}
use Rattle.httparse.specs.declared.borrowed.Header.{Header}
use Rattle.http_wire.specs.Fields.{Part, values, is_same_text}

-- what is found is at most one value
abbrev pub listed : Option (Bor (List ℕ)) → List (List ℕ)
listed None = []
listed (Some value) = value.now ∷ []

values_cons : (name : List ℕ) (p : Part) (ps : List Part) → values name (p ∷ ps) ≡ values name (p ∷ []) ++ values name ps
values_cons name p ps = by (is_same_text p.0 name)
  where
    by : (b : Bool) → map (λ (p : Part). p.1) (cond b (p ∷ filter (λ (p : Part). is_same_text p.0 name) ps) (filter (λ (p : Part). is_same_text p.0 name) ps))
        ≡ map (λ (p : Part). p.1) (cond b (p ∷ []) []) ++ values name ps
    by true = refl
    by false = refl

values-append : (name : List ℕ) (ps qs : List Part) → values name (ps ++ qs) ≡ values name ps ++ values name qs
values-append name [] qs = refl
values-append name (p ∷ ps) qs =
    values_cons name p (ps ++ qs)
    ∙ ap (λ (l : List (List ℕ)). values name (p ∷ []) ++ l) (values-append name ps qs)
    ∙ sym (append_assoc (values name (p ∷ [])) (values name ps) (values name qs))
    ∙ ap (λ (l : List (List ℕ)). l ++ values name qs) (sym (values_cons name p ps))

-- the values of one field
pub value_yes : (name : List ℕ) (p : Part) → is_same_text p.0 name ≡ true → values name (p ∷ []) ≡ p.1 ∷ []
value_yes name p e = ap (λ (b : Bool). map (λ (p : Part). p.1) (cond b (p ∷ []) [])) e

pub value_no : (name : List ℕ) (p : Part) → is_same_text p.0 name ≡ false → values name (p ∷ []) ≡ []
value_no name p e = ap (λ (b : Bool). map (λ (p : Part). p.1) (cond b (p ∷ []) [])) e

-- one field more
pub values_more : (name : List ℕ) (fields : List Header) (i : ℕ) (d : Header) → i < length fields
    → values name (map header_parts (take (i + 1) fields)) ≡ values name (map header_parts (take i fields)) ++ values name (header_parts (get_or fields i d) ∷ [])
values_more name fields i d h =
    ap (λ (l : List Header). values name (map header_parts l)) (take_more fields i d h)
    ∙ ap (λ (l : List Part). values name l) (map-append header_parts (take i fields) (get_or fields i d ∷ []))
    ∙ values-append name (map header_parts (take i fields)) (header_parts (get_or fields i d) ∷ [])

-- those so far, and those behind them
pub values_split : (name : List ℕ) (fields : List Header) (i : ℕ)
    → values name (map header_parts fields) ≡ values name (map header_parts (take i fields)) ++ values name (map header_parts (drop i fields))
values_split name fields i =
    ap (λ (l : List Header). values name (map header_parts l)) (sym (take-append-drop i fields))
    ∙ ap (λ (l : List Part). values name l) (map-append header_parts (take i fields) (drop i fields))
    ∙ values-append name (map header_parts (take i fields)) (map header_parts (drop i fields))

-- one field more, of the name and of another
pub more_yes : (name : List ℕ) (fields : List Header) (i : ℕ) (d : Header) → i < length fields
    → map to_ascii_lowercase (get_or fields i d).name.now ≡ map to_ascii_lowercase name
    → values name (map header_parts (take (i + 1) fields)) ≡ values name (map header_parts (take i fields)) ++ (get_or fields i d).value.now ∷ []
more_yes name fields i d h same =
    values_more name fields i d h
    ∙ ap (λ (l : List (List ℕ)). values name (map header_parts (take i fields)) ++ l) (value_yes name (header_parts (get_or fields i d)) ((bytes_eq-Decides _ _).1 same))

pub more_no : (name : List ℕ) (fields : List Header) (i : ℕ) (d : Header) → i < length fields
    → ¬ (map to_ascii_lowercase (get_or fields i d).name.now ≡ map to_ascii_lowercase name)
    → values name (map header_parts (take (i + 1) fields)) ≡ values name (map header_parts (take i fields))
more_no name fields i d h other =
    values_more name fields i d h
    ∙ ap (λ (l : List (List ℕ)). values name (map header_parts (take i fields)) ++ l) (value_no name (header_parts (get_or fields i d)) (not_true _ (λ e. other ((bytes_eq-Decides _ _).0 e))))
    ∙ append-nil (values name (map header_parts (take i fields)))
  where
    not_true : (b : Bool) → ¬ (b ≡ true) → b ≡ false
    not_true true f = absurd (f refl)
    not_true false f = refl

-- a second value
pub more_again : (name : List ℕ) (fields : List Header) (i : ℕ) (d : Header) (first : List ℕ) → i < length fields
    → map to_ascii_lowercase (get_or fields i d).name.now ≡ map to_ascii_lowercase name
    → values name (map header_parts (take i fields)) ≡ first ∷ []
    → (other : List ℕ) × (more : List (List ℕ)) × (values name (map header_parts fields) ≡ first ∷ other ∷ more)
more_again name fields i d first h same so_far =
    let v = (get_or fields i d).value.now in
    let rest = values name (map header_parts (drop (i + 1) fields)) in (
      v,
      rest,
      values_split name fields (i + 1) ∙ ap (λ (l : List (List ℕ)). l ++ rest) (more_yes name fields i d h same ∙ ap (λ (l : List (List ℕ)). l ++ v ∷ []) so_far),
    )

-- the first value
pub more_first : (name : List ℕ) (fields : List Header) (i : ℕ) (d : Header) → i < length fields
    → map to_ascii_lowercase (get_or fields i d).name.now ≡ map to_ascii_lowercase name
    → values name (map header_parts (take i fields)) ≡ []
    → values name (map header_parts (take (i + 1) fields)) ≡ listed (Some (get_or fields i d).value)
more_first name fields i d h same so_far = more_yes name fields i d h same ∙ ap (λ (l : List (List ℕ)). l ++ (get_or fields i d).value.now ∷ []) so_far
