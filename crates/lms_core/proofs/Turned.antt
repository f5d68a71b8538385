-- The input of a step of one chain, turned into that of another.
use Rattle.std.proofs.Common.{◌≡◌, ℕ, ◌<◌, List, [], ◌∷◌, ◌++◌, length, take, drop, get_or, sym, ◌∙◌, ap, arith, append_assoc, length-append}
use Rattle.std.proofs.lemmas.List.{get_or-drop, take_more, take_at, drop_at}
use Rattle.lms_core.specs.Bytes.{u32_bytes}
use Rattle.lms_core.proofs.Inputs.{whole_front}

-- the chain's number and the value written, with the digit between them left
pub turned : (old mid new bytes number value : List ℕ) → length old ≡ 55 → length mid ≡ 55 → length new ≡ 55 → bytes ≡ number → take 22 mid ≡ take 20 old ++ bytes → drop 22 mid ≡ drop 22 old
    → take 55 new ≡ take 23 mid ++ value → new ≡ take 20 old ++ number ++ get_or old 22 0 ∷ value
turned old mid new bytes number value old_size mid_size new_size same front back written =
    let room : 22 < length mid = omega (arith, mid_size) in
    let digit : get_or mid 22 0 ≡ get_or old 22 0 = sym (get_or-drop 22 mid 0 0) ∙ ap (λ (x : List ℕ). get_or x 0 0) back ∙ get_or-drop 22 old 0 0 in
    let more : take 23 mid ≡ take 22 mid ++ get_or mid 22 0 ∷ [] = take_more mid 22 0 room in
    whole_front new (take 20 old ++ number ++ get_or old 22 0 ∷ value) new_size (written ∙ rw (more, front, same, digit) (append_assoc (take 20 old ++ number) (get_or old 22 0 ∷ []) value))

-- it is the input of that step of the other chain
pub turned_is : (old new front number value value' : List ℕ) (j : ℕ) → new ≡ take 20 old ++ number ++ get_or old 22 0 ∷ value → take 20 old ≡ front → get_or old 22 0 ≡ j → value ≡ value' → new ≡ front ++ number ++ j ∷ value'
turned_is old new front number value value' j new_is begun digit same = cc

-- what each chain's input begins with
pub front_length : (identifier : List ℕ) (q : ℕ) → length identifier ≡ 16 → length (identifier ++ u32_bytes q) ≡ 20
front_length identifier q size = simp length-append (omega (arith, size))

-- what stays from chain to chain
pub front_stays : (new front number value : List ℕ) (j : ℕ) → length front ≡ 20 → new ≡ front ++ number ++ j ∷ value → take 20 new ≡ front
front_stays new front number value j size e = ap (take 20) (e ∙ append_assoc front number (j ∷ value)) ∙ take_at front (number ++ j ∷ value) 20 size

pub digit_stays : (new front number value : List ℕ) (j : ℕ) → length front ≡ 20 → length number ≡ 2 → new ≡ front ++ number ++ j ∷ value → get_or new 22 0 ≡ j
digit_stays new front number value j front_size number_size e =
    let size : length (front ++ number) ≡ 22 = simp length-append (omega (arith, front_size, number_size)) in
    let rest : drop 22 new ≡ j ∷ value = ap (drop 22) e ∙ drop_at (front ++ number) (j ∷ value) 22 size in
    sym (get_or-drop 22 new 0 0) ∙ ap (λ (x : List ℕ). get_or x 0 0) rest
