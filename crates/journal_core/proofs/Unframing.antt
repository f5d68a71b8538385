-- Framed bodies come apart in one way.
use Rattle.std.proofs.Common.{◌≡◌, ℕ, ◌+◌, ◌<◌, ◌≤◌, ◌^◌, List, [], ◌∷◌, ◌++◌, length, take, drop, get_or, map, suc, refl, sym, ◌∙◌, ap, subst, arith, append_assoc, length-append}
use Rattle.std.proofs.lemmas.List.{take_at, drop_at, drop-drop, get_or-map}
use Rattle.std.proofs.lemmas.List.Folds.{length-flat_map-take}
use Rattle.std.specs.Int.{to_be_bytes, w32}
use Rattle.journal_core.specs.Frames.{frame, frames, AreBodies}
use Rattle.journal_core.specs.Unframed.{bodies_in, IsFramed}

-- the five bytes before a body
abbrev pub opening : ℕ → List ℕ
opening n = 0xa5 ∷ to_be_bytes w32 n

pub length-opening : (n : ℕ) → length (opening n) ≡ 5
length-opening n = refl

pub length-frame : (body : List ℕ) → length (frame body) ≡ 5 + length body
length-frame body = length-append (opening (length body)) body ∙ ap (λ (k : ℕ). k + length body) (length-opening (length body))

-- behind a frame
pub behind_frame : (body : List ℕ) (bodies : List (List ℕ)) (more : List ℕ) → frames (body ∷ bodies) ++ more ≡ opening (length body) ++ (body ++ (frames bodies ++ more))
behind_frame body bodies more =
    append_assoc (frame body) (frames bodies) more ∙ append_assoc (opening (length body)) body (frames bodies ++ more)

pub drop-opening : (n : ℕ) (more : List ℕ) → drop 5 (opening n ++ more) ≡ more
drop-opening n more = drop_at (opening n) more 5 (length-opening n)

pub bodies_in-frames : (bodies : List (List ℕ)) (more : List ℕ) → bodies_in (map length bodies) (frames bodies ++ more) ≡ bodies
bodies_in-frames [] more = refl
bodies_in-frames (body ∷ bodies) more =
    let whole : frames (body ∷ bodies) ++ more ≡ opening (length body) ++ (body ++ (frames bodies ++ more)) = behind_frame body bodies more in
    let inner : drop 5 (frames (body ∷ bodies) ++ more) ≡ body ++ (frames bodies ++ more) = ap (λ (l : List ℕ). drop 5 l) whole ∙ drop-opening (length body) (body ++ (frames bodies ++ more)) in
    let first : take (length body) (drop 5 (frames (body ∷ bodies) ++ more)) ≡ body = ap (λ (l : List ℕ). take (length body) l) inner ∙ take_at body (frames bodies ++ more) (length body) refl in
    let rest : drop (5 + length body) (frames (body ∷ bodies) ++ more) ≡ frames bodies ++ more =
    sym (drop-drop (length body) 5 (frames (body ∷ bodies) ++ more)) ∙ ap (λ (l : List ℕ). drop (length body) l) inner ∙ drop_at body (frames bodies ++ more) (length body) refl in
    ap (λ (l : List ℕ). l ∷ bodies_in (map length bodies) (drop (5 + length body) (frames (body ∷ bodies) ++ more))) first
    ∙ ap (λ (l : List ℕ). body ∷ bodies_in (map length bodies) l) rest
    ∙ ap (λ (l : List (List ℕ)). body ∷ l) (bodies_in-frames bodies more)

pub is_framed : (bodies : List (List ℕ)) → IsFramed (map length bodies) (frames bodies ++ 0 ∷ [])
is_framed bodies = record { lengths_are = ap (λ (l : List (List ℕ)). map length l) (bodies_in-frames bodies (0 ∷ [])); bytes_are = ap (λ (l : List (List ℕ)). frames l ++ 0 ∷ []) (sym (bodies_in-frames bodies (0 ∷ []))) }

-- bodies and their lengths, one by one, and a closed gate at the end
pub closed : (bodies : List (List ℕ)) (lengths bytes whole : List ℕ) → lengths ≡ map length bodies → bytes ≡ frames bodies → whole ≡ bytes ++ 0 ∷ [] → IsFramed lengths whole
closed bodies lengths bytes whole lengths_are bytes_are whole_is = subst (λ (l : List ℕ). IsFramed l whole) (sym lengths_are)
    (subst (λ (l : List ℕ). IsFramed (map length bodies) l) (sym (whole_is ∙ ap (λ (l : List ℕ). l ++ 0 ∷ []) bytes_are)) (is_framed bodies))

pub bodies_come_back : (bodies : List (List ℕ)) (lengths bytes whole : List ℕ) → lengths ≡ map length bodies → bytes ≡ frames bodies → whole ≡ bytes ++ 0 ∷ [] → bodies_in lengths whole ≡ bodies
bodies_come_back bodies lengths bytes whole lengths_are bytes_are whole_is =
    ap (λ (l : List ℕ). bodies_in l whole) lengths_are ∙ ap (λ (l : List ℕ). bodies_in (map length bodies) l) (whole_is ∙ ap (λ (l : List ℕ). l ++ 0 ∷ []) bytes_are) ∙ bodies_in-frames bodies (0 ∷ [])

-- the gate before the first of some bodies
pub first_gate : (bodies : List (List ℕ)) → 0 < length bodies → 0xa5 ∷ drop 1 (frames bodies ++ 0 ∷ []) ≡ frames bodies ++ 0 ∷ []
first_gate [] none = absurd (omega (arith, none))
first_gate (body ∷ bodies) some = refl

-- lengths of four bytes
pub are_bodies : (bodies : List (List ℕ)) (lengths : List ℕ) → map length bodies ≡ lengths → ((i : ℕ) → get_or lengths i 0 < 2 ^ 32) → AreBodies bodies
are_bodies [] lengths same fit = tt
are_bodies (body ∷ bodies) lengths same fit = (
  subst (λ (l : List ℕ). get_or l 0 0 < 2 ^ 32) (sym same) (fit 0),
  are_bodies bodies (drop 1 lengths) (ap (λ (l : List ℕ). drop 1 l) same) (λ i. subst (λ (l : List ℕ). get_or l (suc i) 0 < 2 ^ 32) (let e : lengths ≡ length body ∷ drop 1 lengths = sym same
      ∙ ap (λ (l : List ℕ). length body ∷ l) (ap (λ (l : List ℕ). drop 1 l) same) in e) (fit (suc i))),
)

-- one body with its frame and the gate behind it
pub length-one : (bodies : List (List ℕ)) (lengths : List ℕ) → length bodies ≡ 1 → map length bodies ≡ lengths → length (frames bodies ++ 0 ∷ []) ≡ 6 + get_or lengths 0 0
length-one [] lengths one same = absurd (omega (arith, one))
length-one (body ∷ []) lengths one same =
    let first : length body ≡ get_or lengths 0 0 = ap (λ (l : List ℕ). get_or l 0 0) same in
    omega (arith, length-append (frame body ++ []) (0 ∷ []), length-append (frame body) [], length-frame body, first)
length-one (body ∷ other ∷ bodies) lengths one same = absurd (omega (arith, one))

-- the next body of some, and its length
pub length-next : (bodies : List (List ℕ)) (lengths : List ℕ) (i : ℕ) → map length bodies ≡ lengths → i < length bodies → length (get_or bodies i []) ≡ get_or lengths i 0
length-next bodies lengths i same within = sym (get_or-map length bodies i [] 0 within) ∙ ap (λ (l : List ℕ). get_or l i 0) same

pub next_fits : (bodies : List (List ℕ)) (lengths : List ℕ) (i : ℕ) → map length bodies ≡ lengths → i < length bodies → length (frames (take i bodies)) + 5 + get_or lengths i 0 ≤ length (frames bodies)
next_fits bodies lengths i same within =
    omega (arith, length-flat_map-take frame bodies i [] within, length-frame (get_or bodies i []), length-next bodies lengths i same within)
