-- A half is a list of bodies, or overruns.
use Rattle.std.proofs.Common.{◌≡◌, ◌≢◌, ◌/◌, ◌%◌, ℕ, zero, suc, ◌+◌, ◌-◌, ◌<◌, ◌≤◌, ◌^◌, ◌⊎◌, inl, inr, List, [], ◌∷◌, ◌++◌, length, take, drop, get_or, refl, sym, ◌∙◌, ap, subst, arith, append_assoc, length-append, take-append-drop}
use Rattle.std.proofs.lemmas.List.{append-nil, length-take-le, length-drop, get_or_past, take_at}
use Rattle.std.proofs.lemmas.Bool.{cases_eq, cases_lt}
use Rattle.std.proofs.lemmas.Nat.{be_bytes_4, from_be_bytes-to_be_bytes_4}
use Rattle.std.specs.Int.{from_be_bytes, to_be_bytes, w32}
use Rattle.journal_core.specs.Frames.{frame, frames, AreBodies}
use Rattle.journal_core.specs.Region.{half_at, selected, HalfStands, HalfOverruns}
use Rattle.journal_core.specs.Laws.{OneList}
use Rattle.journal_core.proofs.Unframing.{opening, length-frame, behind_frame}
use Rattle.journal_core.proofs.Fronts.{follows, length-frames}
use Rattle.journal_core.proofs.Scanned.{sizes-more, frames-more}
use Rattle.journal_core.proofs.Scan.{half_inside}

-- two lists of one half are one
pub one_of_half : (at half : ℕ) (image : List ℕ) (bodies others : List (List ℕ)) → HalfStands at half image bodies → HalfStands at half image others → others ≡ bodies
one_of_half at half image bodies others s t =
    let f = follows at half image bodies s.before (s.gate ∷ s.behind) s.whole s.place s.sizes others t in
    f.others_are ∙ ap (λ (l : List (List ℕ)). bodies ++ l) (none f.rest f.more_is) ∙ append-nil bodies where
      none : (rest : List (List ℕ)) → s.gate ∷ s.behind ≡ frames rest ++ t.gate ∷ t.behind → rest ≡ []
      none [] is = refl
      none (d ∷ ds) is = absurd (s.shut (ap (λ (l : List ℕ). get_or l 0 0) is))

-- an open gate is that of a body, whose length its four bytes say
open_gate : (half used : ℕ) (more : List ℕ) (rest : List (List ℕ)) (gate : ℕ) (behind : List ℕ) → gate ≢ 0xa5 → more ≡ frames rest ++ gate ∷ behind → AreBodies rest
    → used + length (frames rest) + 1 ≤ half → get_or more 0 0 ≡ 0xa5 → ((n : ℕ) → n < 2 ^ 32 → take 4 (drop 1 more) ≡ to_be_bytes w32 n → half < used + 6 + n) → ⊥
open_gate half used more [] gate behind shut is sizes within open_ far = shut (sym (ap (λ (l : List ℕ). get_or l 0 0) is) ∙ open_)
open_gate half used more (d ∷ ds) gate behind shut is sizes within open_ far =
    let more_is : more ≡ opening (length d) ++ (d ++ (frames ds ++ gate ∷ behind)) = is ∙ behind_frame d ds (gate ∷ behind) in
    let four : take 4 (drop 1 more) ≡ to_be_bytes w32 (length d) = ap (λ (l : List ℕ). take 4 (drop 1 l)) more_is
    ∙ take_at (to_be_bytes w32 (length d)) (d ++ (frames ds ++ gate ∷ behind)) 4 refl in
    omega (arith, far (length d) sizes.0 four, within, length-append (frame d) (frames ds), length-frame d)

-- a half that overruns is no list
overruns_none : (at half : ℕ) (image : List ℕ) → HalfOverruns at half image → (others : List (List ℕ)) → HalfStands at half image others → ⊥
overruns_none at half image o others stands =
    let f = follows at half image o.bodies o.before o.behind o.whole o.place o.sizes others stands in
    let long : length (frames others) ≡ length (frames o.bodies) + length (frames f.rest) = ap (λ (l : List (List ℕ)). length (frames l)) f.others_are ∙ length-frames o.bodies f.rest in
    elim o.past [
      | inl none ↦ omega (arith, none, long, stands.within)
      | inr x ↦ open_gate half (length (frames o.bodies)) o.behind f.rest stands.gate stands.behind stands.shut f.more_is f.sizes (omega (arith, long, stands.within)) x.0 x.1
    ]

-- four numbers are bytes, or no number has them as its bytes
small_at : (four : List ℕ) → length four ≡ 4 → get_or four 0 0 < 256 → get_or four 1 0 < 256 → get_or four 2 0 < 256 → get_or four 3 0 < 256 → (i : ℕ) → get_or four i 0 < 256
small_at four long a b c d zero = a
small_at four long a b c d (suc zero) = b
small_at four long a b c d (suc (suc zero)) = c
small_at four long a b c d (suc (suc (suc zero))) = d
small_at four long a b c d (suc (suc (suc (suc i)))) = subst (λ (k : ℕ). k < 256) (sym (get_or_past four (suc (suc (suc (suc i)))) 0 (omega (arith, long)))) (omega arith)

bytes_or_none : (four : List ℕ) → length four ≡ 4 → ((i : ℕ) → get_or four i 0 < 256) ⊎ ((n : ℕ) → four ≡ to_be_bytes w32 n → ⊥)
bytes_or_none four long = elim (cases_lt (get_or four 0 0) 256) [
  | inr high ↦ inr (λ n is. let e : get_or four 0 0 ≡ n / 16777216 % 256 = ap (λ (l : List ℕ). get_or l 0 0) is in omega (arith, e, high))
  | inl a ↦ elim (cases_lt (get_or four 1 0) 256) [
    | inr high ↦ inr (λ n is. let e : get_or four 1 0 ≡ n / 65536 % 256 = ap (λ (l : List ℕ). get_or l 1 0) is in omega (arith, e, high))
    | inl b ↦ elim (cases_lt (get_or four 2 0) 256) [
      | inr high ↦ inr (λ n is. let e : get_or four 2 0 ≡ n / 256 % 256 = ap (λ (l : List ℕ). get_or l 2 0) is in omega (arith, e, high))
      | inl c ↦ elim (cases_lt (get_or four 3 0) 256) [
        | inr high ↦ inr (λ n is. let e : get_or four 3 0 ≡ n % 256 = ap (λ (l : List ℕ). get_or l 3 0) is in omega (arith, e, high))
        | inl d ↦ inl (small_at four long a b c d)
      ]
    ]
  ]
]

-- what four bytes behind an open gate say: the length of a body that fits with a gate behind it, or no such length
record Says (room : ℕ) (more : List ℕ) : Type 0 where
  n : ℕ
  size : n < 2 ^ 32
  four : take 4 (drop 1 more) ≡ to_be_bytes w32 n
  fits : 6 + n ≤ room

says_or_far : (room : ℕ) (more : List ℕ) → 6 ≤ room → room ≤ length more → Says room more ⊎ ((n : ℕ) → n < 2 ^ 32 → take 4 (drop 1 more) ≡ to_be_bytes w32 n → room < 6 + n)
says_or_far room more some long =
    let four : List ℕ = take 4 (drop 1 more) in
    let v : ℕ = from_be_bytes w32 four in
    let size : length four ≡ 4 = length-take-le 4 (drop 1 more) (omega (arith, length-drop 1 more, some, long)) in
    elim (bytes_or_none four size) [
      | inr none ↦ inr (λ n lt is. absurd (none n is))
      | inl bytes ↦ elim (cases_lt room (6 + v)) [
        | inl short ↦ inr (λ n lt is. let same : v ≡ n = ap (λ (l : List ℕ). from_be_bytes w32 l) is ∙ from_be_bytes-to_be_bytes_4 n lt in omega (arith, same, short))
        | inr fits ↦ inl (record {
          n = v;
          size = omega (arith, bytes 0, bytes 1, bytes 2, bytes 3);
          four = sym (be_bytes_4 four v size bytes refl);
          fits = fits;
        })
      ]
    ]

cons_of : (l : List ℕ) → 0 < length l → l ≡ get_or l 0 0 ∷ drop 1 l
cons_of [] none = absurd (omega (arith, none))
cons_of (x ∷ l) some = refl

-- one body more
record Longer (image : List ℕ) (bodies : List (List ℕ)) (before : List ℕ) (n : ℕ) : Type 0 where
  body : List ℕ
  rest : List ℕ
  whole : image ≡ before ++ (frames (bodies ++ body ∷ []) ++ rest)
  sizes : AreBodies (bodies ++ body ∷ [])
  used : length (frames (bodies ++ body ∷ [])) ≡ length (frames bodies) + 5 + n

longer : (image : List ℕ) (bodies : List (List ℕ)) (before more : List ℕ) (room : ℕ) → image ≡ before ++ (frames bodies ++ more) → AreBodies bodies
    → room ≤ length more → get_or more 0 0 ≡ 0xa5 → (s : Says room more) → Longer image bodies before s.n
longer image bodies before more room whole sizes long open_ s =
    let n : ℕ = s.n in
    let body : List ℕ = take n (drop 5 more) in
    let rest : List ℕ = drop n (drop 5 more) in
    let size : length body ≡ n = length-take-le n (drop 5 more) (omega (arith, length-drop 5 more, long, s.fits)) in
    let opens : opening n ≡ take 5 more = ap (λ (t : List ℕ). 0xa5 ∷ t) (sym s.four) ∙ ap (λ (x : ℕ). x ∷ take 4 (drop 1 more)) (sym open_)
    ∙ sym (ap (λ (t : List ℕ). take 5 t) (cons_of more (omega (arith, long, s.fits)))) in
    let more_is : more ≡ frame body ++ rest = sym (take-append-drop 5 more) ∙ ap (λ (l : List ℕ). l ++ drop 5 more) (sym opens ∙ ap (λ (k : ℕ). opening k) (sym size))
    ∙ ap (λ (l : List ℕ). opening (length body) ++ l) (sym (take-append-drop n (drop 5 more))) ∙ sym (append_assoc (opening (length body)) body rest) in
    record {
      body = body;
      rest = rest;
      whole = whole ∙ ap (λ (l : List ℕ). before ++ (frames bodies ++ l)) more_is ∙ ap (λ (l : List ℕ). before ++ l) (sym (append_assoc (frames bodies) (frame body) rest))
          ∙ ap (λ (l : List ℕ). before ++ (l ++ rest)) (frames-more bodies body);
      sizes = sizes-more bodies body sizes (subst (λ (k : ℕ). k < 2 ^ 32) (sym size) s.size);
      used = ap length (sym (frames-more bodies body)) ∙ (let k : length (frames bodies ++ frame body) ≡ length (frames bodies) + 5 + n = omega (arith, length-append (frames bodies) (frame body), length-frame body, size) in k);
    }

module _ (at half : ℕ) (image : List ℕ) (inside : at + half ≤ length image) where
  abbrev Decided : Type 0
  Decided = ((bodies : List (List ℕ)) × HalfStands at half image bodies) ⊎ HalfOverruns at half image

  -- from the gate behind some bodies on, where so many bytes of the half are left at most
  decided : (fuel : ℕ) (bodies : List (List ℕ)) (before more : List ℕ) → image ≡ before ++ (frames bodies ++ more) → length before ≡ at → AreBodies bodies
      → length (frames bodies) ≤ half → half ≤ length (frames bodies) + fuel → Decided
  decided zero bodies before more whole place sizes used left =
      inr (record { bodies = bodies; before = before; behind = more; whole = whole; place = place; sizes = sizes; past = inl (omega (arith, left)) })
  decided (suc fuel) bodies before more whole place sizes used left =
      let L : ℕ = length (frames bodies) in
      let long : half - L ≤ length more = omega (arith, ap length whole, length-append before (frames bodies ++ more), length-append (frames bodies) more, place, inside) in
      elim (cases_lt half (L + 1)) [
        | inl none ↦ inr (record { bodies = bodies; before = before; behind = more; whole = whole; place = place; sizes = sizes; past = inl none })
        | inr room ↦ elim (cases_eq (get_or more 0 0) 0xa5) [
          | inr shut ↦ inl (
            bodies,
            record {
              before = before;
              gate = get_or more 0 0;
              behind = drop 1 more;
              whole = whole ∙ ap (λ (l : List ℕ). before ++ (frames bodies ++ l)) (cons_of more (omega (arith, long, room)));
              place = place;
              shut = shut;
              within = room;
              sizes = sizes;
            },
          )
          | inl open_ ↦ elim (cases_lt half (L + 6)) [
            | inl short ↦ inr (record { bodies = bodies; before = before; behind = more; whole = whole; place = place; sizes = sizes; past = inr (open_, λ n lt is. omega (arith, short)) })
            | inr head ↦ elim (says_or_far (half - L) more (omega (arith, head)) long) [
              | inr far ↦ inr (record { bodies = bodies; before = before; behind = more; whole = whole; place = place; sizes = sizes; past = inr (open_, λ n lt is. omega (arith, far n lt is, head)) })
              | inl says ↦ let l = longer image bodies before more (half - L) whole sizes long open_ says in
                  decided fuel (bodies ++ l.body ∷ []) before l.rest l.whole place l.sizes (omega (arith, l.used, says.fits, head)) (omega (arith, l.used, left))
            ]
          ]
        ]
      ]

-- the law of regions
pub one_list_law : OneList
one_list_law region image within =
    let at : ℕ = half_at region (selected region image) in
    let inside : at + region.half ≤ length image = omega (arith, half_inside region (selected region image), within) in
    elim (decided at region.half image inside region.half [] (take at image) (drop at image) (sym (take-append-drop at image)) (length-take-le at image (omega (arith, inside))) tt (omega arith) (omega arith)) [
      | inl found ↦ inl (record { bodies = found.0; stands = found.1; alone = λ others stands. one_of_half at region.half image found.0 others found.1 stands })
      | inr over ↦ inr (record { overruns = over; none = λ others stands. overruns_none at region.half image over others stands })
    ]
