-- What is read has this text.
use Rattle.std.proofs.Common.{◌≡◌, ℕ, zero, suc, ◌+◌, ◌^◌, ◌<◌, ◌≤◌, Bool, true, false, cond, nat_lt, List, [], ◌∷◌, ◌++◌, length, drop, Result, Ok, Err, Option, Some, None, refl, sym, ap, subst}
use Rattle.std.proofs.Common.{◌∙◌, append_assoc, append-nil, arith, inl, inr, ◌⊎◌, codes, decimal, take-append-drop, length-append, ltb-true, nat_eq}
use Rattle.std.specs.List.{flat_map}
use Rattle.std.specs.Str.Parse.{digits_value}
use Rattle.std.proofs.lemmas.Bool.{cases_Bool, and_parts, eqb-true}
use Rattle.cbor_heads.specs.Place.{Place, skip, begins}
use Rattle.base_types.specs.Bytes.{IsBytes}
use Rattle.diag_text.specs.Printed.{listed}
use Rattle.cbor_heads.specs.Reading.{Outcome, Reader, ◌>>=◌}
use Rattle.diag_text.specs.Reading.{past, digits, same, if_decimal, numeral_value, number_by, number_at, pieces_at, parts_at}
use Rattle.diag_text.specs.Faulty.{NoDigit}
use Rattle.cbor_heads.proofs.Public.Outcomes.{bind_ok, not_ok, ok_is, chosen, held}
use Rattle.diag_text.proofs.Fronts.{begins_is}
use Rattle.diag_text.proofs.Digits.{take_digits, no_digit_behind}

-- ---- places

-- a text stands between two places
pub record TextTook (p : Place) (text : List ℕ) (q : Place) : Type 0 where
  pub rest : p.rest ≡ text ++ q.rest
  pub at : q.at ≡ p.at + length text

pub text_none : (p : Place) → TextTook p [] p
text_none p = record { rest = refl; at = omega arith }

pub text_then : (p : Place) (x : List ℕ) (q : Place) (y : List ℕ) (r : Place) → TextTook p x q → TextTook q y r → TextTook p (x ++ y) r
text_then p x q y r a b = record {
  rest = a.rest ∙ ap (λ (t : List ℕ). x ++ t) b.rest ∙ sym (append_assoc x y r.rest);
  at = omega (arith, a.at, b.at, length-append x y);
}

pub took_fits : (p : Place) (text : List ℕ) (q : Place) → TextTook p text q → length p.rest < 2 ^ 64 → length q.rest < 2 ^ 64
took_fits p text q t fits = omega (arith, ap length t.rest, length-append text q.rest)

pub token_took : (token : List ℕ) (p : Place) → begins token p.rest ≡ true → TextTook p token (skip (length token) p)
token_took token p e = record { rest = begins_is token p.rest e; at = refl }

-- what is read behind a token
pub behind_took : {A : Type 0} (token : List ℕ) (p : Place) (f : Place → Outcome ℕ A) (x : A × Place) → past token p f ≡ Ok x
    → TextTook p token (skip (length token) p) × (f (skip (length token) p) ≡ Ok x)
behind_took token p f x e = let h = held (begins token p.rest) (f (skip (length token) p)) p.at x e in (token_took token p h.0, h.1)

-- ---- bytes and characters

pub record Pieces (spell : ℕ → List ℕ) (guess : List ℕ → ℕ) (close : List ℕ) (n : ℕ) (found : List ℕ) (p : Place) (x : List ℕ × Place) : Type 0 where
  pub bytes : List ℕ
  pub count : length bytes ≤ n
  pub fit : ((text : List ℕ) → guess text < 256) → IsBytes bytes
  pub all : x.0 ≡ found ++ bytes
  pub took : TextTook p (flat_map spell bytes ++ close) x.1

all_fit : (v : ℕ) (bytes : List ℕ) → v < 256 → IsBytes bytes → IsBytes (v ∷ bytes)
all_fit v bytes small fit zero = small
all_fit v bytes small fit (suc i) = fit i

pub pieces_take : (spell : ℕ → List ℕ) (guess : List ℕ → ℕ) (close : List ℕ) (at n : ℕ) (found : List ℕ) (p : Place) (x : List ℕ × Place)
    → pieces_at spell guess close at n found p ≡ Ok x → Pieces spell guess close n found p x
unfolding pieces_at
pieces_take spell guess close at zero found p x e = absurd (not_ok at x e)
pieces_take spell guess close at (suc n) found p x e =
    let v = guess p.rest in
    let q = skip (length (spell v)) p in
    elim (chosen (begins close p.rest) (Ok (found, skip (length close) p)) (cond (begins (spell v) p.rest) (pieces_at spell guess close at n (found ++ v ∷ []) q) (Err at)) (Ok x) e) [
      | inl here ↦
          let is = ok_is (found, skip (length close) p) x here.1 in
          subst (λ (y : List ℕ × Place). Pieces spell guess close (suc n) found p y) is (record { bytes = []; count = omega arith; fit = λ small i. omega arith; all = sym (append-nil found); took = token_took close p here.0 })
      | inr more ↦
          let h = held (begins (spell v) p.rest) (pieces_at spell guess close at n (found ++ v ∷ []) q) at x more.1 in
          let others = pieces_take spell guess close at n (found ++ v ∷ []) q x h.1 in
          let text : spell v ++ (flat_map spell others.bytes ++ close) ≡ flat_map spell (v ∷ others.bytes) ++ close = sym (append_assoc (spell v) (flat_map spell others.bytes) close) in
          record {
            bytes = v ∷ others.bytes;
            count = omega (arith, others.count);
            fit = λ small. all_fit v others.bytes (small p.rest) (others.fit small);
            all = others.all ∙ append_assoc found (v ∷ []) others.bytes;
            took = subst (λ (t : List ℕ). TextTook p t x.1) text (text_then p (spell v) q (flat_map spell others.bytes ++ close) x.1 (token_took (spell v) p h.0) others.took);
          }
    ]

-- ---- parts

-- each part meets P, which may speak of those before it
abbrev pub Chain : {X : Type 0} → (List X → X → Type 0) → List X → List X → Type 0
Chain P found [] = Unit {0}
Chain P found (x ∷ xs) = P found x × Chain P (found ++ x ∷ []) xs

pub record Parts {X : Type 0} (text : X → List ℕ) (P : List X → X → Type 0) (close : List ℕ) (n : ℕ) (found : List X) (p : Place) (x : List X × Place) : Type 0 where
  pub first : X
  pub others : List X
  pub all : x.0 ≡ found ++ first ∷ others
  pub count : length (first ∷ others) ≤ n
  pub each : Chain P found (first ∷ others)
  pub took : TextTook p (listed text (first ∷ others) ++ close) x.1

module _ {X : Type 0} (part : List X → Reader ℕ X) (text : X → List ℕ) (P : List X → X → Type 0) (close : List ℕ)
    (law : (found : List X) (p : Place) (x : X × Place) → length p.rest < 2 ^ 64 → part found p ≡ Ok x → TextTook p (text x.0) x.1 × P found x.0) where
  pub parts_take : (n : ℕ) (found : List X) (p : Place) (x : List X × Place) → length p.rest < 2 ^ 64 → parts_at part close n found p ≡ Ok x → Parts text P close n found p x
  unfolding parts_at
  parts_take zero found p x fits e = absurd (not_ok p.at x e)
  parts_take (suc n) found p x fits e =
      let a = bind_ok (part found p) (λ y. cond (begins close y.1.rest) (Ok (found ++ y.0 ∷ [], skip (length close) y.1)) (past (codes ", ") y.1 (λ q. parts_at part close n (found ++ y.0 ∷ []) q))) x e in
      let one = law found p a.0 fits a.1 in
      let left = took_fits p (text a.0.0) a.0.1 one.0 fits in
      let now = found ++ a.0.0 ∷ [] in
      elim (chosen (begins close a.0.1.rest) (Ok (now, skip (length close) a.0.1)) (past (codes ", ") a.0.1 (λ q. parts_at part close n now q)) (Ok x) a.2) [
        | inl here ↦
            let is = ok_is (now, skip (length close) a.0.1) x here.1 in
            let last : text a.0.0 ++ close ≡ listed text (a.0.0 ∷ []) ++ close = ap (λ (t : List ℕ). t ++ close) (sym (append-nil (text a.0.0))) in
            subst (λ (y : List X × Place). Parts text P close (suc n) found p y) is (record {
              first = a.0.0;
              others = [];
              all = refl;
              count = omega arith;
              each = (one.1, tt);
              took = subst (λ (t : List ℕ). TextTook p t (skip (length close) a.0.1)) last (text_then p (text a.0.0) a.0.1 close (skip (length close) a.0.1) one.0 (token_took close a.0.1 here.0));
            })
        | inr more ↦
            let sep = behind_took (codes ", ") a.0.1 (λ q. parts_at part close n now q) x more.1 in
            let others = parts_take n now (skip 2 a.0.1) x (took_fits a.0.1 (codes ", ") (skip 2 a.0.1) sep.0 left) sep.1 in
            let rest = listed text (others.first ∷ others.others) in
            let flat : text a.0.0 ++ (codes ", " ++ (rest ++ close)) ≡ listed text (a.0.0 ∷ others.first ∷ others.others) ++ close =
            (ap (λ (t : List ℕ). text a.0.0 ++ t) (ap (λ (t : List ℕ). codes ", " ++ t) refl) ∙ sym (append_assoc (text a.0.0) (codes ", " ++ rest) close)) in
            record {
              first = a.0.0;
              others = others.first ∷ others.others;
              all = others.all ∙ append_assoc found (a.0.0 ∷ []) (others.first ∷ others.others);
              count = omega (arith, others.count);
              each = (one.1, others.each);
              took = subst (λ (t : List ℕ). TextTook p t x.1) flat (text_then p (text a.0.0) a.0.1 (codes ", " ++ (rest ++ close)) x.1 one.0 (text_then a.0.1 (codes ", ") (skip 2 a.0.1) (rest ++ close) x.1 sep.0 others.took));
            }
      ]

-- ---- numbers

same_is : (a b : List ℕ) → same a b ≡ true → a ≡ b
same_is [] [] e = refl
same_is [] (y ∷ ys) e = absurd cc
same_is (x ∷ xs) [] e = absurd cc
same_is (x ∷ xs) (y ∷ ys) e =
    let both = and_parts (nat_eq x y) (same xs ys) e in
    let head : x ≡ y = eqb-true x y both.0 in
    let tail : xs ≡ ys = same_is xs ys both.1 in
    cc

pub record IsNumber (limit : ℕ) (ds : List ℕ) (n : ℕ) : Type 0 where
  pub text : decimal n ≡ ds
  pub below : n < limit

decimal_some : (ds : List ℕ) (limit n m : ℕ) → n < limit → if_decimal ds (Some n) ≡ Some m → IsNumber limit ds m
decimal_some ds limit n m lt e = elim (cases_Bool (same (decimal n) ds)) [
  | inl here ↦
      let f : Some n ≡ Some m = rw here at e in
      let is : n ≡ m = cc in
      subst (λ (k : ℕ). IsNumber limit ds k) is (record { text = same_is (decimal n) ds here; below = lt })
  | inr other ↦ absurd (let f : None ≡ Some m = rw other at e in cc)
]

pub number_is : (limit : ℕ) (ds : List ℕ) (n : ℕ) → numeral_value limit ds ≡ Some n → IsNumber limit ds n
unfolding numeral_value
number_is limit ds n e = elim (cases_Bool (nat_lt (digits_value 10 ds) limit)) [
  | inl small ↦ decimal_some ds limit (digits_value 10 ds) n (ltb-true _ _ small) (rw small at e)
  | inr large ↦ absurd (let f : None ≡ Some n = rw large at e in cc)
]

-- a number that stood between two places, with all its digits
pub record NumberTook (limit : ℕ) (p : Place) (x : ℕ × Place) : Type 0 where
  pub took : TextTook p (decimal x.0) x.1
  pub below : x.0 < limit
  pub ends : NoDigit x.1.rest

number_by_takes : (at limit : ℕ) (p : Place) (o : Option ℕ) (x : ℕ × Place) → numeral_value limit (digits p.rest) ≡ o → number_by at (digits p.rest) p o ≡ Ok x → NumberTook limit p x
number_by_takes at limit p None x is e = absurd (not_ok at x e)
number_by_takes at limit p (Some n) x is e =
    let number = number_is limit (digits p.rest) n is in
    let front : p.rest ≡ digits p.rest ++ drop (length (digits p.rest)) p.rest = sym (take-append-drop (length (digits p.rest)) p.rest) ∙ ap (λ (t : List ℕ). t ++ drop (length (digits p.rest)) p.rest) (take_digits p.rest) in
    let took : TextTook p (digits p.rest) (skip (length (digits p.rest)) p) = record { rest = front; at = refl } in
    subst (λ (y : ℕ × Place). NumberTook limit p y) (ok_is (n, skip (length (digits p.rest)) p) x e) (record {
      took = subst (λ (t : List ℕ). TextTook p t (skip (length (digits p.rest)) p)) (sym number.text) took;
      below = number.below;
      ends = no_digit_behind p.rest;
    })

pub number_takes : (at limit : ℕ) (p : Place) (x : ℕ × Place) → number_at at limit p ≡ Ok x → NumberTook limit p x
number_takes at limit p x e = number_by_takes at limit p (numeral_value limit (digits p.rest)) x refl e
