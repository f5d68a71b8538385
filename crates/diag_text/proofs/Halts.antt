-- Where the parts of a container come to a halt.
use Rattle.std.proofs.Common.{◌≡◌, ℕ, zero, suc, ◌+◌, ◌^◌, ◌<◌, ◌≤◌, false, cond, List, [], ◌∷◌, ◌++◌, length, Ok, Err, refl, sym, ap, subst, ◌∙◌, append_assoc, append-nil, arith, inl, inr, ◌⊎◌, codes, length-append}
use Rattle.cbor_heads.specs.Place.{Place, skip, behind, begins}
use Rattle.cbor_heads.specs.Reading.{Reader}
use Rattle.diag_text.specs.Reading.{past, parts_at}
use Rattle.diag_text.specs.Faulty.{followed}
use Rattle.diag_text.proofs.Fronts.{stops_comma}
use Rattle.cbor_heads.proofs.Public.Places.{behind_here, behind_then}
use Rattle.cbor_heads.proofs.Public.Outcomes.{chosen, err_is, not_err, bind_err}
use Rattle.diag_text.proofs.Takes.{TextTook, text_then, took_fits, token_took, Chain}
use Rattle.diag_text.proofs.Again.{place, IsMark, Each}

-- ---- places

-- the place behind a text that was taken
pub behind_is : (p : Place) (text : List ℕ) (q : Place) → TextTook p text q → q ≡ behind p.at text q.rest
behind_is p text q t = ap (λ (n : ℕ). place n q.rest) t.at

no_more : (bytes : List ℕ) → length bytes ≤ 0 → bytes ≡ []
no_more [] none = refl
no_more (b ∷ bytes) none = absurd (omega arith)

-- ---- a part, and what is behind it

-- the part stands, and neither the closing mark nor a comma is behind it
pub record Halted {X : Type 0} (part : List X → Reader ℕ X) (close : List ℕ) (found : List X) (q : Place) (at : ℕ) : Type 0 where
  pub got : X × Place
  pub read : part found q ≡ Ok got
  pub unclosed : begins close got.1.rest ≡ false
  pub comma : begins (codes ", ") got.1.rest ≡ false
  pub place : at ≡ got.1.at

abbrev pub Halts : {X : Type 0} → (List X → Reader ℕ X) → List ℕ → List X → Place → ℕ → Type 0
Halts part close found q at = (part found q ≡ Err at) ⊎ Halted part close found q at

-- some parts stand, each with a comma behind it, and the next comes to a halt
pub record Stopped {X : Type 0} (part : List X → Reader ℕ X) (text : X → List ℕ) (P : List X → X → Type 0) (close : List ℕ) (found : List X) (q : Place) (at : ℕ) : Type 0 where
  pub parts : List X
  pub more : List ℕ
  pub each : Chain P found parts
  pub stands : q.rest ≡ followed text parts ++ more
  pub next : Halts part close (found ++ parts) (behind q.at (followed text parts) more) at

halts_from : {X : Type 0} (part : List X → Reader ℕ X) (close : List ℕ) (a b : List X) (p q : Place) (at : ℕ) → a ≡ b → p ≡ q → Halts part close a p at → Halts part close b q at
halts_from {X = X} part close a b p q at e f h = subst (λ (s : Place). Halts part close b s at) f (subst (λ (xs : List X). Halts part close xs p at) e h)

module _ {X : Type 0} (part : List X → Reader ℕ X) (text : X → List ℕ) (P : List X → X → Type 0) (close : List ℕ)
    (law : (found : List X) (p : Place) (x : X × Place) → length p.rest < 2 ^ 64 → part found p ≡ Ok x → TextTook p (text x.0) x.1 × P found x.0)
    (empty : (found : List X) (b : ℕ) → part found (place b []) ≡ Err b) where
  -- the next part comes to a halt
  stopped_here : (found : List X) (p : Place) (at : ℕ) → Halts part close found p at → Stopped part text P close found p at
  stopped_here found p at h = record {
    parts = [];
    more = p.rest;
    each = tt;
    stands = refl;
    next = halts_from part close found (found ++ []) p (behind p.at [] p.rest) at (sym (append-nil found)) (sym (behind_here p)) h;
  }

  stopped_later : (found : List X) (p : Place) (at : ℕ) (x : X) (q : Place) → TextTook p (text x ++ codes ", ") q → P found x → Stopped part text P close (found ++ x ∷ []) q at → Stopped part text P close found p at
  stopped_later found p at x q t good later =
      let front : List ℕ = text x ++ codes ", " in
      let rest : List ℕ = followed text later.parts in
      record {
        parts = x ∷ later.parts;
        more = later.more;
        each = (good, later.each);
        stands = t.rest ∙ ap (λ (s : List ℕ). front ++ s) later.stands ∙ sym (append_assoc front rest later.more);
        next = halts_from part close ((found ++ x ∷ []) ++ later.parts) (found ++ x ∷ later.parts) (behind q.at rest later.more) (behind p.at (front ++ rest) later.more) at
            (append_assoc found (x ∷ []) later.parts) (behind_then p front q rest later.more t.at) later.next;
      }

  pub parts_stop : (n : ℕ) (found : List X) (p : Place) (at : ℕ) → length p.rest < 2 ^ 64 → length p.rest ≤ n → parts_at part close n found p ≡ Err at → Stopped part text P close found p at
  unfolding parts_at
  parts_stop zero found p at fits le e =
      let none : p.rest ≡ [] = no_more p.rest le in
      let stop : part found p ≡ Err p.at = ap (λ (s : List ℕ). part found (place p.at s)) none ∙ empty found p.at in
      stopped_here found p at (inl (stop ∙ ap (λ (k : ℕ). Err k) (err_is {A = List X × Place} p.at at e)))
  parts_stop (suc n) found p at fits le e =
      elim (bind_err (part found p) (λ y. cond (begins close y.1.rest) (Ok (found ++ y.0 ∷ [], skip (length close) y.1)) (past (codes ", ") y.1 (λ q. parts_at part close n (found ++ y.0 ∷ []) q))) at e) [
        | inl stop ↦ stopped_here found p at (inl stop)
        | inr go ↦
            let x = go.0 in
            let one = law found p x fits go.1 in
            let now = found ++ x.0 ∷ [] in
            elim (chosen (begins close x.1.rest) (Ok (now, skip (length close) x.1)) (past (codes ", ") x.1 (λ q. parts_at part close n now q)) (Err at) go.2) [
              | inl closed ↦ absurd (not_err (now, skip (length close) x.1) at closed.1)
              | inr more ↦ elim (chosen (begins (codes ", ") x.1.rest) (parts_at part close n now (skip 2 x.1)) (Err x.1.at) (Err at) more.1) [
                | inl comma ↦
                    let q : Place = skip 2 x.1 in
                    let sep : TextTook x.1 (codes ", ") q = token_took (codes ", ") x.1 comma.0 in
                    let all : TextTook p (text x.0 ++ codes ", ") q = text_then p (text x.0) x.1 (codes ", ") q one.0 sep in
                    let left = took_fits p (text x.0 ++ codes ", ") q all fits in
                    let room : length q.rest ≤ n = omega (arith, ap length all.rest, length-append (text x.0 ++ codes ", ") q.rest, length-append (text x.0) (codes ", ")) in
                    stopped_later found p at x.0 q all one.1 (parts_stop n now q at left room comma.1)
                | inr none ↦ stopped_here found p at (inr (record { got = x; read = go.1; unclosed = more.0; comma = none.0; place = sym (err_is {A = List X × Place} x.1.at at none.1) }))
              ]
            ]
      ]

-- ---- the other way round

module _ {X : Type 0} (part : List X → Reader ℕ X) (text : X → List ℕ) (close : List ℕ) (empty : (found : List X) (b : ℕ) → part found (place b []) ≡ Err b) (mark : IsMark close) where
  halts_empty : (found : List X) (b at : ℕ) → Halts part close found (place b []) at → at ≡ b
  halts_empty found b at (inl stop) = sym (err_is {A = X × Place} b at (sym (empty found b) ∙ stop))
  halts_empty found b at (inr h) = absurd (let both : Ok h.got ≡ Err b = sym h.read ∙ empty found b in not_err h.got b both)

  halts_stop : (n : ℕ) (found : List X) (p : Place) (at : ℕ) → Halts part close found p at → parts_at part close (suc n) found p ≡ Err at
  unfolding parts_at
  halts_stop n found p at (inl stop) = rw stop refl
  halts_stop n found p at (inr h) = rw (h.read, h.unclosed, h.comma) (ap (λ (k : ℕ). Err k) (sym h.place))

  pub parts_halt : (xs found : List X) (n b : ℕ) (more : List ℕ) (at : ℕ) → Each part text close mark found xs → length (followed text xs ++ more) ≤ n
      → Halts part close (found ++ xs) (behind b (followed text xs) more) at → parts_at part close n found (place b (followed text xs ++ more)) ≡ Err at
  unfolding parts_at
  parts_halt [] found zero b more at each le halts =
      let none : more ≡ [] = no_more more le in
      let here = halts_from part close (found ++ []) found (behind b [] more) (place b []) at (append-nil found) (behind_here (place b more) ∙ ap (λ (s : List ℕ). place b s) none) halts in
      ap (λ (k : ℕ). Err k) (sym (halts_empty found b at here))
  parts_halt [] found (suc n) b more at each le halts = halts_stop n found (place b more) at (halts_from part close (found ++ []) found (behind b [] more) (place b more) at (append-nil found) (behind_here (place b more)) halts)
  parts_halt (x ∷ xs) found zero b more at each le halts =
      let front : List ℕ = text x ++ codes ", " in
      absurd (omega (arith, le, length-append (front ++ followed text xs) more, length-append front (followed text xs), length-append (text x) (codes ", ")))
  parts_halt (x ∷ xs) found (suc n) b more at each le halts =
      let front : List ℕ = text x ++ codes ", " in
      let rest : List ℕ = followed text xs in
      let tail : List ℕ = rest ++ more in
      let bytes : (front ++ rest) ++ more ≡ text x ++ (codes ", " ++ tail) = append_assoc front rest more ∙ append_assoc (text x) (codes ", ") tail in
      let one = each.0 b (codes ", " ++ tail) (stops_comma tail) in
      let room : length tail ≤ n = omega (arith, le, ap length bytes, length-append (text x) (codes ", " ++ tail)) in
      let len : b + length (text x) + 2 ≡ b + length front = omega (arith, length-append (text x) (codes ", ")) in
      let later : Halts part close ((found ++ x ∷ []) ++ xs) (behind (b + length (text x) + 2) rest more) at =
      (halts_from part close (found ++ x ∷ xs) ((found ++ x ∷ []) ++ xs) (behind b (front ++ rest) more) (behind (b + length (text x) + 2) rest more) at
      (sym (append_assoc found (x ∷ []) xs)) (sym (behind_then (place b []) front (place (b + length (text x) + 2) []) rest more len)) halts) in
      let others = parts_halt xs (found ++ x ∷ []) n (b + length (text x) + 2) more at each.1 room later in
      let step : parts_at part close (suc n) found (place b (text x ++ (codes ", " ++ tail))) ≡ parts_at part close n (found ++ x ∷ []) (place (b + length (text x) + 2) tail) =
      rw (one, mark.not_comma tail) refl in
      ap (λ (s : List ℕ). parts_at part close (suc n) found (place b s)) bytes ∙ step ∙ others
