-- What the first bytes of an item lead its reader to.
use Rattle.std.proofs.Common.{◌≡◌, ℕ, zero, suc, ◌+◌, ◌-◌, ◌^◌, ◌<◌, true, false, cond, nat_lt, List, [], ◌∷◌, ◌++◌, length, drop, Ok, Err, Option, Some, None, refl, sym, ap, subst, ◌∙◌, append_assoc, arith, inl, inr, codes, decimal}
use Rattle.std.specs.Char.{is_ascii_digit}
use Rattle.std.specs.Str.{is_utf8}
use Rattle.std.specs.Str.Parse.{AllDigits}
use Rattle.std.proofs.lemmas.Bool.{le-leb}
use Rattle.std.proofs.lemmas.Fmt.{decimal_is_IsNumeral_wide}
use Rattle.std.proofs.lemmas.Str.Parse.{digit_at}
use Rattle.cbor_core.specs.declared.item.Item.{Item}
use Rattle.cbor_core.specs.declared.item.Item.TheVariants as i
use Rattle.cbor_heads.specs.Place.{Place, skip, begins}
use Rattle.cbor_core.proofs.Public.Levels.{to_spellable}
use Rattle.diag_text.specs.Printed.{hex_byte, escaped}
use Rattle.cbor_heads.specs.Reading.{Outcome, Reader, ◌>>=◌, nested}
use Rattle.diag_text.specs.Reading.{digits, numeral_value, number_by, number_at, hex_guess, text_guess, pieces_at, bytes_at, text_at, array_at, map_at, tag_at, number_or_tag, negative_by, text_by, item_by, item_at}
use Rattle.diag_text.specs.Faulty.{HasScalar, HasTag, Opens}
use Rattle.diag_text.proofs.Fronts.{begins_is, not_starts}
use Rattle.diag_text.proofs.Texts.{printed_Truth, printed_Null}
use Rattle.cbor_heads.proofs.Public.Outcomes.{done, failed, chosen, err_is, not_err}
use Rattle.diag_text.proofs.Takes.{NumberTook, number_takes}
use Rattle.diag_text.proofs.Again.{place, digits_bracket, number_again}
use Rattle.diag_text.proofs.Reread.{scalar_again}
use Rattle.diag_text.proofs.Found.{Whole, word_takes, bytes_takes, string_takes, negative_takes, number_or_tag_leaf}

pub data Level (inner : Option (Reader ℕ Item)) (p : Place) (o : Outcome ℕ Item) : Type 0 where
  scalar : (x : Item × Place) → o ≡ Ok x → HasScalar p.rest → Level inner p o
  nothing : o ≡ Err p.at → (Opens p.rest → ⊥) → Level inner p o
  square : begins (codes "[") p.rest ≡ true → array_at inner p.at (skip 1 p) ≡ o → Level inner p o
  curly : begins (codes "{") p.rest ≡ true → map_at inner p.at (skip 1 p) ≡ o → Level inner p o
  tagged : (a : ℕ × Place) → NumberTook (2 ^ 64) p a → begins (codes "(") a.1.rest ≡ true → tag_at inner p.at a.0 (skip 1 a.1) ≡ o → Level inner p o

-- ---- where a token is refused, it is at its first byte

pieces_err : (spell : ℕ → List ℕ) (guess : List ℕ → ℕ) (close : List ℕ) (at n : ℕ) (found : List ℕ) (p : Place) (b : ℕ) → pieces_at spell guess close at n found p ≡ Err b → at ≡ b
unfolding pieces_at
pieces_err spell guess close at zero found p b e = err_is {A = List ℕ × Place} at b e
pieces_err spell guess close at (suc n) found p b e =
    let v = guess p.rest in
    let next = pieces_at spell guess close at n (found ++ v ∷ []) (skip (length (spell v)) p) in
    elim (chosen (begins close p.rest) (Ok (found, skip (length close) p)) (cond (begins (spell v) p.rest) next (Err at)) (Err b) e) [
      | inl here ↦ absurd (not_err (found, skip (length close) p) b here.1)
      | inr more ↦ elim (chosen (begins (spell v) p.rest) next (Err at) (Err b) more.1) [
        | inl go ↦ pieces_err spell guess close at n (found ++ v ∷ []) (skip (length (spell v)) p) b go.1
        | inr stop ↦ err_is {A = List ℕ × Place} at b stop.1
      ]
    ]

number_err_by : (at : ℕ) (ds : List ℕ) (p : Place) (n : Option ℕ) (b : ℕ) → number_by at ds p n ≡ Err b → at ≡ b
number_err_by at ds p None b e = err_is {A = ℕ × Place} at b e
number_err_by at ds p (Some n) b e = absurd (not_err (n, skip (length ds) p) b e)

number_err : (at limit : ℕ) (p : Place) (b : ℕ) → number_at at limit p ≡ Err b → at ≡ b
number_err at limit p b e = number_err_by at (digits p.rest) p (numeral_value limit (digits p.rest)) b e

-- ---- no container's mark

first_digit : (ds : List ℕ) → 0 < length ds → AllDigits 10 ds → (c : ℕ) × (cs : List ℕ) × (ds ≡ c ∷ cs) × (is_ascii_digit c ≡ true)
first_digit [] some all = absurd (omega arith)
first_digit (c ∷ cs) some all = let range = digit_at (c ∷ cs) 0 all (omega arith) in (c, cs, refl, rw (le-leb 48 c range.0, le-leb c 57 range.1) refl)

decimal_first : (n : ℕ) → n < 10 ^ 64 → (c : ℕ) × (cs : List ℕ) × (decimal n ≡ c ∷ cs) × (is_ascii_digit c ≡ true)
decimal_first n lt = let numeral = (decimal_is_IsNumeral_wide n lt).0 in first_digit (decimal n) numeral.0 numeral.1

not_digit : (c d : ℕ) (cs ds : List ℕ) → c ∷ cs ≡ d ∷ ds → is_ascii_digit c ≡ false → is_ascii_digit d ≡ true → ⊥
not_digit c d cs ds e other digit = let same : c ≡ d = cc in let f : is_ascii_digit c ≡ true = rw same digit in cc

no_tag : (c : ℕ) (cs : List ℕ) → is_ascii_digit c ≡ false → HasTag (c ∷ cs) → ⊥
no_tag c cs digit t =
    let lt : t.number < 2 ^ 64 = t.small in
    let d = decimal_first t.number (omega arith) in
    let e : c ∷ cs ≡ d.0 ∷ ((d.1 ++ codes "(") ++ t.stands.0) = t.stands.1 ∙ ap (λ (ds : List ℕ). (ds ++ codes "(") ++ t.stands.0) d.2 in
    not_digit c d.0 cs ((d.1 ++ codes "(") ++ t.stands.0) e digit d.3

no_mark : (c : ℕ) (cs : List ℕ) → begins (codes "[") (c ∷ cs) ≡ false → begins (codes "{") (c ∷ cs) ≡ false → is_ascii_digit c ≡ false → Opens (c ∷ cs) → ⊥
no_mark c cs s u digit (inl a) = not_starts (codes "[") (c ∷ cs) s a
no_mark c cs s u digit (inr (inl a)) = not_starts (codes "{") (c ∷ cs) u a
no_mark c cs s u digit (inr (inr t)) = no_tag c cs digit t

-- a number that is refused is no tag's
no_number : (p : Place) (b : ℕ) → number_at p.at (2 ^ 64) p ≡ Err b → HasTag p.rest → ⊥
no_number p b e t =
    let n : ℕ = t.number in
    let lt : n < 2 ^ 64 = t.small in
    let text : p.rest ≡ decimal n ++ (codes "(" ++ t.stands.0) = t.stands.1 ∙ append_assoc (decimal n) (codes "(") t.stands.0 in
    let read = number_again p.at (2 ^ 64) n p.at (codes "(" ++ t.stands.0) lt (omega arith) (digits_bracket t.stands.0) in
    let ok : number_at p.at (2 ^ 64) p ≡ Ok (n, place (p.at + length (decimal n)) (codes "(" ++ t.stands.0)) = ap (λ (s : List ℕ). number_at p.at (2 ^ 64) (place p.at s)) text ∙ read in
    cc

-- ---- the token at the place

scalar_stands : (p : Place) (x : Item × Place) → Whole false (λ _. ⊥) p x → HasScalar p.rest
scalar_stands p x w = record { item = x.0; more = x.1.rest; proper = to_spellable zero x.0 w.proper; stands = record { front = w.took.rest; ends = w.ends } }

-- an item that is no container and stands in front is not refused
pub scalar_read : (inner : Option (Reader ℕ Item)) (p : Place) (at : ℕ) → item_by inner p ≡ Err at → HasScalar p.rest → ⊥
scalar_read inner p at e h =
    let read = scalar_again inner h.item h.proper p.at h.more h.stands.ends in
    let ok = ap (λ (s : List ℕ). item_by inner (place p.at s)) h.stands.front ∙ read in
    cc

module _ (inner : Option (Reader ℕ Item)) (p : Place) (o : Outcome ℕ Item) (fits : length p.rest < 2 ^ 64) where
  -- a token that opens no container is refused
  refused : (token : List ℕ) (b : ℕ) → p.at ≡ b → failed b ≡ o → begins token p.rest ≡ true → (Opens (token ++ drop (length token) p.rest) → ⊥) → Level inner p o
  refused token b at e here closed = nothing (sym e ∙ ap (λ (k : ℕ). failed k) (sym at)) (λ opens. closed (subst Opens (begins_is token p.rest here) opens))

  stands : (x : Item × Place) → done x ≡ o → Whole false (λ _. ⊥) p x → Level inner p o
  stands x e w = scalar x (sym e) (scalar_stands p x w)

  bytes_level : (r : Outcome ℕ (List ℕ)) → bytes_at p.at (skip 2 p) ≡ r → begins (codes "h'") p.rest ≡ true → (r >>= λ x. Ok (i.Bytes x.0, x.1)) ≡ o → Level inner p o
  bytes_level (Err b) is here e = refused (codes "h'") b (pieces_err hex_byte hex_guess (codes "'") p.at (length (skip 2 p).rest) [] (skip 2 p) b is) e here (no_mark 104 (39 ∷ drop 2 p.rest) refl refl refl)
  bytes_level (Ok x) is here e = stands (i.Bytes x.0, x.1) e (bytes_takes false (λ _. ⊥) p p.at (i.Bytes x.0, x.1) here fits (rw is refl))

  text_level : (r : Outcome ℕ (List ℕ)) → text_at p.at (skip 1 p) ≡ r → begins (codes "\"") p.rest ≡ true → (r >>= text_by p.at) ≡ o → Level inner p o
  text_level (Err b) is here e = refused (codes "\"") b (pieces_err escaped text_guess (codes "\"") p.at (length (skip 1 p).rest) [] (skip 1 p) b is) e here (no_mark 34 (drop 1 p.rest) refl refl refl)
  text_level (Ok x) is here e = elim (chosen (is_utf8 x.0) (Ok (i.Text x.0, x.1)) (Err p.at) o e) [
    | inl fine ↦ stands (i.Text x.0, x.1) fine.1 (string_takes false (λ _. ⊥) p p.at (i.Text x.0, x.1) here fits (rw (is, fine.0) refl))
    | inr wrong ↦ refused (codes "\"") p.at refl wrong.1 here (no_mark 34 (drop 1 p.rest) refl refl refl)
  ]

  negative_level : (r : Outcome ℕ ℕ) → number_at p.at (2 ^ 64 + 1) (skip 1 p) ≡ r → begins (codes "-") p.rest ≡ true → (r >>= negative_by p.at) ≡ o → Level inner p o
  negative_level (Err b) is here e = refused (codes "-") b (number_err p.at (2 ^ 64 + 1) (skip 1 p) b is) e here (no_mark 45 (drop 1 p.rest) refl refl refl)
  negative_level (Ok x) is here e = elim (chosen (nat_lt 0 x.0) (Ok (i.Negative (x.0 - 1), x.1)) (Err p.at) o e) [
    | inl some ↦ stands (i.Negative (x.0 - 1), x.1) some.1 (negative_takes false (λ _. ⊥) p p.at (i.Negative (x.0 - 1), x.1) here (rw (is, some.0) refl))
    | inr none ↦ refused (codes "-") p.at refl none.1 here (no_mark 45 (drop 1 p.rest) refl refl refl)
  ]

  number_level : (r : Outcome ℕ ℕ) → number_at p.at (2 ^ 64) p ≡ r → begins (codes "[") p.rest ≡ false → begins (codes "{") p.rest ≡ false → (r >>= number_or_tag inner p.at) ≡ o → Level inner p o
  number_level (Err b) is s u e = nothing (sym e ∙ ap (λ (k : ℕ). failed k) (sym (number_err p.at (2 ^ 64) p b is)))
      (λ opens. elim opens [ inl a ↦ not_starts (codes "[") p.rest s a | inr more ↦ elim more [ inl a ↦ not_starts (codes "{") p.rest u a | inr t ↦ no_number p b is t ] ])
  number_level (Ok a) is s u e =
      let number = number_takes p.at (2 ^ 64) p a is in
      elim (chosen (begins (codes "(") a.1.rest) (tag_at inner p.at a.0 (skip 1 a.1)) (Ok (i.Unsigned a.0, a.1)) o e) [
        | inl tag ↦ tagged a number tag.0 tag.1
        | inr plain ↦ stands (i.Unsigned a.0, a.1) plain.1 (number_or_tag_leaf p a (i.Unsigned a.0, a.1) number (rw plain.0 refl))
      ]

  pub level : item_by inner p ≡ o → Level inner p o
  level e0 = elim (chosen (begins (codes "true") p.rest) _ _ o e0) [
    | inl h ↦ stands (i.Truth true, skip 4 p) h.1 (word_takes false (λ _. ⊥) p (codes "true") 4 (i.Truth true) (i.Truth true, skip 4 p) h.0 refl (printed_Truth true) (rw i.outs-Truth tt) (rw i.outs-Truth tt) refl)
    | inr e1 ↦ elim (chosen (begins (codes "false") p.rest) _ _ o e1.1) [
      | inl h ↦ stands (i.Truth false, skip 5 p) h.1 (word_takes false (λ _. ⊥) p (codes "false") 5 (i.Truth false) (i.Truth false, skip 5 p) h.0 refl (printed_Truth false) (rw i.outs-Truth tt) (rw i.outs-Truth tt) refl)
      | inr e2 ↦ elim (chosen (begins (codes "null") p.rest) _ _ o e2.1) [
        | inl h ↦ stands (i.Null, skip 4 p) h.1 (word_takes false (λ _. ⊥) p (codes "null") 4 i.Null (i.Null, skip 4 p) h.0 refl printed_Null (rw i.outs-Null tt) (rw i.outs-Null tt) refl)
        | inr e3 ↦ elim (chosen (begins (codes "h'") p.rest) _ _ o e3.1) [
          | inl h ↦ bytes_level (bytes_at p.at (skip 2 p)) refl h.0 h.1
          | inr e4 ↦ elim (chosen (begins (codes "\"") p.rest) _ _ o e4.1) [
            | inl h ↦ text_level (text_at p.at (skip 1 p)) refl h.0 h.1
            | inr e5 ↦ elim (chosen (begins (codes "[") p.rest) _ _ o e5.1) [
              | inl h ↦ square h.0 h.1
              | inr e6 ↦ elim (chosen (begins (codes "{") p.rest) _ _ o e6.1) [
                | inl h ↦ curly h.0 h.1
                | inr e7 ↦ elim (chosen (begins (codes "-") p.rest) _ _ o e7.1) [
                  | inl h ↦ negative_level (number_at p.at (2 ^ 64 + 1) (skip 1 p)) refl h.0 h.1
                  | inr e8 ↦ number_level (number_at p.at (2 ^ 64) p) refl e6.0 e7.0 e8.1
                ]
              ]
            ]
          ]
        ]
      ]
    ]
  ]

-- ---- no bytes

number_empty : (b : ℕ) → number_at b (2 ^ 64) (place b []) ≡ Err b
unfolding numeral_value
number_empty b = let d = decimal_first 0 (omega arith) in rw d.2 refl

by_empty : (inner : Option (Reader ℕ Item)) (b : ℕ) → item_by inner (place b []) ≡ Err b
by_empty inner b = rw (number_empty b) refl

-- where nothing stands, the item is refused
pub item_empty : (d b : ℕ) → item_at d (place b []) ≡ Err b
unfolding nested
item_empty zero b = by_empty None b
item_empty (suc d) b = by_empty (Some (item_at d)) b
