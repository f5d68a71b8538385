-- What is refused is faulty.
use Rattle.std.proofs.Common.{◌≡◌, ℕ, zero, suc, ◌^◌, ◌<◌, true, false, cond, List, [], ◌++◌, length, Ok, Err, Some, None, refl, sym, ap, subst, ◌∙◌, append_assoc, arith, inl, inr, ◌⊎◌, codes, decimal, length-append}
use Rattle.cbor_core.specs.declared.item.Item.{Item}
use Rattle.cbor_core.specs.declared.item.Item.TheVariants as i
use Rattle.cbor_core.specs.declared.item.Pair.{Pair}
use Rattle.cbor_heads.specs.Place.{Place, skip, behind, begins}
use Rattle.cbor_core.specs.Spelling.{spelling, bytes_below, IsSpellable}
use Rattle.cbor_core.specs.Faulty.{last_key}
use Rattle.diag_text.specs.Printed.{printed, pair_printed}
use Rattle.cbor_heads.specs.Reading.{Reader, ◌>>=◌, nested}
use Rattle.diag_text.specs.Reading.{past, parts_at, inside_at, member_at, key_at, pair_at, array_at, map_at, tag_at, item_by, item_at}
use Rattle.diag_text.specs.Faulty.{Starts, Begins, followed, NeitherMark, WrongBehind, PartFault, ArrayFault, ColonFault, KeyFault, MapFault, TagFault, FaultyBy, Faulty}
use Rattle.diag_text.proofs.Fronts.{not_starts}
use Rattle.diag_text.proofs.Loops.{member_is}
use Rattle.cbor_heads.proofs.Public.Outcomes.{bind_ok, chosen, ok_is, held, err_is, not_err, bind_err}
use Rattle.diag_text.proofs.Takes.{TextTook, text_then, took_fits, token_took, NumberTook}
use Rattle.diag_text.proofs.Again.{place}
use Rattle.diag_text.proofs.Found.{TakesBy, Taken, PairIs, chain_all, chain_pairs, chain_ascends, member_takes, pair_takes, pair_parts, item_takes}
use Rattle.diag_text.proofs.Level.{Level, level, scalar, nothing, square, curly, tagged, scalar_read, item_empty}
use Rattle.cbor_heads.proofs.Public.Places.{behind_then}
use Rattle.diag_text.proofs.Halts.{behind_is, Halts, parts_stop}

-- what a reader refuses is faulty
abbrev pub FaultBy : Reader ℕ Item → (Place → ℕ → Type 0) → Type 0
FaultBy inner F = (p : Place) (at : ℕ) → length p.rest < 2 ^ 64 → inner p ≡ Err at → F p at

module _ (inner : Reader ℕ Item) (P : Item → Type 0) (F : Place → ℕ → Type 0) (takes : TakesBy inner P) (refuses : FaultBy inner F) (empty : (b : ℕ) → inner (place b []) ≡ Err b) where
  wrong_behind : (Wrong : List ℕ → Type 0) (q : Place) (at : ℕ) (x : Item × Place) → Taken P q x → Wrong x.1.rest → at ≡ x.1.at → WrongBehind P Wrong q at
  wrong_behind Wrong q at x t wrong is = record { item = x.0; more = x.1.rest; proper = t.proper; stands = record { front = t.took.rest; ends = t.ends }; wrong = wrong; place = is ∙ t.took.at }

  -- ---- members

  member_fault : (found : List Item) (q : Place) (at : ℕ) → length q.rest < 2 ^ 64 → Halts (member_at inner) (codes "]") found q at → PartFault P F (NeitherMark (codes "]")) q at
  member_fault found q at fits (inl stop) = inl (refuses q at fits (sym (member_is inner found q) ∙ stop))
  member_fault found q at fits (inr h) =
      inr (wrong_behind (NeitherMark (codes "]")) q at h.got (takes q h.got fits (sym (member_is inner found q) ∙ h.read)) (not_starts (codes "]") h.got.1.rest h.unclosed, not_starts (codes ", ") h.got.1.rest h.comma) h.place)

  member_empty : (found : List Item) (b : ℕ) → member_at inner found (place b []) ≡ Err b
  member_empty found b = member_is inner found (place b []) ∙ empty b

  -- ---- pairs

  key_fault : (last : List ℕ) (q : Place) (at : ℕ) → length q.rest < 2 ^ 64 → key_at inner last q ≡ Err at → F q at ⊎ KeyFault P F last q at
  key_fault last q at fits e = elim (bind_err (inner q) (λ key. cond (bytes_below last (spelling key.0)) (Ok key) (Err q.at)) at e) [
    | inl stop ↦ inl (refuses q at fits stop)
    | inr go ↦
        let x = go.0 in
        let t = takes q x fits go.1 in
        elim (chosen (bytes_below last (spelling x.0)) (Ok x) (Err q.at) (Err at) go.2) [
          | inl above ↦ absurd (not_err x at above.1)
          | inr not ↦ inr (record { key = x.0; more = x.1.rest; proper = t.proper; stands = record { front = t.took.rest; ends = t.ends }; next = inl (not.0, sym (err_is {A = Item × Place} q.at at not.1)) })
        ]
  ]

  -- a key stands, and what is behind it is at fault
  after_key : (last : List ℕ) (q : Place) (at : ℕ) (key : Item × Place) → Taken P q key → bytes_below last (spelling key.0) ≡ true → ColonFault P F key.1 at → KeyFault P F last q at
  after_key last q at key t above fault = record {
    key = key.0;
    more = key.1.rest;
    proper = t.proper;
    stands = record { front = t.took.rest; ends = t.ends };
    next = inr (above, subst (λ (r : Place). ColonFault P F r at) (behind_is q (printed key.0) key.1 t.took) fault);
  }

  -- a colon and a space stand, and what is behind them is at fault
  after_colon : (q : Place) (at : ℕ) → TextTook q (codes ": ") (skip 2 q) → PartFault P F (NeitherMark (codes "}")) (skip 2 q) at → ColonFault P F q at
  after_colon q at t fault = inr ((skip 2 q).rest, t.rest, subst (λ (r : Place). PartFault P F (NeitherMark (codes "}")) r at) (behind_is q (codes ": ") (skip 2 q) t) fault)

  key_is : (last : List ℕ) (q : Place) (x : Item × Place) → key_at inner last q ≡ Ok x → (inner q ≡ Ok x) × (bytes_below last (spelling x.0) ≡ true)
  key_is last q x e =
      let b = bind_ok (inner q) (λ key. cond (bytes_below last (spelling key.0)) (Ok key) (Err q.at)) x e in
      let h = held (bytes_below last (spelling b.0.0)) (Ok b.0) q.at x b.2 in
      let is : b.0 ≡ x = ok_is b.0 x h.1 in
      (b.1 ∙ ap (λ (y : Item × Place). Ok y) is, subst (λ (y : Item × Place). bytes_below last (spelling y.0) ≡ true) is h.0)

  pair_fault : (found : List Pair) (q : Place) (at : ℕ) → length q.rest < 2 ^ 64 → Halts (pair_at inner) (codes "}") found q at → F q at ⊎ KeyFault P F (last_key [] found) q at
  pair_fault found q at fits (inl stop) =
      let last = last_key [] found in
      elim (bind_err (key_at inner last q) (λ key. past (codes ": ") key.1 (λ r. inner r >>= λ value. Ok (record { key = key.0; value = value.0 }, value.1))) at stop) [
        | inl here ↦ key_fault last q at fits here
        | inr go ↦
            let x = go.0 in
            let a = key_is last q x go.1 in
            let t = takes q x fits a.0 in
            let r : Place = skip 2 x.1 in
            elim (chosen (begins (codes ": ") x.1.rest) (inner r >>= λ value. Ok (record { key = x.0; value = value.0 }, value.1)) (Err x.1.at) (Err at) go.2) [
              | inr none ↦ inr (after_key last q at x t a.1 (inl (not_starts (codes ": ") x.1.rest none.0, sym (err_is {A = Pair × Place} x.1.at at none.1))))
              | inl colon ↦
                  let sep : TextTook x.1 (codes ": ") r = token_took (codes ": ") x.1 colon.0 in
                  let left = took_fits x.1 (codes ": ") r sep (took_fits q (printed x.0) x.1 t.took fits) in
                  elim (bind_err (inner r) (λ value. Ok (record { key = x.0; value = value.0 }, value.1)) at colon.1) [
                    | inl value ↦ inr (after_key last q at x t a.1 (after_colon x.1 at sep (inl (refuses r at left value))))
                    | inr done ↦ absurd (not_err (record { key = x.0; value = done.0.0 }, done.0.1) at done.2)
                  ]
            ]
      ]
  pair_fault found q at fits (inr h) =
      let x = h.got in
      let t = pair_parts inner P takes found q x fits h.read in
      let wrong : NeitherMark (codes "}") x.1.rest = (not_starts (codes "}") x.1.rest h.unclosed, not_starts (codes ", ") x.1.rest h.comma) in
      let value = wrong_behind (NeitherMark (codes "}")) (skip 2 t.middle) at (x.0.value, x.1) t.value wrong h.place in
      inr (after_key (last_key [] found) q at (x.0.key, t.middle) t.key t.below (after_colon t.middle at t.colon (inr value)))

  pair_empty : (found : List Pair) (b : ℕ) → pair_at inner found (place b []) ≡ Err b
  pair_empty found b = rw (empty b) refl

  -- ---- containers

  behind_mark : (p : Place) (mark text more : List ℕ) → TextTook p mark (skip (length mark) p) → behind (skip (length mark) p).at text more ≡ behind p.at (mark ++ text) more
  behind_mark p mark text more t = behind_then p mark (skip (length mark) p) text more t.at

  more_fits : (p : Place) (front more : List ℕ) → p.rest ≡ front ++ more → length p.rest < 2 ^ 64 → length more < 2 ^ 64
  more_fits p front more is fits = omega (arith, ap length is, length-append front more)

  array_fault : (p : Place) (at : ℕ) → length p.rest < 2 ^ 64 → begins (codes "[") p.rest ≡ true → array_at (Some inner) p.at (skip 1 p) ≡ Err at → ArrayFault P F p at
  array_fault p at fits here e =
      let q : Place = skip 1 p in
      let front : TextTook p (codes "[") q = token_took (codes "[") p here in
      let left = took_fits p (codes "[") q front fits in
      elim (bind_err (inside_at (member_at inner) (codes "]") q) (λ y. Ok (i.Array y.0, y.1)) at e) [
        | inr done ↦ absurd (not_err (i.Array done.0.0, done.0.1) at done.2)
        | inl stop ↦ elim (chosen (begins (codes "]") q.rest) (Ok ([], skip 1 q)) (parts_at (member_at inner) (codes "]") (length q.rest) [] q) (Err at) stop) [
          | inl closed ↦ absurd (not_err ([], skip 1 q) at closed.1)
          | inr some ↦
              let s = parts_stop (member_at inner) printed (λ found y. P y) (codes "]") (member_takes inner P takes) member_empty (length q.rest) [] q at left (omega arith) some.1 in
              let text : List ℕ = followed printed s.parts in
              let next = member_fault s.parts (behind q.at text s.more) at (more_fits q text s.more s.stands left) s.next in
              record {
                members = s.parts;
                more = s.more;
                proper = chain_all P [] s.parts s.each;
                stands = front.rest ∙ ap (λ (t : List ℕ). codes "[" ++ t) s.stands;
                unclosed = λ none. (let is : q.rest ≡ s.more = s.stands ∙ ap (λ (xs : List Item). followed printed xs ++ s.more) none in not_starts (codes "]") s.more (subst (λ (t : List ℕ). begins (codes "]") t ≡ false) is some.0));
                next = subst (λ (r : Place). PartFault P F (NeitherMark (codes "]")) r at) (behind_mark p (codes "[") text s.more front) next;
              }
        ]
      ]

  map_fault : (p : Place) (at : ℕ) → length p.rest < 2 ^ 64 → begins (codes "{") p.rest ≡ true → map_at (Some inner) p.at (skip 1 p) ≡ Err at → MapFault P F p at
  map_fault p at fits here e =
      let q : Place = skip 1 p in
      let front : TextTook p (codes "{") q = token_took (codes "{") p here in
      let left = took_fits p (codes "{") q front fits in
      elim (bind_err (inside_at (pair_at inner) (codes "}") q) (λ y. Ok (i.Map y.0, y.1)) at e) [
        | inr done ↦ absurd (not_err (i.Map done.0.0, done.0.1) at done.2)
        | inl stop ↦ elim (chosen (begins (codes "}") q.rest) (Ok ([], skip 1 q)) (parts_at (pair_at inner) (codes "}") (length q.rest) [] q) (Err at) stop) [
          | inl closed ↦ absurd (not_err ([], skip 1 q) at closed.1)
          | inr some ↦
              let s = parts_stop (pair_at inner) pair_printed (PairIs P) (codes "}") (pair_takes inner P takes) pair_empty (length q.rest) [] q at left (omega arith) some.1 in
              let text : List ℕ = followed pair_printed s.parts in
              let next = pair_fault s.parts (behind q.at text s.more) at (more_fits q text s.more s.stands left) s.next in
              record {
                pairs = s.parts;
                more = s.more;
                proper = chain_pairs P [] s.parts s.each;
                ascend = chain_ascends P [] s.parts s.each;
                stands = front.rest ∙ ap (λ (t : List ℕ). codes "{" ++ t) s.stands;
                unclosed = λ none. (let is : q.rest ≡ s.more = s.stands ∙ ap (λ (ps : List Pair). followed pair_printed ps ++ s.more) none in not_starts (codes "}") s.more (subst (λ (t : List ℕ). begins (codes "}") t ≡ false) is some.0));
                next = subst (λ (r : Place). F r at ⊎ KeyFault P F (last_key [] s.parts) r at) (behind_mark p (codes "{") text s.more front) next;
              }
        ]
      ]

  tag_fault : (p : Place) (at : ℕ) (a : ℕ × Place) → length p.rest < 2 ^ 64 → NumberTook (2 ^ 64) p a → begins (codes "(") a.1.rest ≡ true → tag_at (Some inner) p.at a.0 (skip 1 a.1) ≡ Err at → TagFault P F p at
  tag_fault p at a fits number here e =
      let q : Place = skip 1 a.1 in
      let sep : TextTook a.1 (codes "(") q = token_took (codes "(") a.1 here in
      let front : TextTook p (decimal a.0 ++ codes "(") q = text_then p (decimal a.0) a.1 (codes "(") q number.took sep in
      let left = took_fits p (decimal a.0 ++ codes "(") q front fits in
      let next : PartFault P F (λ rest. Starts (codes ")") rest → ⊥) q at = (elim (bind_err (inner q) (λ x. past (codes ")") x.1 (λ s. Ok (i.Tag a.0 x.0, s))) at e) [
        | inl stop ↦ inl (refuses q at left stop)
        | inr go ↦
            let x = go.0 in
            elim (chosen (begins (codes ")") x.1.rest) (Ok (i.Tag a.0 x.0, skip 1 x.1)) (Err x.1.at) (Err at) go.2) [
              | inl closed ↦ absurd (not_err (i.Tag a.0 x.0, skip 1 x.1) at closed.1)
              | inr some ↦ inr (wrong_behind (λ rest. Starts (codes ")") rest → ⊥) q at x (takes q x left go.1) (not_starts (codes ")") x.1.rest some.0) (sym (err_is {A = Item × Place} x.1.at at some.1)))
            ]
      ]) in
      record {
        number = a.0;
        more = q.rest;
        small = number.below;
        stands = front.rest ∙ append_assoc (decimal a.0) (codes "(") q.rest;
        next = subst (λ (r : Place). PartFault P F (λ rest. Starts (codes ")") rest → ⊥) r at) (behind_is p (decimal a.0 ++ codes "(") q front) next;
      }

  inside_fault : (p : Place) (at : ℕ) → length p.rest < 2 ^ 64 → item_by (Some inner) p ≡ Err at → Level (Some inner) p (Err at) → FaultyBy P F true p at
  inside_fault p at fits e (scalar x is h) = absurd (scalar_read (Some inner) p at e h)
  inside_fault p at fits e (nothing is closed) = inl ((λ b. elim b [ inl h ↦ scalar_read (Some inner) p at e h | inr o ↦ closed o.1 ]), err_is {A = Item × Place} at p.at is)
  inside_fault p at fits e (square here is) = inr (inl (array_fault p at fits here is))
  inside_fault p at fits e (curly here is) = inr (inr (inl (map_fault p at fits here is)))
  inside_fault p at fits e (tagged a number here is) = inr (inr (inr (tag_fault p at a fits number here is)))

-- ---- an item

abbrev Nothing : Place → ℕ → Type 0
Nothing p at = (Begins false p.rest → ⊥) × (at ≡ p.at)

-- where no container may stand
leaf_fault : (p : Place) (at : ℕ) → item_by None p ≡ Err at → Level None p (Err at) → Nothing p at
leaf_fault p at e l =
    let none : Begins false p.rest → ⊥ = λ b. elim b [ inl h ↦ scalar_read None p at e h | inr o ↦ (let f : false ≡ true = o.0 in cc) ] in
    elim l [
      | scalar x is h ↦ absurd (scalar_read None p at e h)
      | nothing is closed ↦ (none, err_is {A = Item × Place} at p.at is)
      | square here is ↦ (none, sym (err_is {A = Item × Place} p.at at is))
      | curly here is ↦ (none, sym (err_is {A = Item × Place} p.at at is))
      | tagged a number here is ↦ (none, sym (err_is {A = Item × Place} p.at at is))
    ]

-- what is refused is faulty
pub item_fault : (d : ℕ) → FaultBy (item_at d) (Faulty d)
unfolding nested
item_fault zero p at fits e = inl (leaf_fault p at e (level None p (Err at) fits e))
item_fault (suc d) p at fits e =
    inside_fault (item_at d) (IsSpellable d) (Faulty d) (item_takes d) (item_fault d) (item_empty d) p at fits e (level (Some (item_at d)) p (Err at) fits e)
