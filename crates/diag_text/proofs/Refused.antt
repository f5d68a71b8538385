-- What is faulty is refused, at that place.
use Rattle.std.proofs.Common.{◌≡◌, ℕ, zero, suc, ◌+◌, ◌^◌, ◌<◌, true, false, List, [], ◌∷◌, ◌++◌, length, Ok, Err, Some, None, refl, sym, ap, subst, ◌∙◌, arith, inl, inr, ◌⊎◌, codes, decimal, length-append, ne_eqb}
use Rattle.std.specs.List.{AllByRecursion}
use Rattle.cbor_core.specs.declared.item.Item.{Item}
use Rattle.cbor_core.specs.declared.item.Pair.{Pair}
use Rattle.cbor_heads.specs.Place.{Place, skip, behind, begins}
use Rattle.cbor_core.specs.Spelling.{spelling, bytes_below, IsSpellable}
use Rattle.cbor_core.specs.Faulty.{last_key}
use Rattle.diag_text.specs.Printed.{printed, pair_printed}
use Rattle.cbor_heads.specs.Reading.{Outcome, Reader, ◌>>=◌, nested}
use Rattle.diag_text.specs.Reading.{past, parts_at, inside_at, member_at, pair_at, tag_at, plain_at, item_by, item_at}
use Rattle.diag_text.specs.Faulty.{Starts, Stands, HasTag, Begins, followed, NeitherMark, PartFault, ArrayFault, ColonFault, KeyFault, MapFault, TagFault, Faulty}
use Rattle.diag_text.proofs.Fronts.{starts_of, not_begins}
use Rattle.diag_text.proofs.Texts.{pair_printed_out}
use Rattle.diag_text.proofs.Loops.{member_is}
use Rattle.diag_text.proofs.Takes.{TextTook, text_then, token_took, NumberTook}
use Rattle.diag_text.proofs.Again.{place, behind_again, digits_bracket, number_again, square as square_mark, curly as curly_mark}
use Rattle.diag_text.proofs.Reread.{Law, each_member, each_pair, plain_is, item_again, spellable_front}
use Rattle.diag_text.proofs.Level.{Level, level, scalar, nothing, square, curly, tagged, item_empty}
use Rattle.cbor_heads.proofs.Public.Places.{behind_then}
use Rattle.diag_text.proofs.Halts.{Halts, parts_halt}

-- what is faulty is refused by a reader
abbrev pub RefusedBy : Reader ℕ Item → (Place → ℕ → Type 0) → Type 0
RefusedBy inner F = (p : Place) (at : ℕ) → length p.rest < 2 ^ 64 → F p at → inner p ≡ Err at

module _ (inner : Reader ℕ Item) (P : Item → Type 0) (F : Place → ℕ → Type 0) (law : Law inner P) (refuses : RefusedBy inner F) (empty : (b : ℕ) → inner (place b []) ≡ Err b) where
  stands_read : (x : Item) → P x → (q : Place) (more : List ℕ) → Stands x q.rest more → inner q ≡ Ok (x, behind q.at (printed x) more)
  stands_read x good q more s = ap (λ (t : List ℕ). inner (place q.at t)) s.front ∙ law.again x good q.at more s.ends

  -- ---- members

  member_empty : (found : List Item) (b : ℕ) → member_at inner found (place b []) ≡ Err b
  member_empty found b = member_is inner found (place b []) ∙ empty b

  member_halts : (found : List Item) (q : Place) (at : ℕ) → length q.rest < 2 ^ 64 → PartFault P F (NeitherMark (codes "]")) q at → Halts (member_at inner) (codes "]") found q at
  member_halts found q at fits (inl f) = inl (member_is inner found q ∙ refuses q at fits f)
  member_halts found q at fits (inr w) = inr (record {
    got = (w.item, behind q.at (printed w.item) w.more);
    read = member_is inner found q ∙ stands_read w.item w.proper q w.more w.stands;
    unclosed = not_begins (codes "]") w.more w.wrong.0;
    comma = not_begins (codes ", ") w.more w.wrong.1;
    place = w.place;
  })

  members_unclosed : (xs : List Item) (more : List ℕ) → AllByRecursion P xs → (xs ≡ [] → Starts (codes "]") more → ⊥) → begins (codes "]") (followed printed xs ++ more) ≡ false
  members_unclosed [] more all none = not_begins (codes "]") more (none refl)
  members_unclosed (x ∷ xs) more all none = let f = law.front x all.0 in rw (f.is, ne_eqb 93 f.first f.square) refl

  -- ---- pairs

  pair_empty : (found : List Pair) (b : ℕ) → pair_at inner found (place b []) ≡ Err b
  pair_empty found b = rw (empty b) refl

  pair_after : (found : List Pair) (q : Place) (key : Item × Place) → inner q ≡ Ok key → bytes_below (last_key [] found) (spelling key.0) ≡ true
      → pair_at inner found q ≡ past (codes ": ") key.1 (λ r. inner r >>= λ value. Ok (record { key = key.0; value = value.0 }, value.1))
  pair_after found q key read below = rw (read, below) refl

  abbrev value_by : Item → Place → Outcome ℕ Pair
  value_by key r = inner r >>= λ value. Ok (record { key = key; value = value.0 }, value.1)

  value_read : (key : Item) (n : ℕ) (rest more : List ℕ) → rest ≡ codes ": " ++ more → past {A = Pair} (codes ": ") (place n rest) (value_by key) ≡ value_by key (place (n + 2) more)
  value_read key n rest more is = ap (λ (t : List ℕ). past {A = Pair} (codes ": ") (place n t) (value_by key)) is ∙ behind_again {A = Pair} (codes ": ") n more (value_by key)

  colon_halts : (found : List Pair) (q : Place) (at : ℕ) (key : Item) (more : List ℕ) → length more < 2 ^ 64 → inner q ≡ Ok (key, behind q.at (printed key) more) → bytes_below (last_key [] found) (spelling key) ≡ true
      → ColonFault P F (behind q.at (printed key) more) at → Halts (pair_at inner) (codes "}") found q at
  colon_halts found q at key more fits read below (inl none) =
      inl (pair_after found q (key, behind q.at (printed key) more) read below ∙ (rw (not_begins (codes ": ") more none.0) (ap (λ (k : ℕ). Err k) (sym none.1))))
  colon_halts found q at key more fits read below (inr some) =
      let n : ℕ = q.at + length (printed key) in
      let m : List ℕ = some.0 in
      let left : length m < 2 ^ 64 = omega (arith, fits, ap length some.1, length-append (codes ": ") m) in
      let step = pair_after found q (key, behind q.at (printed key) more) read below ∙ value_read key n more m some.1 in
      elim some.2 [
        | inl f ↦ inl (step ∙ (rw (refuses (place (n + 2) m) at left f) refl))
        | inr w ↦ inr (record {
          got = (record { key = key; value = w.item }, behind (n + 2) (printed w.item) w.more);
          read = step ∙ (rw (stands_read w.item w.proper (place (n + 2) m) w.more w.stands) refl);
          unclosed = not_begins (codes "}") w.more w.wrong.0;
          comma = not_begins (codes ", ") w.more w.wrong.1;
          place = w.place;
        })
      ]

  pair_halts : (found : List Pair) (q : Place) (at : ℕ) → length q.rest < 2 ^ 64 → F q at ⊎ KeyFault P F (last_key [] found) q at → Halts (pair_at inner) (codes "}") found q at
  pair_halts found q at fits (inl f) = inl (rw (refuses q at fits f) refl)
  pair_halts found q at fits (inr k) =
      let read = stands_read k.key k.proper q k.more k.stands in
      let left : length k.more < 2 ^ 64 = omega (arith, fits, ap length k.stands.front, length-append (printed k.key) k.more) in
      elim k.next [
        | inl wrong ↦ inl (rw (read, wrong.0) (ap (λ (n : ℕ). Err n) (sym wrong.1)))
        | inr right ↦ colon_halts found q at k.key k.more left read right.0 right.1
      ]

  pairs_unclosed : (ps : List Pair) (more : List ℕ) → AllByRecursion (λ p. P p.key × P p.value) ps → (ps ≡ [] → Starts (codes "}") more → ⊥) → begins (codes "}") (followed pair_printed ps ++ more) ≡ false
  pairs_unclosed [] more all none = not_begins (codes "}") more (none refl)
  pairs_unclosed (p ∷ ps) more all none = let f = law.front p.key all.0.0 in rw (pair_printed_out p, f.is, ne_eqb 125 f.first f.curly) refl

  -- ---- containers

  inside_err : {X : Type 0} (part : List X → Reader ℕ X) (close : List ℕ) (q : Place) (at : ℕ) → begins close q.rest ≡ false → parts_at part close (length q.rest) [] q ≡ Err at → inside_at part close q ≡ Err at
  inside_err part close q at open_still e = rw open_still e

  array_err : (p : Place) (at : ℕ) → length p.rest < 2 ^ 64 → ArrayFault P F p at → item_by (Some inner) p ≡ Err at
  array_err p at fits a =
      let front : List ℕ = followed printed a.members in
      let text : List ℕ = front ++ a.more in
      let b : ℕ = p.at + 1 in
      let left : length a.more < 2 ^ 64 = omega (arith, fits, ap length a.stands, length-append front a.more) in
      let next : PartFault P F (NeitherMark (codes "]")) (behind b front a.more) at = subst (λ (r : Place). PartFault P F (NeitherMark (codes "]")) r at) (sym (behind_then p (codes "[") (place b []) front a.more refl)) a.next in
      let halts = member_halts a.members (behind b front a.more) at left next in
      let parts = parts_halt (member_at inner) printed (codes "]") member_empty square_mark a.members [] (length text) b a.more at (each_member inner P law [] a.members a.proper) (omega arith) halts in
      let inside = inside_err (member_at inner) (codes "]") (place b text) at (members_unclosed a.members a.more a.proper a.unclosed) parts in
      let step : item_by (Some inner) (place p.at (codes "[" ++ text)) ≡ Err at = rw inside refl in
      ap (λ (t : List ℕ). item_by (Some inner) (place p.at t)) a.stands ∙ step

  map_err : (p : Place) (at : ℕ) → length p.rest < 2 ^ 64 → MapFault P F p at → item_by (Some inner) p ≡ Err at
  map_err p at fits a =
      let front : List ℕ = followed pair_printed a.pairs in
      let text : List ℕ = front ++ a.more in
      let b : ℕ = p.at + 1 in
      let left : length a.more < 2 ^ 64 = omega (arith, fits, ap length a.stands, length-append front a.more) in
      let next : F (behind b front a.more) at ⊎ KeyFault P F (last_key [] a.pairs) (behind b front a.more) at =
      subst (λ (r : Place). F r at ⊎ KeyFault P F (last_key [] a.pairs) r at) (sym (behind_then p (codes "{") (place b []) front a.more refl)) a.next in
      let halts = pair_halts a.pairs (behind b front a.more) at left next in
      let parts = parts_halt (pair_at inner) pair_printed (codes "}") pair_empty curly_mark a.pairs [] (length text) b a.more at (each_pair inner P law [] a.pairs a.proper a.ascend) (omega arith) halts in
      let inside = inside_err (pair_at inner) (codes "}") (place b text) at (pairs_unclosed a.pairs a.more a.proper a.unclosed) parts in
      let step : item_by (Some inner) (place p.at (codes "{" ++ text)) ≡ Err at = rw inside refl in
      ap (λ (t : List ℕ). item_by (Some inner) (place p.at t)) a.stands ∙ step

  content_err : (b n : ℕ) (q : Place) (at : ℕ) → length q.rest < 2 ^ 64 → PartFault P F (λ rest. Starts (codes ")") rest → ⊥) q at → tag_at (Some inner) b n q ≡ Err at
  content_err b n q at fits (inl f) = rw (refuses q at fits f) refl
  content_err b n q at fits (inr w) = rw (stands_read w.item w.proper q w.more w.stands, not_begins (codes ")") w.more w.wrong) (ap (λ (k : ℕ). Err k) (sym w.place))

  tag_err : (p : Place) (at : ℕ) → length p.rest < 2 ^ 64 → TagFault P F p at → item_by (Some inner) p ≡ Err at
  tag_err p at fits t =
      let n : ℕ = t.number in
      let lt : n < 2 ^ 64 = t.small in
      let rest : List ℕ = codes "(" ++ t.more in
      let left : length t.more < 2 ^ 64 = omega (arith, fits, ap length t.stands, length-append (decimal n) rest) in
      let read = number_again p.at (2 ^ 64) n p.at rest lt (omega arith) (digits_bracket t.more) in
      let len : p.at + length (decimal n ++ codes "(") ≡ p.at + length (decimal n) + 1 = omega (arith, length-append (decimal n) (codes "(")) in
      let q : Place = place (p.at + length (decimal n) + 1) t.more in
      let next : PartFault P F (λ more. Starts (codes ")") more → ⊥) q at = subst (λ (k : ℕ). PartFault P F (λ more. Starts (codes ")") more → ⊥) (place k t.more) at) len t.next in
      let content = content_err p.at n q at left next in
      let step : plain_at (Some inner) (place p.at (decimal n ++ rest)) ≡ Err at = rw (read, content) refl in
      ap (λ (s : List ℕ). item_by (Some inner) (place p.at s)) t.stands ∙ plain_is (Some inner) n p.at rest (omega arith) ∙ step

-- ---- an item

has_tag : (p : Place) (a : ℕ × Place) → NumberTook (2 ^ 64) p a → begins (codes "(") a.1.rest ≡ true → HasTag p.rest
has_tag p a number here =
    let q : Place = skip 1 a.1 in
    let front : TextTook p (decimal a.0 ++ codes "(") q = text_then p (decimal a.0) a.1 (codes "(") q number.took (token_took (codes "(") a.1 here) in
    record { number = a.0; small = number.below; stands = (q.rest, front.rest) }

inside_nothing : (inner : Reader ℕ Item) (p : Place) (o : Outcome ℕ Item) → (Begins true p.rest → ⊥) → Level (Some inner) p o → o ≡ Err p.at
inside_nothing inner p o none (scalar x is h) = absurd (none (inl h))
inside_nothing inner p o none (nothing is closed) = is
inside_nothing inner p o none (square here is) = absurd (none (inr (refl, inl (starts_of (codes "[") p.rest here))))
inside_nothing inner p o none (curly here is) = absurd (none (inr (refl, inr (inl (starts_of (codes "{") p.rest here)))))
inside_nothing inner p o none (tagged a number here is) = absurd (none (inr (refl, inr (inr (has_tag p a number here)))))

leaf_nothing : (p : Place) (o : Outcome ℕ Item) → (Begins false p.rest → ⊥) → Level None p o → o ≡ Err p.at
leaf_nothing p o none (scalar x is h) = absurd (none (inl h))
leaf_nothing p o none (nothing is closed) = is
leaf_nothing p o none (square here is) = sym is
leaf_nothing p o none (curly here is) = sym is
leaf_nothing p o none (tagged a number here is) = sym is

-- inside no container nothing stands
no_part : (p : Place) (at : ℕ) → ArrayFault (λ _. ⊥) (λ _ _. ⊥) p at ⊎ (MapFault (λ _. ⊥) (λ _ _. ⊥) p at ⊎ TagFault (λ _. ⊥) (λ _ _. ⊥) p at) → ⊥
no_part p at (inl a) = elim a.next [ inl f ↦ f | inr w ↦ w.proper ]
no_part p at (inr (inl a)) = elim a.next [ inl f ↦ f | inr k ↦ k.proper ]
no_part p at (inr (inr t)) = elim t.next [ inl f ↦ f | inr w ↦ w.proper ]

-- what is faulty is refused
pub item_refuses : (d : ℕ) → RefusedBy (item_at d) (Faulty d)
unfolding nested
item_refuses zero p at fits (inl h) = leaf_nothing p (item_by None p) h.0 (level None p (item_by None p) fits refl) ∙ ap (λ (k : ℕ). Err k) (sym h.1)
item_refuses zero p at fits (inr h) = absurd (no_part p at h)
item_refuses (suc d) p at fits (inl h) = inside_nothing (item_at d) p (item_by (Some (item_at d)) p) h.0 (level (Some (item_at d)) p (item_by (Some (item_at d)) p) fits refl) ∙ ap (λ (k : ℕ). Err k) (sym h.1)
item_refuses (suc d) p at fits (inr (inl a)) = array_err (item_at d) (IsSpellable d) (Faulty d) (record { again = item_again d; front = spellable_front d }) (item_refuses d) (item_empty d) p at fits a
item_refuses (suc d) p at fits (inr (inr (inl a))) = map_err (item_at d) (IsSpellable d) (Faulty d) (record { again = item_again d; front = spellable_front d }) (item_refuses d) (item_empty d) p at fits a
item_refuses (suc d) p at fits (inr (inr (inr t))) = tag_err (item_at d) (IsSpellable d) (Faulty d) (record { again = item_again d; front = spellable_front d }) (item_refuses d) (item_empty d) p at fits t
