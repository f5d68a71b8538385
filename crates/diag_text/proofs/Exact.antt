-- A whole text is read exactly where it is that of a proper item.
use Rattle.std.proofs.Common.{◌≡◌, ℕ, ◌+◌, ◌^◌, ◌<◌, ◌≤◌, ◌⊎◌, true, nat_lt, ltb-true, lt-ltb, List, [], ◌∷◌, ◌++◌, length, Result, Ok, Err, refl, sym, ap, subst, ◌∙◌, append-nil, arith, inl, inr}
use Rattle.std.specs.Prelude.{IfOk}
use Rattle.std.proofs.lemmas.Bool.{ltb-false}
use Rattle.cbor_core.specs.declared.item.Item.{Item}
use Rattle.cbor_heads.specs.Place.{start}
use Rattle.diag_text.specs.declared.fault.DiagFault.{DiagFault}
use Rattle.diag_text.specs.declared.fault.TextFault.{TextFault}
use Rattle.diag_text.specs.declared.fault.DiagFault.TheVariants as faults
use Rattle.diag_text.specs.Printed.{printed, Prints}
use Rattle.cbor_heads.specs.Reading.{Outcome}
use Rattle.diag_text.specs.Reading.{item_at, alone_by, whole_at, Decides, IsTextRead, IsTextRefused}
use Rattle.diag_text.specs.Faulty.{TextFaulty}
use Rattle.diag_text.specs.Law.{OneItem, OneFault, ExactlyOne}
use Rattle.diag_text.proofs.Fronts.{stops_end, stops_ends}
use Rattle.cbor_heads.proofs.Public.Outcomes.{chosen, ok_is, not_ok, err_is, not_err}
use Rattle.diag_text.proofs.Found.{item_takes}
use Rattle.diag_text.proofs.Reread.{item_again}
use Rattle.diag_text.proofs.Faults.{item_fault}
use Rattle.diag_text.proofs.Refused.{item_refuses}

nothing_more : (a rest : List ℕ) → length rest ≤ 0 → a ++ rest ≡ a
nothing_more a [] none = append-nil a
nothing_more a (b ∷ rest) none = absurd (omega arith)

alone_item : (text : List ℕ) (o : Outcome ℕ Item) (x : Item) → length text < 2 ^ 64 → item_at 16 (start text) ≡ o → alone_by o ≡ Ok x → Prints x text
alone_item text (Err at) x fits is e = absurd (not_ok at x e)
alone_item text (Ok y) x fits is e = elim (chosen (nat_lt 0 (length y.1.rest)) (Err y.1.at) (Ok y.0) (Ok x) e) [
  | inl more ↦ absurd (not_ok y.1.at x more.1)
  | inr end ↦
      let none : length y.1.rest ≤ 0 = ltb-false _ _ end.0 in
      let t = item_takes 16 (start text) y fits is in
      let same : y.0 ≡ x = (let f = end.1 in cc) in
      let whole : text ≡ printed y.0 = t.took.rest ∙ nothing_more (printed y.0) y.1.rest none in
      subst (λ (z : Item). Prints z text) same (record { proper = t.proper.0; ranges = t.proper.1; printed = whole })
]

pub read_found : (text : List ℕ) (r : Result Item DiagFault) → length text < 2 ^ 64 → Decides (whole_at text) r → IfOk r (λ x. Prints x text)
read_found text (Ok x) fits d = alone_item text (item_at 16 (start text)) x fits refl d
read_found text (Err e) fits d = tt

whole_again : (text : List ℕ) (x : Item) → Prints x text → whole_at text ≡ Ok x
whole_again text x p =
    let is : text ≡ printed x ++ [] = p.printed ∙ sym (append-nil (printed x)) in
    let read = item_again 16 x (p.proper, p.ranges) 0 [] (stops_ends x [] stops_end) in
    ap (λ (t : List ℕ). whole_at t) is ∙ (rw read refl)

pub read_only : (text : List ℕ) (r : Result Item DiagFault) → Decides (whole_at text) r → (x : Item) → Prints x text → IsTextRead r x
read_only text (Ok y) d x p = let e = whole_again text x p in let both : whole_at text ≡ Ok y = d in cc
read_only text (Err faults.NoMemory) d x p = tt
read_only text (Err (faults.Bad f)) d x p = absurd (let e = whole_again text x p in let both : whole_at text ≡ Err f.at = d in cc)

-- ---- the place of the fault

fault_by : (text : List ℕ) (o : Outcome ℕ Item) (at : ℕ) → length text < 2 ^ 64 → item_at 16 (start text) ≡ o → alone_by o ≡ Err at → TextFaulty text at
fault_by text (Err b) at fits is e = let same : b ≡ at = err_is {A = Item} b at e in inl (item_fault 16 (start text) at fits (is ∙ ap (λ (k : ℕ). Err k) same))
fault_by text (Ok y) at fits is e = elim (chosen (nat_lt 0 (length y.1.rest)) (Err y.1.at) (Ok y.0) (Err at) e) [
  | inl more ↦
      let t = item_takes 16 (start text) y fits is in
      inr (record {
        item = y.0;
        more = y.1.rest;
        proper = t.proper;
        stands = record { front = t.took.rest; ends = t.ends };
        wrong = ltb-true 0 (length y.1.rest) more.0;
        place = sym (err_is {A = Item} y.1.at at more.1) ∙ t.took.at;
      })
  | inr end ↦ absurd (not_err y.0 at end.1)
]

-- what is refused is faulty
pub whole_fault : (text : List ℕ) (at : ℕ) → length text < 2 ^ 64 → whole_at text ≡ Err at → TextFaulty text at
whole_fault text at fits e = fault_by text (item_at 16 (start text)) at fits refl e

-- what is faulty is refused
pub whole_refuses : (text : List ℕ) (at : ℕ) → length text < 2 ^ 64 → TextFaulty text at → whole_at text ≡ Err at
whole_refuses text at fits (inl f) = rw (item_refuses 16 (start text) at fits f) refl
whole_refuses text at fits (inr w) =
    let read = item_again 16 w.item w.proper 0 w.more w.stands.ends in
    let some : nat_lt 0 (length w.more) ≡ true = lt-ltb 0 (length w.more) w.wrong in
    let step : whole_at (printed w.item ++ w.more) ≡ Err (0 + length (printed w.item)) = rw (read, some) refl in
    ap (λ (t : List ℕ). whole_at t) w.stands.front ∙ step ∙ ap (λ (k : ℕ). Err k) (sym w.place)

pub read_bad : (text : List ℕ) (r : Result Item DiagFault) → length text < 2 ^ 64 → Decides (whole_at text) r → (f : TextFault) → r ≡ Err (faults.Bad f) → TextFaulty text f.at
read_bad text (Ok x) fits d f e = absurd cc
read_bad text (Err faults.NoMemory) fits d f e = absurd cc
read_bad text (Err (faults.Bad g)) fits d f e = let is : g ≡ f = cc in subst (λ (h : TextFault). TextFaulty text h.at) is (whole_fault text g.at fits d)

pub read_refused : (text : List ℕ) (r : Result Item DiagFault) → length text < 2 ^ 64 → Decides (whole_at text) r → (at : ℕ) → TextFaulty text at → IsTextRefused r at
read_refused text (Ok x) fits d at h = absurd (let e = whole_refuses text at fits h in let both : whole_at text ≡ Ok x = d in cc)
read_refused text (Err faults.NoMemory) fits d at h = tt
read_refused text (Err (faults.Bad g)) fits d at h = err_is {A = Item} g.at at (sym d ∙ whole_refuses text at fits h)

-- ---- exactly one of the two

by_outcome : (text : List ℕ) → length text < 2 ^ 64 → (r : Result Item ℕ) → whole_at text ≡ r → OneItem text ⊎ OneFault text
by_outcome text fits (Ok x) e = inl (record {
  item = x;
  prints = read_found text (Ok x) fits e;
  alone = λ y p. (let both : Ok y ≡ Ok x = sym (whole_again text y p) ∙ e in ok_is y x both);
  no_fault = λ at h. (let both : Ok x ≡ Err at = sym e ∙ whole_refuses text at fits h in not_err x at both);
})
by_outcome text fits (Err b) e = inr (record {
  first = b;
  faulty = whole_fault text b fits e;
  alone = λ at h. err_is {A = Item} at b (sym (whole_refuses text at fits h) ∙ e);
  no_item = λ x p. (let both : Ok x ≡ Err b = sym (whole_again text x p) ∙ e in not_err x b both);
})

pub exactly_one : ExactlyOne
exactly_one text fits = by_outcome text fits (whole_at text) refl
