-- Components in order: one that is put among those behind it, one after the other from the last on.
use Rattle.std.proofs.Common.{◌≡◌, ℕ, zero, suc, ◌+◌, ◌-◌, ◌<◌, ◌≤◌, Bool, true, false, cond, List, [], ◌∷◌, ◌++◌, length, take, drop, get_or, append_assoc, append-nil, refl, sym, ap, ◌∙◌, arith}
use Rattle.std.specs.List.{insert, remove, prefix_len}
use Rattle.std.proofs.lemmas.List.{take_more, drop_more, drop_all, take_all, take-append-drop, take-append-le, drop-append-le, length-take-le, length-append}
use Rattle.std.proofs.lemmas.List.Edits.{insert-append_right}
use Rattle.cbor_core.specs.Spelling.{bytes_below}
use Rattle.device_state.specs.declared.rows.ComponentRow.{ComponentRow}
use Rattle.device_state.specs.State.{put_component, in_order}
use Rattle.device_state.specs.Sorting.{IsCounted, IsSunk}

abbrev count : ComponentRow → List ComponentRow → ℕ
count c cs = prefix_len (λ d. bytes_below d.id c.id) cs

-- it is put behind those that are below it
put_at : (c : ComponentRow) (cs : List ComponentRow) → insert cs (count c cs) c ≡ put_component c cs
put_at c [] = refl
put_at c (d ∷ ds) = by_test (bytes_below d.id c.id) (put_at c ds) where
  by_test : (t : Bool) → insert ds (count c ds) c ≡ put_component c ds → insert (d ∷ ds) (cond t (1 + count c ds) 0) c ≡ cond t (d ∷ put_component c ds) (c ∷ d ∷ ds)
  by_test true later =
      let one : 1 + count c ds ≡ suc (count c ds) = omega arith in
      ap (λ (n : ℕ). insert (d ∷ ds) n c) one ∙ ap (λ (es : List ComponentRow). d ∷ es) later
  by_test false later = refl

-- what stands at a place, and what behind it
record IsAt (xs : List ComponentRow) (place : ℕ) (c : ComponentRow) (cs : List ComponentRow) : Type 0 where
  within : place < length xs
  behind : drop (place + 1) xs ≡ cs
  size : length (take place xs) ≡ place
  here : (d : ComponentRow) → get_or xs place d ≡ c

is_at : (xs : List ComponentRow) (place : ℕ) (c : ComponentRow) (cs : List ComponentRow) → place < length xs → drop place xs ≡ c ∷ cs → IsAt xs place c cs
is_at xs place c cs within is = record {
  within = within;
  behind = (let e = drop_more xs place c within in cc);
  size = length-take-le place xs (omega arith);
  here = λ d. (let e = drop_more xs place d within in cc);
}

pub sunk : (old : List ComponentRow) (place steps : ℕ) (x : ComponentRow) → place < length old → x ≡ get_or old place x → IsCounted old place steps → IsSunk old place (insert (remove old place) (place + steps) x)
sunk old place steps x within x_is counted c cs front =
    let at = is_at old place c cs within front in
    let same : x ≡ c = x_is ∙ at.here x in
    let next : suc place ≡ place + 1 = omega arith in
    let behind : drop (suc place) old ≡ cs = ap (λ (n : ℕ). drop n old) next ∙ at.behind in
    let removed : remove old place ≡ take place old ++ cs = ap (λ (ds : List ComponentRow). take place old ++ ds) behind in
    let left : place + steps - place ≡ count c cs = (let is : steps ≡ count c cs = counted c cs front in omega arith) in
    ap (λ (ds : List ComponentRow). insert ds (place + steps) x) removed
    ∙ insert-append_right (take place old) cs place (place + steps) x at.size (omega arith)
    ∙ ap (λ (n : ℕ). take place old ++ insert cs n x) left
    ∙ ap (λ (y : ComponentRow). take place old ++ insert cs (count c cs) y) same
    ∙ ap (λ (ds : List ComponentRow). take place old ++ ds) (put_at c cs)

pub stays : (old : List ComponentRow) (place : ℕ) → IsCounted old place 0 → IsSunk old place old
stays old place counted c cs front =
    let none : count c cs ≡ 0 = sym (counted c cs front) in
    let first : c ∷ cs ≡ put_component c cs = ap (λ (n : ℕ). insert cs n c) (sym none) ∙ put_at c cs in
    sym (take-append-drop place old) ∙ ap (λ (ds : List ComponentRow). take place old ++ ds) (front ∙ first)

-- all from the place on are in order, where those behind it were
pub order_more : (first items new : List ComponentRow) (p : ℕ) → p < length first → items ≡ take (p + 1) first ++ in_order (drop (p + 1) first) → IsSunk items p new
    → new ≡ take p first ++ in_order (drop p first)
order_more [] items new p within is put = absurd (omega arith)
order_more (z ∷ zs) items new p within is put =
    let xs = z ∷ zs in
    let x = get_or xs p z in
    let rest = in_order (drop (p + 1) xs) in
    let size : length (take p xs) ≡ p = length-take-le p xs (omega arith) in
    let parted : items ≡ take p xs ++ (x ∷ rest) = is ∙ ap (λ (ds : List ComponentRow). ds ++ rest) (take_more xs p z within) ∙ append_assoc (take p xs) (x ∷ []) rest in
    let dropped : drop p items ≡ x ∷ rest =
    ap (drop p) parted ∙ drop-append-le p (take p xs) (x ∷ rest) (omega arith) ∙ ap (λ (ds : List ComponentRow). ds ++ (x ∷ rest)) (drop_all p (take p xs) (omega arith)) in
    let took : take p items ≡ take p xs = ap (take p) parted ∙ take-append-le p (take p xs) (x ∷ rest) (omega arith) ∙ take_all p (take p xs) (omega arith) in
    let front : drop p xs ≡ x ∷ drop (p + 1) xs = drop_more xs p z within in
    put x rest dropped ∙ ap (λ (ds : List ComponentRow). ds ++ put_component x rest) took ∙ ap (λ (ds : List ComponentRow). take p xs ++ in_order ds) (sym front)

-- before the first step
pub order_start : (xs : List ComponentRow) (n : ℕ) → length xs ≤ n → xs ≡ take n xs ++ in_order (drop n xs)
order_start xs n all = sym (append-nil xs) ∙ ap (λ (ds : List ComponentRow). ds ++ []) (sym (take_all n xs all)) ∙ ap (λ (ds : List ComponentRow). take n xs ++ in_order ds) (sym (drop_all n xs all))
