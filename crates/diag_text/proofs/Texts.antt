-- The equations of `printed`, and lists of parts one longer.
use Rattle.std.proofs.Common.{◌≡◌, ℕ, zero, suc, ◌+◌, ◌<◌, List, [], ◌∷◌, ◌++◌, length, take, drop, get_or, Bool, true, false, map, refl, sym, ◌∙◌, ap, append_assoc, append-nil, arith, codes, decimal, nat_lt, lt-ltb, length-take}
use Rattle.std.proofs.lemmas.List.Folds.{flat_map-map}
use Rattle.std.proofs.lemmas.List.{take_more}
use Rattle.std.proofs.lemmas.Grind.{flat_map-append}
use Rattle.std.specs.List.{flat_map}
use Rattle.cbor_core.specs.declared.item.Item.{Item}
use Rattle.cbor_core.specs.declared.item.Pair.{Pair}
use Rattle.cbor_core.specs.declared.item.Item.TheOpen.{Item-F}
use Rattle.cbor_core.specs.declared.item.Item.TheViews.{roll-Item}
use Rattle.cbor_core.specs.declared.item.Item.TheVariants as i
use Rattle.cbor_core.specs.declared.item.Item.TheFolds.{map-Item, fold-roll-Item, fold_out-Pair}
use Rattle.diag_text.specs.Printed.{hex_byte, escaped, listed, word, item_step, pair_step, printed, pair_printed}
use Rattle.diag_text.specs.Printing.{before}

rolled : (x : Item-F Item Pair) → printed (roll-Item x) ≡ item_step (map-Item Item Pair (List ℕ) (List ℕ) printed pair_printed x)
unfolding printed pair_printed
rolled = fold-roll-Item (List ℕ) (List ℕ) item_step pair_step

parts : {X : Type 0} (xs : List X) (f : X → List ℕ) → listed (λ t. t) (map f xs) ≡ listed f xs
parts [] f = refl
parts (x ∷ xs) f = ap (λ (t : List ℕ). f x ++ t) (flat_map-map (λ t. codes ", " ++ t) f xs)

pub printed_Unsigned : (n : ℕ) → printed (i.Unsigned n) ≡ decimal n
printed_Unsigned n = ap printed (sym (i.rolls-Unsigned n)) ∙ rolled (Item-F.Unsigned n)

pub printed_Negative : (n : ℕ) → printed (i.Negative n) ≡ codes "-" ++ decimal (n + 1)
printed_Negative n = ap printed (sym (i.rolls-Negative n)) ∙ rolled (Item-F.Negative n)

pub printed_Bytes : (bytes : List ℕ) → printed (i.Bytes bytes) ≡ codes "h'" ++ (flat_map hex_byte bytes ++ codes "'")
printed_Bytes bytes = ap printed (sym (i.rolls-Bytes bytes)) ∙ rolled (Item-F.Bytes bytes)

pub printed_Text : (text : List ℕ) → printed (i.Text text) ≡ codes "\"" ++ (flat_map escaped text ++ codes "\"")
printed_Text text = ap printed (sym (i.rolls-Text text)) ∙ rolled (Item-F.Text text)

pub printed_Array : (xs : List Item) → printed (i.Array xs) ≡ codes "[" ++ (listed printed xs ++ codes "]")
printed_Array xs = ap printed (sym (i.rolls-Array xs)) ∙ rolled (Item-F.Array xs) ∙ ap (λ (t : List ℕ). codes "[" ++ (t ++ codes "]")) (parts xs printed)

pub printed_Map : (ps : List Pair) → printed (i.Map ps) ≡ codes "{" ++ (listed pair_printed ps ++ codes "}")
printed_Map ps = ap printed (sym (i.rolls-Map ps)) ∙ rolled (Item-F.Map ps) ∙ ap (λ (t : List ℕ). codes "{" ++ (t ++ codes "}")) (parts ps pair_printed)

pub printed_Tag : (n : ℕ) (x : Item) → printed (i.Tag n x) ≡ decimal n ++ (codes "(" ++ (printed x ++ codes ")"))
printed_Tag n x = ap printed (sym (i.rolls-Tag n x)) ∙ rolled (Item-F.Tag n x)

pub printed_Truth : (b : Bool) → printed (i.Truth b) ≡ word b
printed_Truth b = ap printed (sym (i.rolls-Truth b)) ∙ rolled (Item-F.Truth b)

pub printed_Null : printed i.Null ≡ codes "null"
printed_Null = ap printed (sym i.rolls-Null) ∙ rolled Item-F.Null

pub pair_printed_out : (p : Pair) → pair_printed p ≡ printed p.key ++ (codes ": " ++ printed p.value)
unfolding printed pair_printed
pair_printed_out p = fold_out-Pair (List ℕ) (List ℕ) item_step pair_step p

pub ruleset prints = (append_assoc, printed_Unsigned, printed_Negative, printed_Bytes, printed_Text, printed_Array, printed_Map, printed_Tag, printed_Truth, printed_Null, pair_printed_out)

-- one more part
pub listed_more : {X : Type 0} (text : X → List ℕ) (xs : List X) (x : X) → listed text (xs ++ x ∷ []) ≡ listed text xs ++ (before (length xs) ++ text x)
listed_more text [] x = append-nil (text x)
listed_more text (y ∷ ys) x =
    let one : flat_map (λ z. codes ", " ++ text z) (ys ++ x ∷ []) ≡ flat_map (λ z. codes ", " ++ text z) ys ++ (codes ", " ++ text x) =
    (flat_map-append (λ z. codes ", " ++ text z) ys (x ∷ []) ∙ ap (λ (t : List ℕ). flat_map (λ z. codes ", " ++ text z) ys ++ t) (append-nil (codes ", " ++ text x))) in
    let later : nat_lt 0 (length (y ∷ ys)) ≡ true = lt-ltb 0 _ (omega arith) in
    rw later (ap (λ (t : List ℕ). text y ++ t) one ∙ sym (append_assoc (text y) (flat_map (λ z. codes ", " ++ text z) ys) (codes ", " ++ text x)))

-- one more part was written, behind what stands before it
pub part_written : {X : Type 0} (text : X → List ℕ) (xs : List X) (k : ℕ) (x : X) (old now mid new : List ℕ) → k < length xs → x ≡ get_or xs k x
    → now ≡ old ++ listed text (take k xs) → mid ≡ now ++ before k → new ≡ mid ++ text x → new ≡ old ++ listed text (take (k + 1) xs)
part_written {X = X} text xs k x old now mid new lt is so_far separator part =
    let front : take (k + 1) xs ≡ take k xs ++ x ∷ [] = take_more xs k x lt ∙ ap (λ (y : X). take k xs ++ y ∷ []) (sym is) in
    let len : length (take k xs) ≡ k = omega (arith, length-take k xs) in
    let more : listed text (take (k + 1) xs) ≡ listed text (take k xs) ++ (before k ++ text x) = rw (front, listed_more text (take k xs) x, len) refl in
    rw (more, part, separator, so_far, append_assoc, append_assoc) refl
