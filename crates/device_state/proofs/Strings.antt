-- Identifiers where they lie in bytes: an array whose members are byte strings.
use Rattle.std.proofs.Common.{◌≡◌, ℕ, zero, ◌+◌, ◌<◌, ◌≤◌, Bool, true, false, cond, List, [], ◌∷◌, ◌++◌, length, drop, get_or, Option, Some, None, refl, sym, ap, subst, ◌∙◌, ◌↔◌, arith}
use Rattle.std.specs.Prelude.{IsTrue, option_map, Result, Ok, Err}
use Rattle.std.specs.Result.{is_err}
use Rattle.cbor_heads.specs.declared.fault.Fault.{Fault}
use Rattle.std.specs.List.{AllByRecursion}
use Rattle.std.proofs.lemmas.List.{drop_more, drop_all, length-drop}
use Rattle.cbor_heads.specs.declared.head.Head.{Head}
use Rattle.cbor_heads.specs.declared.head.Kind.TheVariants as k
use Rattle.cbor_core.specs.declared.item.Item.{Item, out-Item}
use Rattle.cbor_core.specs.declared.item.Item.TheOpen.{Item-F}
use Rattle.cbor_core.specs.declared.item.Item.TheVariants as i
use Rattle.cbor_core.specs.declared.item.Pair.{Pair}
use Rattle.cbor_core.specs.Spelling.{Spells, spelling, spellings}
use Rattle.cbor_core.specs.Views.{array_of}
use Rattle.cbor_core.proofs.Public.Views.{array_is}
use Rattle.cbor_core.proofs.Public.Whole.{one_for_one}
use Rattle.cbor_fields.specs.Views.{is_bytes_by, all_bytes, is_id, is_id_by, SpellsId, IsIdentifier}
use Rattle.cbor_fields.specs.Written.{IsSpelled}
use Rattle.cbor_fields.proofs.Public.Spelled.{members_spelled}
use Rattle.cbor_span.specs.Parts.{HasSpelling, AreSpelled, IsInFront}
use Rattle.cbor_span.specs.Opening.{opening}

-- ---- one member

bytes_kind : (l : Item-F Item Pair) → (opening l).0.kind ≡ k.Bytes → is_bytes_by l ≡ true
bytes_kind (Item-F.Bytes bytes) is = refl
bytes_kind (Item-F.Unsigned n) is = absurd cc
bytes_kind (Item-F.Negative n) is = absurd cc
bytes_kind (Item-F.Text text) is = absurd cc
bytes_kind (Item-F.Array members) is = absurd cc
bytes_kind (Item-F.Map pairs) is = absurd cc
bytes_kind (Item-F.Tag n content) is = absurd cc
bytes_kind (Item-F.Truth b) is = absurd cc
bytes_kind Item-F.Null is = absurd cc

other_kind : (l : Item-F Item Pair) → ((opening l).0.kind ≡ k.Bytes → ⊥) → is_bytes_by l ≡ false
other_kind (Item-F.Bytes bytes) other = absurd (other refl)
other_kind (Item-F.Unsigned n) other = refl
other_kind (Item-F.Negative n) other = refl
other_kind (Item-F.Text text) other = refl
other_kind (Item-F.Array members) other = refl
other_kind (Item-F.Map pairs) other = refl
other_kind (Item-F.Tag n content) other = refl
other_kind (Item-F.Truth b) other = refl
other_kind Item-F.Null other = refl

-- ---- all members

-- so many members were byte strings, and these bytes spell the others
pub record Walked (xs : List Item) (count : ℕ) (rest : List ℕ) : Type 0 where
  pub left : AreSpelled (drop count xs) rest
  pub same : all_bytes (drop count xs) ≡ all_bytes xs

-- what a look at the front of the bytes tells of an item that stands there
abbrev pub Tells : Head → List ℕ → List ℕ → List ℕ → Type 0
Tells head content behind rest = (x : Item) (more : List ℕ) → IsInFront x rest more → (head ≡ (opening (out-Item x)).0) × (content ≡ (opening (out-Item x)).1) × (behind ≡ more)

-- the member that is next
record IsNext (xs : List Item) (count : ℕ) (rest : List ℕ) : Type 0 where
  next : Item
  parted : drop count xs ≡ next ∷ drop (count + 1) xs
  front : IsInFront next rest (spellings (drop (count + 1) xs))
  others : AllByRecursion HasSpelling (drop (count + 1) xs)

next_is : (xs : List Item) (count : ℕ) (rest : List ℕ) → count < length xs → Walked xs count rest → IsNext xs count rest
next_is [] count rest within walked = absurd (omega arith)
next_is (z ∷ zs) count rest within walked =
    let x = get_or (z ∷ zs) count z in
    let parted : drop count (z ∷ zs) ≡ x ∷ drop (count + 1) (z ∷ zs) = drop_more (z ∷ zs) count z within in
    let left : AreSpelled (x ∷ drop (count + 1) (z ∷ zs)) rest = subst (λ (ys : List Item). AreSpelled ys rest) parted walked.left in
    record { next = x; parted = parted; front = (left.0.0, left.1); others = left.0.1 }

pub step : (xs : List Item) (count : ℕ) (rest content behind : List ℕ) (head : Head) → count < length xs → Walked xs count rest → Tells head content behind rest → head.kind ≡ k.Bytes → Walked xs (count + 1) behind
step xs count rest content behind head within walked tells is =
    let n = next_is xs count rest within walked in
    let told = tells n.next (spellings (drop (count + 1) xs)) n.front in
    let string : is_bytes_by (out-Item n.next) ≡ true = bytes_kind (out-Item n.next) (sym (ap (λ (h : Head). h.kind) told.0) ∙ is) in
    let passed : all_bytes (n.next ∷ drop (count + 1) xs) ≡ all_bytes (drop (count + 1) xs) = ap (λ (b : Bool). cond b (all_bytes (drop (count + 1) xs)) false) string in
    record { left = (n.others, told.2); same = sym passed ∙ sym (ap all_bytes n.parted) ∙ walked.same }

pub no_string : (xs : List Item) (count : ℕ) (rest content behind : List ℕ) (head : Head) → count < length xs → Walked xs count rest → Tells head content behind rest → (head.kind ≡ k.Bytes → ⊥) → all_bytes xs ≡ false
no_string xs count rest content behind head within walked tells other =
    let n = next_is xs count rest within walked in
    let told = tells n.next (spellings (drop (count + 1) xs)) n.front in
    let none : is_bytes_by (out-Item n.next) ≡ false = other_kind (out-Item n.next) (λ is. other (ap (λ (h : Head). h.kind) told.0 ∙ is)) in
    let stopped : all_bytes (n.next ∷ drop (count + 1) xs) ≡ false = ap (λ (b : Bool). cond b (all_bytes (drop (count + 1) xs)) false) none in
    sym walked.same ∙ ap all_bytes n.parted ∙ stopped

pub nothing : (xs : List Item) (count : ℕ) (rest : List ℕ) → count < length xs → Walked xs count rest → ((x : Item) (more : List ℕ) → IsInFront x rest more → ⊥) → ⊥
nothing xs count rest within walked none =
    let n = next_is xs count rest within walked in
    none n.next (spellings (drop (count + 1) xs)) n.front

pub all_walked : (xs : List Item) (count : ℕ) (rest : List ℕ) → length xs ≤ count → Walked xs count rest → all_bytes xs ≡ true
all_walked xs count rest all walked = sym walked.same ∙ ap all_bytes (drop_all count xs all)

-- ---- the array

have_spellings : (xs : List Item) → AllByRecursion IsSpelled xs → AllByRecursion HasSpelling xs
have_spellings [] all = tt
have_spellings (x ∷ xs) all = ((all.0.proper, all.0.ranges), have_spellings xs all.1)

id_by : (xs : List Item) → 0 < length xs → is_id_by (Item-F.Array xs) ≡ all_bytes xs
id_by [] some = absurd (omega arith)
id_by (x ∷ xs) some = refl

by_array : (bytes : List ℕ) (x : Item) (count : ℕ) (members : List ℕ) (r : Bool) (o : Option (List Item)) → Spells x bytes → array_of x ≡ o
    → option_map {U = ℕ × List ℕ} (λ (p : ℕ × List ℕ). p) (Some (count, members)) ≡ option_map {U = ℕ × List ℕ} (λ xs. (length xs, spellings xs)) o → 0 < count
    → ((xs : List Item) → AreSpelled xs members → count ≡ length xs → IsTrue r ↔ (all_bytes xs ≡ true)) → IsTrue r ↔ IsIdentifier bytes
by_array bytes x count members r None spelled at is some tells = absurd cc
by_array bytes x count members r (Some xs) spelled at is some tells =
    let pair : (λ (p : ℕ × List ℕ). p) (count, members) ≡ (length xs, spellings xs) = cc in
    let count_is : count ≡ length xs = ap (λ (p : ℕ × List ℕ). p.0) pair in
    let members_are : members ≡ spellings xs = ap (λ (p : ℕ × List ℕ). p.1) pair in
    let spellable : IsSpelled x = record { proper = spelled.proper; ranges = spelled.ranges; spelled = refl } in
    let both = tells xs (have_spellings xs (members_spelled x xs spellable at), members_are) count_is in
    let x_is : is_id x ≡ all_bytes xs = ap is_id (array_is x xs at) ∙ rw i.outs-Array (id_by xs (omega arith)) in (
      λ is_true. (x, (spelled, x_is ∙ both.0 is_true)),
      λ id. both.1 (sym x_is ∙ ap is_id (one_for_one.one_item x id.0 bytes spelled id.1.0) ∙ id.1.1),
    )

pub identifier : (bytes : List ℕ) (x : Item) (count : ℕ) (members : List ℕ) (r : Bool) → Spells x bytes
    → option_map {U = ℕ × List ℕ} (λ (p : ℕ × List ℕ). p) (Some (count, members)) ≡ option_map {U = ℕ × List ℕ} (λ xs. (length xs, spellings xs)) (array_of x) → 0 < count
    → ((xs : List Item) → AreSpelled xs members → count ≡ length xs → IsTrue r ↔ (all_bytes xs ≡ true)) → IsTrue r ↔ IsIdentifier bytes
identifier bytes x count members r spelled is some tells = by_array bytes x count members r (array_of x) spelled refl is some tells

-- what is not refused is good
pub not_refused : (r : Result (Unit {0}) Fault) → is_err r ≡ false → r ≡ Ok tt
not_refused (Ok u) is = refl
not_refused (Err f) is = absurd cc
