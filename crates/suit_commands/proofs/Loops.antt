-- Commands and sequences that are read one behind the other.
use Rattle.std.proofs.Common.{◌≡◌, ℕ, suc, ◌+◌, ◌*◌, ◌%◌, ◌<◌, ◌≤◌, Bool, true, false, cond, List, [], ◌∷◌, ◌++◌, length, drop, get_or, Option, Some, None, refl, sym, ap, ◌∙◌, append_assoc, inl, inr, arith}
use Rattle.std.specs.Prelude.{Result, Ok, Err, option_map}
use Rattle.std.proofs.lemmas.List.{append-nil, drop_all}
use Rattle.std.proofs.Math.Seq.{drop-cons}
use Rattle.cbor_core.specs.declared.item.Item.{Item, out-Item}
use Rattle.cbor_core.specs.declared.item.Item.TheVariants as i
use Rattle.item_codec.specs.Answers.{and_then, mapped, or_fault, Answers}
use Rattle.suit_commands.specs.declared.command.Command.{Command, out-Command}
use Rattle.suit_commands.specs.declared.command.Command.TheVariants as c
use Rattle.suit_commands.specs.declared.fault.SequenceFault.{SequenceFault}
use Rattle.suit_commands.specs.declared.fault.SequenceFault.TheVariants.{Shape, NoMemory}
use Rattle.cbor_core.specs.Views.{is_null}
use Rattle.suit_commands.specs.Sequences.{Sequence, Inner, command_at, paired, commands, members_in, wrapped_sequence, each_wrapped, alternatives, try_in}
use Rattle.suit_commands.specs.Written.{number_of, argument_by, members}
use Rattle.suit_commands.proofs.Members.{flat, paired_flat}
use Rattle.suit_commands.proofs.Alternatives.{alone, more_of, ended_by}

-- ---- two items at a place

pub one_at : {A : Type 0} (xs : List A) (k : ℕ) (x d : A) → k < length xs → x ≡ get_or xs k d → drop k xs ≡ x ∷ drop (k + 1) xs
one_at {A} xs k x d lt is = let next : k + 1 ≡ suc k = omega arith in rw next (drop-cons xs k d lt ∙ ap (λ (y : A). y ∷ drop (suc k) xs) (sym is))

pub two_at : (xs : List Item) (k : ℕ) (x y d e : Item) → 2 * k + 1 < length xs → x ≡ get_or xs (2 * k) d → y ≡ get_or xs (2 * k + 1) e → drop (2 * k) xs ≡ x ∷ y ∷ drop (2 * (k + 1)) xs
two_at xs k x y d e lt first second =
    let low : 2 * k < length xs = omega arith in
    let far : 2 * k + 1 + 1 ≡ 2 * (k + 1) = omega arith in
    one_at xs (2 * k) x d low first ∙ ap (λ (ys : List Item). x ∷ ys) (one_at xs (2 * k + 1) y e lt second ∙ ap (λ (n : ℕ). y ∷ drop n xs) far)

-- ---- commands

-- the commands of items by two, behind those found
abbrev pub from : Inner → Sequence → List Item → Result Sequence SequenceFault
from inner found [] = Ok found
from inner found (x ∷ []) = Err Shape
from inner found (x ∷ y ∷ xs) = and_then (λ (command : Command). from inner (found ++ command ∷ []) xs) (command_at inner x y)

module _ (inner : Inner) where
  from_two : (found : Sequence) (xs : List Item) (k : ℕ) (x y : Item) → drop (2 * k) xs ≡ x ∷ y ∷ drop (2 * (k + 1)) xs
      → from inner found (drop (2 * k) xs) ≡ and_then (λ (command : Command). from inner (found ++ command ∷ []) (drop (2 * (k + 1)) xs)) (command_at inner x y)
  from_two found xs k x y two = ap (from inner found) two

  pub goes_on : (found : Sequence) (xs : List Item) (k : ℕ) (x y : Item) (command : Command) (total : Result Sequence SequenceFault) → drop (2 * k) xs ≡ x ∷ y ∷ drop (2 * (k + 1)) xs
      → command_at inner x y ≡ Ok command → from inner found (drop (2 * k) xs) ≡ total → from inner (found ++ command ∷ []) (drop (2 * (k + 1)) xs) ≡ total
  goes_on found xs k x y command total two here so_far =
      sym (from_two found xs k x y two ∙ ap (λ (r : Result Command SequenceFault). and_then (λ (d : Command). from inner (found ++ d ∷ []) (drop (2 * (k + 1)) xs)) r) here) ∙ so_far

  pub stops : (found : Sequence) (xs : List Item) (k : ℕ) (x y : Item) (e : SequenceFault) (total : Result Sequence SequenceFault) → drop (2 * k) xs ≡ x ∷ y ∷ drop (2 * (k + 1)) xs
      → command_at inner x y ≡ Err e → from inner found (drop (2 * k) xs) ≡ total → total ≡ Err e
  stops found xs k x y e total two here so_far =
      sym so_far ∙ from_two found xs k x y two ∙ ap (λ (r : Result Command SequenceFault). and_then (λ (d : Command). from inner (found ++ d ∷ []) (drop (2 * (k + 1)) xs)) r) here

  pub ends : (found : Sequence) (xs : List Item) (k : ℕ) (total : Result Sequence SequenceFault) → length xs ≤ 2 * k → from inner found (drop (2 * k) xs) ≡ total → total ≡ Ok found
  ends found xs k total le so_far = sym so_far ∙ ap (from inner found) (drop_all (2 * k) xs le)

  joined : (found : Sequence) (command : Command) (r : Result Sequence SequenceFault)
      → mapped (λ (more : Sequence). (found ++ command ∷ []) ++ more) r ≡ mapped (λ (more : Sequence). found ++ more) (mapped (λ (more : Sequence). command ∷ more) r)
  joined found command (Ok more) = ap (λ (s : Sequence). Ok s) (append_assoc found (command ∷ []) more)
  joined found command (Err e) = refl

  by_first : (p : Item × Item) (ps : List (Item × Item)) (found : Sequence)
      → ((before : Sequence) → from inner before (flat ps) ≡ mapped (λ (more : Sequence). before ++ more) (commands inner ps)) → (r : Result Command SequenceFault)
      → and_then (λ (command : Command). from inner (found ++ command ∷ []) (flat ps)) r
      ≡ mapped (λ (more : Sequence). found ++ more) (and_then (λ (command : Command). mapped (λ (more : Sequence). command ∷ more) (commands inner ps)) r)
  by_first p ps found behind (Err e) = refl
  by_first p ps found behind (Ok command) = behind (found ++ command ∷ []) ∙ joined found command (commands inner ps)

  from_flat : (ps : List (Item × Item)) (found : Sequence) → from inner found (flat ps) ≡ mapped (λ (more : Sequence). found ++ more) (commands inner ps)
  from_flat [] found = ap (λ (s : Sequence). Ok s) (sym (append-nil found))
  from_flat (p ∷ ps) found = by_first p ps found (λ before. from_flat ps before) (command_at inner p.0 p.1)

  bare : (r : Result Sequence SequenceFault) → mapped (λ (more : Sequence). [] ++ more) r ≡ r
  bare (Ok s) = refl
  bare (Err e) = refl

  none_more : (x y : Item) (o : Option (List (Item × Item))) → option_map (λ (ps : List (Item × Item)). (x, y) ∷ ps) o ≡ None → o ≡ None
  none_more x y None e = refl
  none_more x y (Some ps) e = absurd cc

  pub odd : (xs : List Item) → paired xs ≡ None → length xs % 2 ≡ 1
  odd [] e = absurd cc
  odd (x ∷ []) e = omega arith
  odd (x ∷ y ∷ xs) e = let more : length xs % 2 ≡ 1 = odd xs (none_more x y (paired xs) e) in omega arith

  some_more : (x y : Item) (n : ℕ) (o : Option (List (Item × Item))) (ps : List (Item × Item)) → ((qs : List (Item × Item)) → o ≡ Some qs → n % 2 ≡ 0)
      → option_map (λ (qs : List (Item × Item)). (x, y) ∷ qs) o ≡ Some ps → n % 2 ≡ 0
  some_more x y n None ps more e = absurd cc
  some_more x y n (Some qs) ps more e = more qs refl

  pub even : (xs : List Item) (ps : List (Item × Item)) → paired xs ≡ Some ps → length xs % 2 ≡ 0
  even [] ps e = omega arith
  even (x ∷ []) ps e = absurd cc
  even (x ∷ y ∷ xs) ps e = let more : length xs % 2 ≡ 0 = some_more x y (length xs) (paired xs) ps (λ qs h. even xs qs h) e in omega arith

  -- an odd count
  pub odd_is : (xs : List Item) → (length xs % 2 ≡ 0 → ⊥) → members_in inner xs ≡ Err Shape
  odd_is xs not_even = by_option (paired xs) refl where
    by_option : (o : Option (List (Item × Item))) → paired xs ≡ o → and_then (commands inner) (or_fault Shape o) ≡ Err Shape
    by_option None at = refl
    by_option (Some ps) at = absurd (not_even (even xs ps at))

  -- an even count
  pub even_is : (xs : List Item) → length xs % 2 ≡ 0 → from inner [] xs ≡ members_in inner xs
  even_is xs is_even = by_option (paired xs) refl where
    by_option : (o : Option (List (Item × Item))) → paired xs ≡ o → from inner [] xs ≡ and_then (commands inner) (or_fault Shape o)
    by_option None at = absurd (let other : length xs % 2 ≡ 1 = odd xs at in omega arith)
    by_option (Some ps) at = ap (from inner []) (paired_flat xs ps at) ∙ from_flat ps [] ∙ bare (commands inner ps)

-- ---- sequences

-- the sequences that byte strings wrap, behind those found
abbrev pub each_from : Inner → List Sequence → List Item → Result (List Sequence) SequenceFault
each_from inner found [] = Ok found
each_from inner found (x ∷ xs) = and_then (λ (s : Sequence). each_from inner (found ++ s ∷ []) xs) (wrapped_sequence inner x)

module _ (inner : Inner) where
  pub each_goes_on : (found : List Sequence) (xs : List Item) (k : ℕ) (x : Item) (s : Sequence) (total : Result (List Sequence) SequenceFault) → drop k xs ≡ x ∷ drop (k + 1) xs
      → wrapped_sequence inner x ≡ Ok s → each_from inner found (drop k xs) ≡ total → each_from inner (found ++ s ∷ []) (drop (k + 1) xs) ≡ total
  each_goes_on found xs k x s total one here so_far =
      sym (ap (each_from inner found) one ∙ ap (λ (r : Result Sequence SequenceFault). and_then (λ (t : Sequence). each_from inner (found ++ t ∷ []) (drop (k + 1) xs)) r) here) ∙ so_far

  pub each_stops : (found : List Sequence) (xs : List Item) (k : ℕ) (x : Item) (e : SequenceFault) (total : Result (List Sequence) SequenceFault) → drop k xs ≡ x ∷ drop (k + 1) xs
      → wrapped_sequence inner x ≡ Err e → each_from inner found (drop k xs) ≡ total → total ≡ Err e
  each_stops found xs k x e total one here so_far =
      sym so_far ∙ ap (each_from inner found) one ∙ ap (λ (r : Result Sequence SequenceFault). and_then (λ (t : Sequence). each_from inner (found ++ t ∷ []) (drop (k + 1) xs)) r) here

  pub each_ends : (found : List Sequence) (xs : List Item) (k : ℕ) (total : Result (List Sequence) SequenceFault) → length xs ≤ k → each_from inner found (drop k xs) ≡ total → total ≡ Ok found
  each_ends found xs k total le so_far = sym so_far ∙ ap (each_from inner found) (drop_all k xs le)

  each_joined : (found : List Sequence) (s : Sequence) (r : Result (List Sequence) SequenceFault)
      → mapped (λ (more : List Sequence). (found ++ s ∷ []) ++ more) r ≡ mapped (λ (more : List Sequence). found ++ more) (mapped (λ (more : List Sequence). s ∷ more) r)
  each_joined found s (Ok more) = ap (λ (ss : List Sequence). Ok ss) (append_assoc found (s ∷ []) more)
  each_joined found s (Err e) = refl

  each_first : (x : Item) (xs : List Item) (found : List Sequence)
      → ((before : List Sequence) → each_from inner before xs ≡ mapped (λ (more : List Sequence). before ++ more) (each_wrapped inner xs)) → (r : Result Sequence SequenceFault)
      → and_then (λ (s : Sequence). each_from inner (found ++ s ∷ []) xs) r
      ≡ mapped (λ (more : List Sequence). found ++ more) (and_then (λ (s : Sequence). mapped (λ (more : List Sequence). s ∷ more) (each_wrapped inner xs)) r)
  each_first x xs found behind (Err e) = refl
  each_first x xs found behind (Ok s) = behind (found ++ s ∷ []) ∙ each_joined found s (each_wrapped inner xs)

  each_found : (xs : List Item) (found : List Sequence) → each_from inner found xs ≡ mapped (λ (more : List Sequence). found ++ more) (each_wrapped inner xs)
  each_found [] found = ap (λ (ss : List Sequence). Ok ss) (sym (append-nil found))
  each_found (x ∷ xs) found = each_first x xs found (λ before. each_found xs before) (wrapped_sequence inner x)

  each_bare : (r : Result (List Sequence) SequenceFault) → mapped (λ (more : List Sequence). [] ++ more) r ≡ r
  each_bare (Ok s) = refl
  each_bare (Err e) = refl

  pub each_is : (xs : List Item) → each_from inner [] xs ≡ each_wrapped inner xs
  each_is xs = each_found xs [] ∙ each_bare (each_wrapped inner xs)

  -- ---- alternatives

  more_alternatives : (x : Item) (xs : List Item) (last : Item)
      → alternatives inner (x ∷ (xs ++ last ∷ [])) ≡ and_then (λ (s : Sequence). mapped (more_of s) (alternatives inner (xs ++ last ∷ []))) (wrapped_sequence inner x)
  more_alternatives x [] last = refl
  more_alternatives x (y ∷ xs) last = refl

  -- one more alternative before others
  before : (b : Bool) (r : Result Sequence SequenceFault) (more : Result (List Sequence) SequenceFault) (others : Result (List Sequence × Bool) SequenceFault)
      → others ≡ mapped (ended_by b) more
      → and_then (λ (s : Sequence). mapped (more_of s) others) r ≡ mapped (ended_by b) (and_then (λ (s : Sequence). mapped (λ (ss : List Sequence). s ∷ ss) more) r)
  before b (Err e) more others is = refl
  before b (Ok s) (Err e) others is = ap (λ (o : Result (List Sequence × Bool) SequenceFault). mapped (more_of s) o) is
  before b (Ok s) (Ok ss) others is = ap (λ (o : Result (List Sequence × Bool) SequenceFault). mapped (more_of s) o) is

  last_null : (first : List Item) (last : Item) → is_null (out-Item last) ≡ true → alternatives inner (first ++ last ∷ []) ≡ mapped (ended_by true) (each_wrapped inner first)
  last_null [] last null = rw null refl
  last_null (x ∷ xs) last null = more_alternatives x xs last ∙ before true (wrapped_sequence inner x) (each_wrapped inner xs) (alternatives inner (xs ++ last ∷ [])) (last_null xs last null)

  single : (r : Result Sequence SequenceFault)
      → mapped alone r ≡ mapped (ended_by false) (and_then (λ (s : Sequence). mapped (λ (ss : List Sequence). s ∷ ss) (each_wrapped inner [])) r)
  single (Ok s) = refl
  single (Err e) = refl

  last_other : (first : List Item) (last : Item) → is_null (out-Item last) ≡ false
      → alternatives inner (first ++ last ∷ []) ≡ mapped (ended_by false) (each_wrapped inner (first ++ last ∷ []))
  last_other [] last null = rw null (single (wrapped_sequence inner last))
  last_other (x ∷ xs) last null = more_alternatives x xs last ∙ before false (wrapped_sequence inner x) (each_wrapped inner (xs ++ last ∷ [])) (alternatives inner (xs ++ last ∷ [])) (last_other xs last null)

-- what is read of alternatives: where the last is null, of those before it, and else of all
abbrev pub wrapped_part_of : List Item → List Item → Bool → List Item
wrapped_part_of xs first null_last = cond null_last first xs

pub try_is : (inner : Inner) (xs first : List Item) (last : Item) (null_last : Bool) → xs ≡ first ++ last ∷ [] → null_last ≡ is_null (out-Item last)
    → alternatives inner xs ≡ mapped (ended_by null_last) (each_wrapped inner (wrapped_part_of xs first null_last))
try_is inner xs first last true is null = ap (alternatives inner) is ∙ last_null inner first last (sym null)
try_is inner xs first last false is null = ap (alternatives inner) is ∙ last_other inner first last (sym null) ∙ ap (λ (ys : List Item). mapped (ended_by false) (each_wrapped inner ys)) (sym is)

-- the exits of the reader of alternatives
pub try_reads : (inner : Inner) (xs first : List Item) (last : Item) (null_last : Bool) (ss : List Sequence) → xs ≡ first ++ last ∷ [] → null_last ≡ is_null (out-Item last)
    → each_wrapped inner (wrapped_part_of xs first null_last) ≡ Ok ss → try_in inner xs ≡ Ok (c.TryEach ss null_last)
try_reads inner xs first last null_last ss is null each =
    ap (λ (r : Result (List Sequence × Bool) SequenceFault). mapped (λ (t : List Sequence × Bool). c.TryEach t.0 t.1) r)
    (try_is inner xs first last null_last is null ∙ ap (λ (r : Result (List Sequence) SequenceFault). mapped (ended_by null_last) r) each)

pub try_stops : (inner : Inner) (xs first : List Item) (last : Item) (null_last : Bool) (e : SequenceFault) → xs ≡ first ++ last ∷ [] → null_last ≡ is_null (out-Item last)
    → Answers {V = List Sequence} NoMemory (each_wrapped inner (wrapped_part_of xs first null_last)) (Err e) → Answers {V = Command} NoMemory (try_in inner xs) (Err e)
try_stops inner xs first last null_last e is null (inr memory) = inr memory
try_stops inner xs first last null_last e is null (inl each) =
    inl (ap (λ (r : Result (List Sequence × Bool) SequenceFault). mapped (λ (t : List Sequence × Bool). c.TryEach t.0 t.1) r)
    (try_is inner xs first last null_last is null ∙ ap (λ (r : Result (List Sequence) SequenceFault). mapped (ended_by null_last) r) each))

-- ---- the exits of the loops

pub members_stop : (inner : Inner) (found : Sequence) (xs : List Item) (k : ℕ) (x y : Item) (e : SequenceFault) → length xs % 2 ≡ 0 → drop (2 * k) xs ≡ x ∷ y ∷ drop (2 * (k + 1)) xs
    → Answers {V = Command} NoMemory (command_at inner x y) (Err e) → from inner found (drop (2 * k) xs) ≡ from inner [] xs → Answers {V = Sequence} NoMemory (members_in inner xs) (Err e)
members_stop inner found xs k x y e is_even two (inr memory) so_far = inr memory
members_stop inner found xs k x y e is_even two (inl here) so_far = inl (sym (even_is inner xs is_even) ∙ stops inner found xs k x y e (from inner [] xs) two here so_far)

pub members_end : (inner : Inner) (found : Sequence) (xs : List Item) (k : ℕ) → length xs % 2 ≡ 0 → length xs ≤ 2 * k → from inner found (drop (2 * k) xs) ≡ from inner [] xs → members_in inner xs ≡ Ok found
members_end inner found xs k is_even le so_far = sym (even_is inner xs is_even) ∙ ends inner found xs k (from inner [] xs) le so_far

pub each_stop : (inner : Inner) (found : List Sequence) (xs : List Item) (k : ℕ) (x : Item) (e : SequenceFault) → drop k xs ≡ x ∷ drop (k + 1) xs
    → Answers {V = Sequence} NoMemory (wrapped_sequence inner x) (Err e) → each_from inner found (drop k xs) ≡ each_from inner [] xs → Answers {V = List Sequence} NoMemory (each_wrapped inner xs) (Err e)
each_stop inner found xs k x e one (inr memory) so_far = inr memory
each_stop inner found xs k x e one (inl here) so_far = inl (sym (each_is inner xs) ∙ each_stops inner found xs k x e (each_from inner [] xs) one here so_far)

pub each_end : (inner : Inner) (found : List Sequence) (xs : List Item) (k : ℕ) → length xs ≤ k → each_from inner found (drop k xs) ≡ each_from inner [] xs → each_wrapped inner xs ≡ Ok found
each_end inner found xs k le so_far = sym (each_is inner xs) ∙ each_ends inner found xs k (each_from inner [] xs) le so_far

-- ---- what is written

pub written_more : (w : Sequence → Item) (cs : Sequence) (k : ℕ) (command : Command) (items total : List Item) → drop k cs ≡ command ∷ drop (k + 1) cs → items ++ members w (drop k cs) ≡ total
    → ((items ++ i.Unsigned (number_of command) ∷ []) ++ argument_by w (out-Command command) ∷ []) ++ members w (drop (k + 1) cs) ≡ total
written_more w cs k command items total one so_far =
    append_assoc (items ++ i.Unsigned (number_of command) ∷ []) (argument_by w (out-Command command) ∷ []) (members w (drop (k + 1) cs))
    ∙ append_assoc items (i.Unsigned (number_of command) ∷ []) (argument_by w (out-Command command) ∷ members w (drop (k + 1) cs))
    ∙ sym (ap (λ (xs : List Item). items ++ xs) (ap (members w) one)) ∙ so_far
