-- Commands one behind the other: the members of a sequence's array.
use Rattle.std.proofs.Common.{◌≡◌, ℕ, List, [], ◌∷◌, Option, Some, None, refl, ap, subst, ◌∙◌}
use Rattle.std.specs.Prelude.{Result, Ok, Err, option_map}
use Rattle.std.specs.List.{AllByRecursion}
use Rattle.cbor_core.specs.declared.item.Item.{Item}
use Rattle.cbor_core.specs.declared.item.Item.TheVariants as i
use Rattle.cbor_core.specs.Views.{unsigned_of}
use Rattle.cbor_fields.specs.Written.{IsSpelled}
use Rattle.item_codec.specs.Answers.{and_then, mapped, or_fault, IsSettled}
use Rattle.item_codec.specs.Part.{Part}
use Rattle.item_codec.specs.Fields.{shaped}
use Rattle.item_codec.specs.Wrapped.{wrap}
use Rattle.item_codec.proofs.Public.Settled.{fault_settled, then_settled}
use Rattle.item_codec.proofs.Public.Arrays.{Makes, array_part}
use Rattle.suit_commands.specs.declared.command.Command.{Command}
use Rattle.suit_commands.specs.declared.fault.SequenceFault.{SequenceFault}
use Rattle.suit_commands.specs.declared.fault.SequenceFault.TheVariants.{Shape}
use Rattle.suit_commands.specs.Sequences.{Sequence, Inner, wrapped_sequence, command_of, command_at, paired, commands, members_in, sequence_by}
use Rattle.suit_commands.specs.Written.{number_of, members}
use Rattle.suit_commands.specs.Proper.{AreProperCommands}
use Rattle.suit_commands.proofs.Fields.{IsOutside, number}
use Rattle.suit_commands.proofs.Arguments.{argument, Proper, commands_fit, command_seen}

-- ---- items by two

-- the items of pairs, in their order
abbrev pub flat : List (Item × Item) → List Item
flat [] = []
flat (p ∷ ps) = p.0 ∷ p.1 ∷ flat ps

flat_more : (x y : Item) (xs : List Item) (ps : List (Item × Item)) (o : Option (List (Item × Item))) → ((qs : List (Item × Item)) → o ≡ Some qs → xs ≡ flat qs)
    → option_map (λ (qs : List (Item × Item)). (x, y) ∷ qs) o ≡ Some ps → x ∷ y ∷ xs ≡ flat ps
flat_more x y xs ps None more e = absurd cc
flat_more x y xs ps (Some qs) more e =
    let same : (x, y) ∷ qs ≡ ps = cc in
    ap (λ (ys : List Item). x ∷ y ∷ ys) (more qs refl) ∙ ap flat same

-- what was paired is the items again
pub paired_flat : (xs : List Item) (ps : List (Item × Item)) → paired xs ≡ Some ps → xs ≡ flat ps
paired_flat [] ps e = let same : [] ≡ ps = cc in ap flat same
paired_flat (x ∷ []) ps e = absurd cc
paired_flat (x ∷ y ∷ xs) ps e = flat_more x y xs ps (paired xs) (λ qs h. paired_flat xs qs h) e

-- and the items of pairs are paired as they were
pub flat_paired : (ps : List (Item × Item)) → paired (flat ps) ≡ Some ps
flat_paired [] = refl
flat_paired (p ∷ ps) = ap (λ (o : Option (List (Item × Item))). option_map (λ (qs : List (Item × Item)). (p.0, p.1) ∷ qs) o) (flat_paired ps)

module _ (none : SequenceFault) (outside : IsOutside none) (inner : Inner) (item : Sequence → Item) (P : Sequence → Type 0) (one : Part none (wrapped_sequence inner) (wrap item) P) where
  -- ---- no refusal is want of memory

  command_settled : (n x : Item) → IsSettled none (command_at inner n x)
  command_settled n x = then_settled none (λ (k : ℕ). command_of inner k x) (shaped Shape unsigned_of n) ((number none outside).settled n) (λ k. (commands_fit none outside inner item P one k).settled x)

  commands_settled : (ps : List (Item × Item)) → IsSettled none (commands inner ps)
  commands_settled [] = tt
  commands_settled (p ∷ ps) =
      then_settled none (λ (command : Command). mapped (λ (more : Sequence). command ∷ more) (commands inner ps)) (command_at inner p.0 p.1) (command_settled p.0 p.1) (λ command.
      then_settled none (λ (more : Sequence). Ok (command ∷ more)) (commands inner ps) (commands_settled ps) (λ _. tt))

  members_settled : (xs : List Item) → IsSettled none (members_in inner xs)
  members_settled xs = then_settled none (commands inner) (or_fault Shape (paired xs)) (fault_settled none Shape outside.shape (paired xs)) commands_settled

  -- ---- what was read

  record IsRead (n x : Item) (command : Command) : Type 0 where
    numbered : n ≡ i.Unsigned (number_of command)
    is : x ≡ argument none outside inner item P one command
    proper : Proper none outside inner item P one command

  by_number : (n x : Item) (command : Command) → IsSpelled n → IsSpelled x → (r : Result ℕ SequenceFault) → shaped Shape unsigned_of n ≡ r
      → and_then (λ (k : ℕ). command_of inner k x) r ≡ Ok command → IsRead n x command
  by_number n x command s t (Err e) at h = absurd cc
  by_number n x command s t (Ok k) at h =
      let fits = commands_fit none outside inner item P one k in
      record { numbered = (number none outside).fixes n k s at ∙ ap (λ (m : ℕ). i.Unsigned m) (fits.numbered x command h); is = fits.fixes x command t h; proper = fits.proper x command t h }

  command_read : (n x : Item) (command : Command) → IsSpelled n → IsSpelled x → command_at inner n x ≡ Ok command → IsRead n x command
  command_read n x command s t h = by_number n x command s t (shaped Shape unsigned_of n) refl h

  record AreRead (ps : List (Item × Item)) (s : Sequence) : Type 0 where
    is : flat ps ≡ members (wrap item) s
    proper : AreProperCommands P s

  by_more : (p : Item × Item) (ps : List (Item × Item)) (s : Sequence) (command : Command) → IsRead p.0 p.1 command → (r : Result Sequence SequenceFault) → commands inner ps ≡ r
      → ((t : Sequence) → commands inner ps ≡ Ok t → AreRead ps t) → mapped (λ (more : Sequence). command ∷ more) r ≡ Ok s → AreRead (p ∷ ps) s
  by_more p ps s command first (Err e) at rest h = absurd cc
  by_more p ps s command first (Ok t) at rest h =
      let same : command ∷ t ≡ s = cc in
      let behind = rest t at in
      let front : p.0 ∷ p.1 ∷ flat ps ≡ i.Unsigned (number_of command) ∷ argument none outside inner item P one command ∷ members (wrap item) t =
      ap (λ (x : Item). x ∷ p.1 ∷ flat ps) first.numbered ∙ ap (λ (x : Item). i.Unsigned (number_of command) ∷ x ∷ flat ps) first.is
      ∙ ap (λ (xs : List Item). i.Unsigned (number_of command) ∷ argument none outside inner item P one command ∷ xs) behind.is in
      let read : AreRead (p ∷ ps) (command ∷ t) = record { is = front; proper = (first.proper, behind.proper) } in
      subst (λ (u : Sequence). AreRead (p ∷ ps) u) same read

  by_first : (p : Item × Item) (ps : List (Item × Item)) (s : Sequence) → IsSpelled p.0 → IsSpelled p.1 → (r : Result Command SequenceFault) → command_at inner p.0 p.1 ≡ r
      → ((t : Sequence) → commands inner ps ≡ Ok t → AreRead ps t) → and_then (λ (command : Command). mapped (λ (more : Sequence). command ∷ more) (commands inner ps)) r ≡ Ok s → AreRead (p ∷ ps) s
  by_first p ps s n x (Err e) at rest h = absurd cc
  by_first p ps s n x (Ok command) at rest h = by_more p ps s command (command_read p.0 p.1 command n x at) (commands inner ps) refl rest h

  all_read : (ps : List (Item × Item)) (s : Sequence) → AllByRecursion IsSpelled (flat ps) → commands inner ps ≡ Ok s → AreRead ps s
  all_read [] s all h = let same : [] ≡ s = cc in let read : AreRead [] [] = record { is = refl; proper = tt } in subst (λ (u : Sequence). AreRead [] u) same read
  all_read (p ∷ ps) s all h = by_first p ps s all.0 all.1.0 (command_at inner p.0 p.1) refl (λ t e. all_read ps t all.1.1 e) h

  record MembersAre (xs : List Item) (s : Sequence) : Type 0 where
    is : xs ≡ members (wrap item) s
    proper : AreProperCommands P s

  by_pairs : (xs : List Item) (s : Sequence) → AllByRecursion IsSpelled xs → (o : Option (List (Item × Item))) → paired xs ≡ o → and_then (commands inner) (or_fault Shape o) ≡ Ok s → MembersAre xs s
  by_pairs xs s all None at h = absurd cc
  by_pairs xs s all (Some ps) at h =
      let are = paired_flat xs ps at in
      let read = all_read ps s (subst (λ (ys : List Item). AllByRecursion IsSpelled ys) are all) h in
      record { is = are ∙ read.is; proper = read.proper }

  -- ---- what was written

  -- the numbers and arguments of commands
  abbrev pairs_of : Sequence → List (Item × Item)
  pairs_of [] = []
  pairs_of (command ∷ more) = (i.Unsigned (number_of command), argument none outside inner item P one command) ∷ pairs_of more

  members_flat : (s : Sequence) → members (wrap item) s ≡ flat (pairs_of s)
  members_flat [] = refl
  members_flat (command ∷ more) = ap (λ (xs : List Item). i.Unsigned (number_of command) ∷ argument none outside inner item P one command ∷ xs) (members_flat more)

  command_again : (command : Command) → Proper none outside inner item P one command → command_at inner (i.Unsigned (number_of command)) (argument none outside inner item P one command) ≡ Ok command
  command_again command is =
      ap (λ (r : Result ℕ SequenceFault). and_then (λ (k : ℕ). command_of inner k (argument none outside inner item P one command)) r) ((number none outside).seen (number_of command) tt)
      ∙ command_seen none outside inner item P one command is

  commands_again : (s : Sequence) → AreProperCommands P s → commands inner (pairs_of s) ≡ Ok s
  commands_again [] all = refl
  commands_again (command ∷ more) all =
      ap (λ (r : Result Command SequenceFault). and_then (λ (d : Command). mapped (λ (t : Sequence). d ∷ t) (commands inner (pairs_of more))) r) (command_again command all.0)
      ∙ ap (λ (r : Result Sequence SequenceFault). mapped (λ (t : Sequence). command ∷ t) r) (commands_again more all.1)

  members_seen : (s : Sequence) → AreProperCommands P s → members_in inner (members (wrap item) s) ≡ Ok s
  members_seen s all =
      let two : paired (members (wrap item) s) ≡ Some (pairs_of s) = ap paired (members_flat s) ∙ flat_paired (pairs_of s) in
      ap (λ (o : Option (List (Item × Item))). and_then (commands inner) (or_fault Shape o)) two ∙ commands_again s all

  -- ---- the array as a part

  makes : (xs : List Item) → Makes none (members (wrap item)) (members_in inner xs) xs (AreProperCommands P)
  makes xs = record {
    settled = members_settled xs;
    back = λ all s h. (let r = by_pairs xs s all (paired xs) refl h in r.is);
    proper = λ all s h. (let r = by_pairs xs s all (paired xs) refl h in r.proper);
  }

  pub sequence_part : Part none (sequence_by inner) (λ s. i.Array (members (wrap item) s)) (AreProperCommands P)
  sequence_part = array_part none Shape (members_in inner) (members (wrap item)) (AreProperCommands P) outside.shape makes members_seen
