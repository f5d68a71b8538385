-- Commands, each by its number and its argument.
use Rattle.std.proofs.Common.{◌≡◌, ℕ, Bool, true, false, cond, List, refl, sym, ap, subst, ◌∙◌}
use Rattle.std.specs.Prelude.{Result, Ok, Err, ◌==◌, if◌then◌else◌}
use Rattle.std.proofs.lemmas.Bool.{eqb-true}
use Rattle.cbor_core.specs.declared.item.Item.{Item}
use Rattle.cbor_core.specs.declared.item.Item.TheVariants as i
use Rattle.cbor_fields.specs.Written.{IsSpelled}
use Rattle.item_codec.specs.Answers.{mapped, IsSettled}
use Rattle.item_codec.specs.Part.{Part}
use Rattle.item_codec.specs.Wrapped.{wrap}
use Rattle.item_codec.proofs.Public.Settled.{then_settled}
use Rattle.suit_commands.specs.declared.command.Command.{Command, out-Command}
use Rattle.suit_commands.specs.declared.command.Command.TheOpen.{Command-F}
use Rattle.suit_commands.specs.declared.command.Command.TheViews.{roll-Command, roll-out-Command}
use Rattle.suit_commands.specs.declared.command.Command.TheVariants as c
use Rattle.suit_commands.specs.declared.fault.SequenceFault.{SequenceFault}
use Rattle.suit_commands.specs.declared.fault.SequenceFault.TheVariants as faults
use Rattle.suit_commands.specs.Sequences.{Sequence, Inner, wrapped_sequence, kept, kept_of, command_of}
use Rattle.suit_commands.specs.Written.{number_by, number_of, argument_by}
use Rattle.suit_commands.specs.Proper.{IsProperCommandBy}
use Rattle.suit_commands.proofs.Fields.{IsOutside, number, parameters_part}
use Rattle.suit_commands.proofs.Alternatives.{alternatives_part}

module _ (none : SequenceFault) (outside : IsOutside none) (inner : Inner) (item : Sequence → Item) (P : Sequence → Type 0) (one : Part none (wrapped_sequence inner) (wrap item) P) where
  abbrev pub argument : Command → Item
  argument command = argument_by (wrap item) (out-Command command)

  abbrev pub Proper : Command → Type 0
  Proper command = IsProperCommandBy P (out-Command command)

  -- What is read under a number has that number, is the argument of the command, and keeps the command's rules.
  pub record Fits (number : ℕ) (read : Item → Result Command SequenceFault) : Type 0 where
    pub settled : (x : Item) → IsSettled none (read x)
    pub numbered : (x : Item) (command : Command) → read x ≡ Ok command → number ≡ number_of command
    pub fixes : (x : Item) (command : Command) → IsSpelled x → read x ≡ Ok command → x ≡ argument command
    pub proper : (x : Item) (command : Command) → IsSpelled x → read x ≡ Ok command → Proper command

  -- ---- one row of the table

  module _ {V : Type 0} {view : Item → Result V SequenceFault} {form : V → Item} {Q : V → Type 0} (part : Part none view form Q) (label : ℕ) (make : V → Command)
      (numbers : (v : V) → label ≡ number_of (make v)) (forms : (v : V) → form v ≡ argument (make v)) (keeps : (v : V) → Q v → Proper (make v)) where
    number_by_value : (command : Command) (r : Result V SequenceFault) → mapped make r ≡ Ok command → label ≡ number_of command
    number_by_value command (Err e) h = absurd cc
    number_by_value command (Ok v) h = let same : make v ≡ command = cc in numbers v ∙ ap number_of same

    form_by_value : (x : Item) (command : Command) → IsSpelled x → (r : Result V SequenceFault) → view x ≡ r → mapped make r ≡ Ok command → x ≡ argument command
    form_by_value x command s (Err e) at h = absurd cc
    form_by_value x command s (Ok v) at h = let same : make v ≡ command = cc in part.fixes x v s at ∙ forms v ∙ ap argument same

    proper_by_value : (x : Item) (command : Command) → IsSpelled x → (r : Result V SequenceFault) → view x ≡ r → mapped make r ≡ Ok command → Proper command
    proper_by_value x command s (Err e) at h = absurd cc
    proper_by_value x command s (Ok v) at h = let same : make v ≡ command = cc in subst Proper same (keeps v (part.proper x v s at))

    row : Fits label (λ x. mapped make (view x))
    row = record {
      settled = λ x. then_settled none (λ (v : V). Ok (make v)) (view x) (part.settled x) (λ _. tt);
      numbered = λ x command h. number_by_value command (view x) h;
      fixes = λ x command s h. form_by_value x command s (view x) refl h;
      proper = λ x command s h. proper_by_value x command s (view x) refl h;
    }

  -- ---- the table

  -- a choice by the number
  choose : (n label : ℕ) (here other : Item → Result Command SequenceFault) → Fits label here → Fits n other → Fits n (λ x. if n == label then here x else other x)
  choose n label here other at_label at_other = by_test (n == label) refl where
    by_test : (b : Bool) → (n == label) ≡ b → Fits n (λ x. cond b (here x) (other x))
    by_test true is = let same : label ≡ n = sym (eqb-true n label is) in subst (λ (k : ℕ). Fits k here) same at_label
    by_test false is = at_other

  none_fits : (n : ℕ) → Fits n (λ x. Err (faults.Command n))
  none_fits n = record { settled = λ x. outside.command n; numbered = λ x command h. absurd cc; fixes = λ x command s h. absurd cc; proper = λ x command s h. absurd cc }

  -- a command with a number that is kept
  kept_row : (label : ℕ) (make : ℕ → Command) → ((n : ℕ) → label ≡ number_of (make n)) → ((n : ℕ) → i.Unsigned n ≡ argument (make n)) → ((n : ℕ) → Proper (make n)) → Fits label (λ x. kept make x)
  kept_row label make numbers forms keeps = row (number none outside) label make numbers forms (λ n _. keeps n)

  kept_fits : (n : ℕ) → Fits n (λ x. kept_of n x)
  kept_fits n =
      choose n 1 _ _ (kept_row 1 (λ k. c.Vendor k) (λ k. rw c.outs-Vendor refl) (λ k. rw c.outs-Vendor refl) (λ k. rw c.outs-Vendor tt))
      (choose n 2 _ _ (kept_row 2 (λ k. c.Class k) (λ k. rw c.outs-Class refl) (λ k. rw c.outs-Class refl) (λ k. rw c.outs-Class tt))
      (choose n 3 _ _ (kept_row 3 (λ k. c.ImageMatch k) (λ k. rw c.outs-ImageMatch refl) (λ k. rw c.outs-ImageMatch refl) (λ k. rw c.outs-ImageMatch tt))
      (choose n 24 _ _ (kept_row 24 (λ k. c.Device k) (λ k. rw c.outs-Device refl) (λ k. rw c.outs-Device refl) (λ k. rw c.outs-Device tt))
      (choose n 14 _ _ (kept_row 14 (λ k. c.Abort k) (λ k. rw c.outs-Abort refl) (λ k. rw c.outs-Abort refl) (λ k. rw c.outs-Abort tt))
      (choose n 18 _ _ (kept_row 18 (λ k. c.Write k) (λ k. rw c.outs-Write refl) (λ k. rw c.outs-Write refl) (λ k. rw c.outs-Write tt))
      (choose n 21 _ _ (kept_row 21 (λ k. c.Fetch k) (λ k. rw c.outs-Fetch refl) (λ k. rw c.outs-Fetch refl) (λ k. rw c.outs-Fetch tt))
      (choose n 22 _ _ (kept_row 22 (λ k. c.Copy k) (λ k. rw c.outs-Copy refl) (λ k. rw c.outs-Copy refl) (λ k. rw c.outs-Copy tt))
      (choose n 12 _ _ (kept_row 12 (λ k. c.SetIndex k) (λ k. rw c.outs-SetIndex refl) (λ k. rw c.outs-SetIndex refl) (λ k. rw c.outs-SetIndex tt))
      (none_fits n)))))))))

  -- each command has its number, its argument and its rules
  pub commands_fit : (n : ℕ) → Fits n (λ x. command_of inner n x)
  commands_fit n =
      choose n 15 _ _ (row (alternatives_part none outside inner item P one) 15 (λ t. c.TryEach t.0 t.1) (λ t. rw c.outs-TryEach refl) (λ t. rw c.outs-TryEach refl) (λ t is. rw c.outs-TryEach is))
      (choose n 20 _ _ (row (parameters_part none outside) 20 (λ v. c.Override v) (λ v. rw c.outs-Override refl) (λ v. rw c.outs-Override refl) (λ v is. rw c.outs-Override is))
      (choose n 32 _ _ (row one 32 (λ s. c.RunSequence s) (λ s. rw c.outs-RunSequence refl) (λ s. rw c.outs-RunSequence refl) (λ s is. rw c.outs-RunSequence is))
      (kept_fits n)))

  -- ---- what was written

  kept_seen : (label : ℕ) (make : ℕ → Command) (l : Command-F Command) (n : ℕ) → roll-Command l ≡ make n → kept make (i.Unsigned n) ≡ Ok (roll-Command l)
  kept_seen label make l n is = ap (λ (r : Result ℕ SequenceFault). mapped make r) ((number none outside).seen n tt) ∙ ap (λ (command : Command). Ok command) (sym is)

  rolled_seen : (l : Command-F Command) → IsProperCommandBy P l → command_of inner (number_by l) (argument_by (wrap item) l) ≡ Ok (roll-Command l)
  rolled_seen (Command-F.Vendor n) is = kept_seen 1 (λ k. c.Vendor k) (Command-F.Vendor n) n (c.rolls-Vendor n)
  rolled_seen (Command-F.Class n) is = kept_seen 2 (λ k. c.Class k) (Command-F.Class n) n (c.rolls-Class n)
  rolled_seen (Command-F.ImageMatch n) is = kept_seen 3 (λ k. c.ImageMatch k) (Command-F.ImageMatch n) n (c.rolls-ImageMatch n)
  rolled_seen (Command-F.Device n) is = kept_seen 24 (λ k. c.Device k) (Command-F.Device n) n (c.rolls-Device n)
  rolled_seen (Command-F.Abort n) is = kept_seen 14 (λ k. c.Abort k) (Command-F.Abort n) n (c.rolls-Abort n)
  rolled_seen (Command-F.Write n) is = kept_seen 18 (λ k. c.Write k) (Command-F.Write n) n (c.rolls-Write n)
  rolled_seen (Command-F.Fetch n) is = kept_seen 21 (λ k. c.Fetch k) (Command-F.Fetch n) n (c.rolls-Fetch n)
  rolled_seen (Command-F.Copy n) is = kept_seen 22 (λ k. c.Copy k) (Command-F.Copy n) n (c.rolls-Copy n)
  rolled_seen (Command-F.SetIndex n) is = kept_seen 12 (λ k. c.SetIndex k) (Command-F.SetIndex n) n (c.rolls-SetIndex n)
  rolled_seen (Command-F.TryEach ss b) is =
      let tries = alternatives_part none outside inner item P one in
      ap (λ (r : Result (List Sequence × Bool) SequenceFault). mapped (λ (t : List Sequence × Bool). c.TryEach t.0 t.1) r) (tries.seen (ss, b) is) ∙ ap (λ (command : Command). Ok command) (sym (c.rolls-TryEach ss b))
  rolled_seen (Command-F.Override v) is = ap (mapped (λ v. c.Override v)) ((parameters_part none outside).seen v is) ∙ ap (λ (command : Command). Ok command) (sym (c.rolls-Override v))
  rolled_seen (Command-F.RunSequence s) is = ap (λ (r : Result Sequence SequenceFault). mapped (λ (s : Sequence). c.RunSequence s) r) (one.seen s is) ∙ ap (λ (command : Command). Ok command) (sym (c.rolls-RunSequence s))

  -- a command is read again
  pub command_seen : (command : Command) → Proper command → command_of inner (number_of command) (argument command) ≡ Ok command
  command_seen command is = rolled_seen (out-Command command) is ∙ ap (λ (d : Command). Ok d) (roll-out-Command command)
