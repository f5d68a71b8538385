-- The first index of a command that tries alternatives.
use Rattle.std.proofs.Common.{◌≡◌, ℕ, ◌+◌, ◌<◌, ◌≤◌, Bool, List, [], ◌∷◌, length, drop, get_or, map, Option, Some, None, refl, sym, ap, ◌∙◌, inl}
use Rattle.std.specs.Prelude.{Result, Ok, Err}
use Rattle.std.specs.Option.{option_or}
use Rattle.std.proofs.lemmas.List.{drop_all}
use Rattle.suit_commands.specs.declared.command.Command.{Command}
use Rattle.suit_commands.specs.declared.command.Command.TheOpen.{Command-F}
use Rattle.suit_commands.specs.declared.command.Command.TheVariants as c
use Rattle.suit_commands.specs.declared.command.Command.TheFolds.{fold-roll-Command}
use Rattle.suit_commands.specs.Sequences.{Sequence}
use Rattle.suit_commands.specs.declared.fault.SequenceFault.{SequenceFault}
use Rattle.suit_commands.specs.declared.fault.SequenceFault.TheVariants.{NoMemory}
use Rattle.item_codec.specs.Answers.{and_then, Answers}
use Rattle.suit_envelope.specs.Plans.{indexed, first_of, index_by, strange_index, first_strange}
use Rattle.suit_envelope.proofs.Each.{one_at}

mapped_twice : (count : ℕ) (sequences : List Sequence) → map (first_of {A = ℕ}) (map (λ (s : Sequence). map (strange_index count) s) sequences) ≡ map (first_strange count) sequences
mapped_twice count [] = refl
mapped_twice count (s ∷ ss) = ap (λ (os : List (Option ℕ)). first_strange count s ∷ os) (mapped_twice count ss)

-- the first index of alternatives is the first of those of the sequences
pub tries : (count : ℕ) (sequences : List Sequence) (null_last : Bool) → strange_index count (c.TryEach sequences null_last) ≡ first_of (map (first_strange count) sequences)
tries count sequences null_last =
    ap (strange_index count) (sym (c.rolls-TryEach sequences null_last)) ∙ fold-roll-Command (Option ℕ) (index_by count) (Command-F.TryEach sequences null_last) ∙ ap (first_of {A = ℕ}) (mapped_twice count sequences)

module _ (count : ℕ) (command : Command) (sequences xs : List Sequence) (null_last : Bool) (k : ℕ) (is : command ≡ c.TryEach sequences null_last) (same : xs ≡ sequences)
    (so_far : first_of (map (first_strange count) (drop k xs)) ≡ first_of (map (first_strange count) xs)) where
  rest_is : first_of (map (first_strange count) (drop k xs)) ≡ strange_index count command
  rest_is = so_far ∙ ap (λ (ss : List Sequence). first_of (map (first_strange count) ss)) same ∙ sym (tries count sequences null_last) ∙ ap (strange_index count) (sym is)

  -- a sequence that has one
  pub found_in : (s d : Sequence) (n : ℕ) → k < length xs → s ≡ get_or xs k d → first_strange count s ≡ Some n → Some n ≡ strange_index count command
  found_in s d n lt at has =
      ap (λ (o : Option ℕ). option_or o (first_of (map (first_strange count) (drop (k + 1) xs)))) (sym has)
      ∙ ap (λ (ss : List Sequence). first_of (map (first_strange count) ss)) (sym (one_at xs k s d lt at)) ∙ rest_is

  -- none is left
  pub none_in : length xs ≤ k → None ≡ strange_index count command
  none_in le = ap (λ (ss : List Sequence). first_of (map (first_strange count) ss)) (sym (drop_all k xs le)) ∙ rest_is

-- ---- a sequence with its indices

exactly : (view r : Result Sequence SequenceFault) → view ≡ r → Answers NoMemory view r
exactly view (Ok s) is = is
exactly view (Err e) is = inl is

pub indexed_answers : (view r : Result Sequence SequenceFault) (s : Sequence) (n count : ℕ) → view ≡ Ok s → count ≡ n → r ≡ indexed count s → Answers NoMemory (and_then (indexed n) view) r
indexed_answers view r s n count at same is = exactly (and_then (indexed n) view) r (ap (and_then (indexed n)) at ∙ ap (λ (k : ℕ). indexed k s) (sym same) ∙ sym is)
