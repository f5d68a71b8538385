-- The plan of a manifest: its sequences, and which component index is none of its components'.
use Rattle.std.specs.Prelude.{ℕ, nat_lt, List, [], ◌∷◌, ◌≡◌, length, map, Option, Some, None, option_and_then, Result, Ok, Err, if◌then◌else◌}
use Rattle.std.specs.Option.{option_or}
use Rattle.cbor_core.specs.declared.item.Item.{Item}
use Rattle.cbor_core.specs.Views.{field}
use Rattle.item_codec.specs.Answers.{and_then}
use Rattle.suit_commands.specs.declared.command.Command.{Command}
use Rattle.suit_commands.specs.declared.command.Command.TheOpen.{Command-F}
use Rattle.suit_commands.specs.declared.command.Command.TheFolds.{fold-Command}
use Rattle.suit_commands.specs.declared.fault.SequenceFault.{SequenceFault}
use Rattle.suit_commands.specs.declared.fault.SequenceFault.TheVariants.{Shape, Index}
use Rattle.suit_commands.specs.Sequences.{Sequence, sequence_in, wrapped_sequence}
use Rattle.suit_envelope.specs.declared.manifest.Manifest.{Manifest}
use Rattle.suit_envelope.specs.declared.plan.Plan.{Plan}

-- ---- indices

-- the first that is there
abbrev pub first_of : {A : Type 0} → List (Option A) → Option A
first_of [] = None
first_of (o ∷ os) = option_or o (first_of os)

-- the index, where it is not below the count of components
abbrev pub beyond : ℕ → ℕ → Option ℕ
beyond count n = if nat_lt n count then None else Some n

-- the first index in a command that is not below the count, by its layer, from those of the commands in it: that of
-- set-component-index, the source component, and those of the sequences in it, in their order
abbrev pub index_by : ℕ → Command-F (Option ℕ) → Option ℕ
index_by count (Command-F.SetIndex n) = beyond count n
index_by count (Command-F.Override v) = option_and_then (beyond count) v.source
index_by count (Command-F.TryEach sequences null_last) = first_of (map first_of sequences)
index_by count (Command-F.RunSequence s) = first_of s
index_by count _ = None

-- the first such index of a command
abbrev pub strange_index : ℕ → Command → Option ℕ
strange_index count = fold-Command (Option ℕ) (index_by count)

-- the first such index of a sequence
abbrev pub first_strange : ℕ → Sequence → Option ℕ
first_strange count s = first_of (map (strange_index count) s)

-- ---- the plan

-- the sequence, where no index is strange
abbrev pub unless_strange : Sequence → Option ℕ → Result Sequence SequenceFault
unless_strange s None = Ok s
unless_strange s (Some n) = Err (Index n)

-- the sequence, where all its indices are below the count of components
abbrev pub indexed : ℕ → Sequence → Result Sequence SequenceFault
indexed count s = unless_strange s (first_strange count s)

-- the shared sequence, and an empty one where there is none
abbrev pub shared_sequence : Option (List ℕ) → Result Sequence SequenceFault
shared_sequence None = Ok []
shared_sequence (Some bytes) = sequence_in 9 bytes

-- the sequence of a member, a byte string, and an empty one where the member is not there
abbrev pub member_sequence : Option Item → Result Sequence SequenceFault
member_sequence None = Ok []
member_sequence (Some x) = wrapped_sequence (sequence_in 9) x

-- a sequence that was read, where all its indices are below the count of the manifest's components
abbrev pub with_indices : Manifest → Result Sequence SequenceFault → Result Sequence SequenceFault
with_indices m sequence = and_then (indexed (length m.components)) sequence

-- a value, and then the others
abbrev pub next : {A B : Type 0} → Result A SequenceFault → (A → Result B SequenceFault) → Result B SequenceFault
next r others = and_then others r

-- the shared sequence, and then those of the members payload-fetch (16), install (20) and validate (7)
abbrev pub sequences_of : Manifest → Result Plan SequenceFault
sequences_of m =
    next (with_indices m (shared_sequence m.shared)) (λ shared.
    next (with_indices m (member_sequence (field 16 m.members))) (λ fetch.
    next (with_indices m (member_sequence (field 20 m.members))) (λ install.
    next (with_indices m (member_sequence (field 7 m.members))) (λ validate.
    Ok (record { shared = shared; fetch = fetch; install = install; validate = validate })))))

-- a common part with dependencies, under the label 1, is refused
abbrev pub unless_there : {A : Type 0} → Option Item → Result A SequenceFault → Result A SequenceFault
unless_there None plan = plan
unless_there (Some x) plan = Err Shape

-- the plan of a manifest, or its first refusal
unfoldable pub plan_of : Manifest → Result Plan SequenceFault
plan_of m = unless_there (field 1 m.common_other) (sequences_of m)

-- the manifest has the plan
abbrev pub PlanIs : Plan → Manifest → Type 0
PlanIs plan manifest = plan_of manifest ≡ Ok plan

-- the manifest has no plan, and this refusal comes first
abbrev pub PlanRefusedAs : Manifest → SequenceFault → Type 0
PlanRefusedAs manifest fault = plan_of manifest ≡ Err fault
