-- A manifest has exactly one plan or refusal.
use Rattle.std.proofs.Common.{◌≡◌, ℕ, List, length, Option, Some, None, refl, sym, ap, ◌∙◌}
use Rattle.std.specs.Prelude.{Result, Ok, Err}
use Rattle.cbor_core.specs.declared.item.Item.{Item}
use Rattle.cbor_core.specs.Views.{bytes_of, field}
use Rattle.item_codec.specs.Answers.{or_fault, IsSettled}
use Rattle.item_codec.proofs.Public.Settled.{fault_settled, then_settled}
use Rattle.suit_commands.specs.declared.fault.SequenceFault.{SequenceFault}
use Rattle.suit_commands.specs.declared.fault.SequenceFault.TheVariants.{Shape, NoMemory}
use Rattle.suit_commands.specs.Sequences.{Sequence, sequence_in}
use Rattle.suit_commands.proofs.Public.Sequences.{exactly_one}
use Rattle.suit_envelope.specs.declared.manifest.Manifest.{Manifest}
use Rattle.suit_envelope.specs.declared.plan.Plan.{Plan}
use Rattle.suit_envelope.specs.Law.{OnePlan}
use Rattle.suit_envelope.specs.Plans.{first_strange, unless_strange, indexed, shared_sequence, member_sequence, with_indices, sequences_of, unless_there, plan_of}

shape : Shape ≡ NoMemory → ⊥
shape e = cc

settled_by : (r : Result Sequence SequenceFault) → (r ≡ Err NoMemory → ⊥) → IsSettled NoMemory r
settled_by (Ok s) other = tt
settled_by (Err e) other = λ is. other (ap (λ (f : SequenceFault). Err f) is)

bytes_settled : (bytes : List ℕ) → IsSettled NoMemory (sequence_in 9 bytes)
bytes_settled bytes = let one = exactly_one bytes in settled_by (sequence_in 9 bytes) (λ e. one.settled (sym one.given ∙ e))

shared_settled : (o : Option (List ℕ)) → IsSettled NoMemory (shared_sequence o)
shared_settled None = tt
shared_settled (Some bytes) = bytes_settled bytes

member_settled : (o : Option Item) → IsSettled NoMemory (member_sequence o)
member_settled None = tt
member_settled (Some x) = then_settled NoMemory (sequence_in 9) (or_fault Shape (bytes_of x)) (fault_settled NoMemory Shape shape (bytes_of x)) bytes_settled

strange_settled : (s : Sequence) (o : Option ℕ) → IsSettled NoMemory (unless_strange s o)
strange_settled s None = tt
strange_settled s (Some n) = λ e. cc

indices_settled : (m : Manifest) (r : Result Sequence SequenceFault) → IsSettled NoMemory r → IsSettled NoMemory (with_indices m r)
indices_settled m r settled = then_settled NoMemory (indexed (length m.components)) r settled (λ s. strange_settled s (first_strange (length m.components) s))

sequences_settled : (m : Manifest) → IsSettled NoMemory (sequences_of m)
sequences_settled m =
    then_settled NoMemory _ (with_indices m (shared_sequence m.shared)) (indices_settled m (shared_sequence m.shared) (shared_settled m.shared)) (λ shared.
    then_settled NoMemory _ (with_indices m (member_sequence (field 16 m.members))) (indices_settled m (member_sequence (field 16 m.members)) (member_settled (field 16 m.members))) (λ fetch.
    then_settled NoMemory _ (with_indices m (member_sequence (field 20 m.members))) (indices_settled m (member_sequence (field 20 m.members)) (member_settled (field 20 m.members))) (λ install.
    then_settled NoMemory _ (with_indices m (member_sequence (field 7 m.members))) (indices_settled m (member_sequence (field 7 m.members)) (member_settled (field 7 m.members))) (λ validate. tt))))

there_settled : (o : Option Item) (r : Result Plan SequenceFault) → IsSettled NoMemory r → IsSettled NoMemory (unless_there o r)
there_settled None r settled = settled
there_settled (Some x) r settled = shape

plan_settled : (m : Manifest) → IsSettled NoMemory (plan_of m)
unfolding plan_of
plan_settled m = there_settled (field 1 m.common_other) (sequences_of m) (sequences_settled m)

not_memory : (r : Result Plan SequenceFault) → IsSettled NoMemory r → r ≡ Err NoMemory → ⊥
not_memory (Ok plan) settled e = cc
not_memory (Err f) settled e = let same : f ≡ NoMemory = cc in settled same

pub one_plan : OnePlan
one_plan m = record { answer = plan_of m; given = refl; alone = λ other e. sym e; settled = not_memory (plan_of m) (plan_settled m) }
