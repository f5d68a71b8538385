-- Which sequence bytes are, how bytes that are none are refused, and which sequences may be written.
use Rattle.std.proofs.Common.{◌≡◌, refl, sym, ◌∙◌}
use Rattle.std.specs.Prelude.{Result, Ok, Err}
use Rattle.item_codec.specs.Answers.{IsSettled}
use Rattle.suit_commands.specs.declared.fault.SequenceFault.{SequenceFault}
use Rattle.suit_commands.specs.declared.fault.SequenceFault.TheVariants.{Cbor, Index, NoMemory}
use Rattle.suit_commands.specs.Sequences.{Sequence, sequence_in, sequence_by}
use Rattle.suit_commands.specs.Law.{ByBytes, ExactlyOne, OneSpelling, SequencesAreProper, ProperAreSpelled}
use Rattle.suit_commands.proofs.Fields.{memory_outside, index_outside}
use Rattle.item_codec.proofs.Public.InBytes.{given_is, is_given}
use Rattle.suit_commands.proofs.Levels.{none_left, one_more, level}

pub by_bytes : ByBytes
by_bytes = record {
  level = λ levels bytes are r. (
    λ e. is_given (λ f. Cbor f) (sequence_by (sequence_in levels)) bytes are r (sym (one_more levels bytes) ∙ e),
    λ given. one_more levels bytes ∙ given_is (λ f. Cbor f) (sequence_by (sequence_in levels)) bytes r given,
  );
  none_left = none_left;
}

not_settled : (none : SequenceFault) (r : Result Sequence SequenceFault) → IsSettled none r → r ≡ Err none → ⊥
not_settled none (Ok s) settled e = cc
not_settled none (Err f) settled e = let same : f ≡ none = cc in settled same

pub exactly_one : ExactlyOne
exactly_one bytes = record {
  answer = sequence_in 9 bytes;
  given = refl;
  alone = λ other e. sym e;
  settled = not_settled NoMemory (sequence_in 9 bytes) ((level NoMemory memory_outside 9).settled bytes);
  no_index = λ n. not_settled (Index n) (sequence_in 9 bytes) ((level (Index n) (index_outside n) 9).settled bytes);
}

-- a sequence is one list of bytes at most
pub one_spelling : OneSpelling
one_spelling s a b are_a are_b is other = (level NoMemory memory_outside 9).fixes a s are_a is ∙ sym ((level NoMemory memory_outside 9).fixes b s are_b other)

-- a sequence that some bytes are is proper
pub sequences_are_proper : SequencesAreProper
sequences_are_proper s bytes are is = ((level NoMemory memory_outside 9).proper bytes s are is, (level NoMemory memory_outside 9).fixes bytes s are is)

-- a proper sequence is what it is written as
pub proper_are_spelled : ProperAreSpelled
proper_are_spelled s is = (level NoMemory memory_outside 9).seen s is
