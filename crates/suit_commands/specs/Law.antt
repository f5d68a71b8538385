-- What holds of digests, parameters and sequences.
use Rattle.std.specs.Prelude.{ℕ, suc, ◌≡◌, ◌↔◌, List, [], Result, Err}
use Rattle.base_types.specs.Bytes.{IsBytes}
use Rattle.cbor_core.specs.declared.item.Pair.{Pair}
use Rattle.cbor_core.specs.Spelling.{spelling, KeysAscend}
use Rattle.item_codec.specs.InOrder.{refusal, judge, first_refused}
use Rattle.item_codec.specs.Part.{Part, Exact}
use Rattle.item_codec.specs.Whole.{BytesGive}
use Rattle.item_codec.specs.Wrapped.{wrap}
use Rattle.suit_commands.specs.declared.fault.SequenceFault.{SequenceFault}
use Rattle.suit_commands.specs.declared.fault.SequenceFault.TheVariants.{Cbor, Nesting, Index, NoMemory}
use Rattle.suit_commands.specs.Digests.{digest_of, wrapped_digest_of, digest_item, IsProperDigest, IsWrappableDigest}
use Rattle.suit_commands.specs.Parameters.{unknown, parameters_in, parameters_of, table, parameters_item, AreProper}
use Rattle.suit_commands.specs.Sequences.{Sequence, sequence_in, sequence_by, SequenceIs}
use Rattle.suit_commands.specs.Written.{written_in}
use Rattle.suit_commands.specs.Proper.{IsProperSequence}

-- a digest alone and a digest that is wrapped: one item at most is it, and what is written is read as it
pub record DigestsAreCodec : Type 0 where
  pub alone : Exact digest_of digest_item IsProperDigest
  pub wrapped : Exact wrapped_digest_of (wrap digest_item) IsWrappableDigest

-- the same of parameters, which have a refusal where they have no value, and none is want of memory
abbrev pub ParametersAreCodec : Type 0
ParametersAreCodec = Part NoMemory parameters_of parameters_item AreProper

-- in a map whose keys ascend, the first refusal is that of the first pair in order
abbrev pub RefusedInOrder : Type 0
RefusedInOrder = (ps : List Pair) → KeysAscend [] ps → refusal (parameters_in ps) ≡ first_refused (judge table unknown) ps

-- what bytes are, by the item that they spell, or the fault by which they spell none
pub record ByBytes : Type 0 where
  pub level : (levels : ℕ) (bytes : List ℕ) → IsBytes bytes → (r : Result Sequence SequenceFault)
      → (sequence_in (suc levels) bytes ≡ r) ↔ BytesGive (λ f. Cbor f) (sequence_by (sequence_in levels)) bytes r
  pub none_left : (bytes : List ℕ) → sequence_in 0 bytes ≡ Err Nesting

-- the one answer of bytes: a sequence, or a refusal that is neither want of memory nor said of an index
pub record OneReading (bytes : List ℕ) : Type 0 where
  pub answer : Result Sequence SequenceFault
  pub given : sequence_in 9 bytes ≡ answer
  pub alone : (other : Result Sequence SequenceFault) → sequence_in 9 bytes ≡ other → other ≡ answer
  pub settled : answer ≡ Err NoMemory → ⊥
  pub no_index : (n : ℕ) → answer ≡ Err (Index n) → ⊥

-- bytes are exactly one sequence, or have exactly one refusal, and never both
abbrev pub ExactlyOne : Type 0
ExactlyOne = (bytes : List ℕ) → OneReading bytes

-- a sequence is one list of bytes at most
abbrev pub OneSpelling : Type 0
OneSpelling = (sequence : Sequence) (a b : List ℕ) → IsBytes a → IsBytes b → SequenceIs sequence a → SequenceIs sequence b → a ≡ b

-- a sequence that some bytes are is proper, and the bytes are the spelling of its item
abbrev pub SequencesAreProper : Type 0
SequencesAreProper = (sequence : Sequence) (bytes : List ℕ) → IsBytes bytes → SequenceIs sequence bytes
    → IsProperSequence sequence × (bytes ≡ spelling (written_in 9 sequence))

-- the spelling of the item of a proper sequence is the sequence
abbrev pub ProperAreSpelled : Type 0
ProperAreSpelled = (sequence : Sequence) → IsProperSequence sequence → SequenceIs sequence (spelling (written_in 9 sequence))
