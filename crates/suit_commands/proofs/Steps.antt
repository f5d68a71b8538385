-- A level of sequences, as it is read and as it is written.
use Rattle.std.proofs.Common.{◌≡◌, ◌⊎◌, ℕ, zero, suc, ◌-◌, ◌<◌, ◌≤◌, List, sym, ap, subst, ◌∙◌, inl, inr, arith}
use Rattle.std.specs.Prelude.{Result, Ok, Err, IfOk}
use Rattle.base_types.specs.Bytes.{IsBytes}
use Rattle.base_types.specs.declared.memory.NoMemory.{NoMemory as WantOfMemory}
use Rattle.cbor_core.specs.declared.item.Item.{Item}
use Rattle.cbor_core.specs.declared.item.Item.TheVariants as i
use Rattle.cbor_core.specs.Law.{IsFaultyWhole}
use Rattle.cbor_core.specs.Spelling.{Spells, IsProper}
use Rattle.cbor_heads.specs.declared.fault.Fault.{Fault}
use Rattle.item_codec.specs.Answers.{and_then, Answers, IsAnswer}
use Rattle.item_codec.specs.Wrapped.{wrap}
use Rattle.suit_commands.specs.declared.fault.SequenceFault.{SequenceFault}
use Rattle.suit_commands.specs.declared.fault.SequenceFault.TheVariants.{Cbor, Nesting, NoMemory}
use Rattle.item_codec.specs.InBytes.{in_bytes}
use Rattle.suit_commands.specs.Sequences.{Sequence, SequenceIs, sequence_by, sequence_in}
use Rattle.suit_commands.specs.Written.{members, written_in}
use Rattle.suit_commands.specs.Proper.{AreProperCommands, IsProperIn, IsProperSequence}
use Rattle.suit_commands.proofs.Fields.{memory_outside}
use Rattle.item_codec.proofs.Public.InBytes.{item_is, fault_is}
use Rattle.suit_commands.proofs.Levels.{none_left, one_more, level}

-- ---- what an answer tells

module _ {V E : Type 0} (none : E) (view : Result V E) where
  pub found : (r : Result V E) → Answers none view r → IfOk r (λ v. view ≡ Ok v)
  found (Ok v) is = is
  found (Err e) is = tt

  pub only : (r given : Result V E) → Answers none view r → view ≡ given → IsAnswer none r given
  only (Ok v) given is at = inl (sym is ∙ at)
  only (Err e) given (inl is) at = inl (sym is ∙ at)
  only (Err e) given (inr memory) at = inr (ap (λ (f : E). Err f) memory)

  pub bad : (r : Result V E) → Answers none view r → (e : E) → r ≡ Err e → (e ≡ none) ⊎ (view ≡ Err e)
  bad (Ok v) is e at = absurd cc
  bad (Err f) (inl is) e at = inr (is ∙ at)
  bad (Err f) (inr memory) e at = let same : f ≡ e = cc in inl (sym same ∙ memory)

-- ---- what is read

level_is : (levels : ℕ) → 0 < levels → (bytes : List ℕ) → sequence_in levels bytes ≡ in_bytes (λ f. Cbor f) (sequence_by (sequence_in (levels - 1))) bytes
level_is zero lt bytes = absurd (omega arith)
level_is (suc n) lt bytes = let e : suc n - 1 ≡ n = omega arith in rw e (one_more n bytes)

pub no_level_left : (levels : ℕ) (bytes : List ℕ) → levels ≡ 0 → sequence_in levels bytes ≡ Err Nesting
no_level_left levels bytes e = ap (λ (n : ℕ). sequence_in n bytes) e ∙ none_left bytes

-- what is answered of the item that bytes spell is answered of the bytes
pub bytes_answer : (levels : ℕ) (bytes : List ℕ) (x : Item) (r : Result Sequence SequenceFault) → 0 < levels → Spells x bytes → Answers NoMemory (sequence_by (sequence_in (levels - 1)) x) r
    → Answers NoMemory (sequence_in levels bytes) r
bytes_answer levels bytes x r lt s answers =
    let is : sequence_in levels bytes ≡ sequence_by (sequence_in (levels - 1)) x =
    level_is levels lt bytes ∙ ap (and_then (sequence_by (sequence_in (levels - 1)))) (item_is (λ (f : Fault). Cbor f) bytes x s) in
    subst (λ (view : Result Sequence SequenceFault). Answers NoMemory view r) (sym is) answers

pub bytes_fault : (levels : ℕ) (bytes : List ℕ) (f : Fault) → 0 < levels → IsFaultyWhole bytes f → sequence_in levels bytes ≡ Err (Cbor f)
bytes_fault levels bytes f lt faulty = level_is levels lt bytes ∙ ap (and_then (sequence_by (sequence_in (levels - 1)))) (fault_is (λ (f : Fault). Cbor f) bytes f faulty)

-- ---- what is written

pub some_level : (levels : ℕ) (s : Sequence) → IsProperIn levels s → 1 ≤ levels
unfolding IsProperIn
some_level zero s is = absurd is
some_level (suc n) s is = omega arith

pub commands_proper : (levels : ℕ) (s : Sequence) → IsProperIn levels s → AreProperCommands (IsProperIn (levels - 1)) s
unfolding IsProperIn
commands_proper zero s is = absurd is
commands_proper (suc n) s is = let e : n ≡ suc n - 1 = omega arith in subst (λ (k : ℕ). AreProperCommands (IsProperIn k) s) e is.0

pub written_is : (levels : ℕ) (s : Sequence) → IsProperIn levels s → i.Array (members (wrap (written_in (levels - 1))) s) ≡ written_in levels s
unfolding IsProperIn written_in
written_is zero s is = absurd is
written_is (suc n) s is = let e : suc n - 1 ≡ n = omega arith in ap (λ (k : ℕ). i.Array (members (wrap (written_in k)) s)) e

pub item_proper : (levels : ℕ) (s : Sequence) → IsProperIn levels s → IsProper (written_in levels s)
unfolding IsProperIn
item_proper zero s is = absurd is
item_proper (suc n) s is = is.1.proper

pub writes : (s : Sequence) → IsProperSequence s → (r : Result (List ℕ) WantOfMemory) → IfOk r (λ bytes. Spells (written_in 9 s) bytes) → IfOk r (λ bytes. SequenceIs s bytes)
writes s is (Ok bytes) spelled = subst (λ (b : List ℕ). SequenceIs s b) (sym spelled.spelled) ((level NoMemory memory_outside 9).seen s is)
writes s is (Err e) spelled = tt

pub writes_one : (s : Sequence) → (r : Result (List ℕ) WantOfMemory) → IfOk r (λ bytes. Spells (written_in 9 s) bytes)
    → IfOk r (λ bytes. (other : List ℕ) → IsBytes other → SequenceIs s other → other ≡ bytes)
writes_one s (Ok bytes) spelled = λ other are is. (level NoMemory memory_outside 9).fixes other s are is ∙ sym spelled.spelled
writes_one s (Err e) spelled = tt
