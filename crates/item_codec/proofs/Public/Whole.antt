-- Bytes give exactly one answer; and which bytes are which value, by the record of a codec.
use Rattle.std.proofs.Common.{◌≡◌, ◌⊎◌, ℕ, List, refl, sym, ap, subst, ◌∙◌, inl, inr}
use Rattle.std.specs.Prelude.{Result, Ok, Err, IfOk}
use Rattle.base_types.specs.declared.memory.NoMemory.{NoMemory}
use Rattle.cbor_core.specs.declared.item.Item.{Item}
use Rattle.cbor_heads.specs.declared.fault.Fault.{Fault}
use Rattle.cbor_core.specs.Spelling.{Spells, spelling, IsProper, HasRanges}
use Rattle.base_types.specs.Bytes.{IsBytes}
use Rattle.cbor_core.specs.Law.{IsFaultyWhole}
use Rattle.cbor_core.proofs.Public.ExactlyOne.{exactly_one_whole}
use Rattle.cbor_core.proofs.Public.Whole.{no_fault}
use Rattle.cbor_fields.specs.Written.{IsSpelled}
use Rattle.item_codec.specs.Answers.{Answers, IsAnswer, IsSettled}
use Rattle.item_codec.specs.Part.{Part}
use Rattle.item_codec.specs.Whole.{HasValue, HasRefusal, BytesGive, BytesAnswer, OneAnswer, IsWrittenAs}
use Rattle.item_codec.proofs.Public.Decoded.{one_item}

-- ---- one value at most, and none beside a refusal

module _ {V E : Type 0} (view : Item → Result V E) (bytes : List ℕ) where
  pub one_value : (v w : V) → HasValue view bytes v → HasValue view bytes w → v ≡ w
  one_value v w is other =
      let both : Ok v ≡ Ok w = sym is.is ∙ ap view (one_item bytes is.item other.item is.spelled other.spelled) ∙ other.is in
      cc

  pub not_both : (cbor : Fault → E) (v : V) (e : E) → HasValue view bytes v → HasRefusal cbor view bytes e → ⊥
  not_both cbor v e is (inl none) = no_fault bytes is.item none.fault is.spelled none.faulty
  not_both cbor v e is (inr misfit) =
      let both : Ok v ≡ Err e = sym is.is ∙ ap view (one_item bytes is.item misfit.item is.spelled misfit.spelled) ∙ misfit.is in
      cc

-- ---- exactly one answer

module _ {V E : Type 0} (none : E) (cbor : Fault → E) (told : (f : Fault) → cbor f ≡ none → ⊥) (view : Item → Result V E) (settled : (x : Item) → IsSettled none (view x)) (bytes : List ℕ) where
  by_value : (x : Item) → Spells x bytes → (r : Result V E) → view x ≡ r → BytesGive cbor view bytes r
  by_value x s (Ok v) is = record { item = x; spelled = s; is = is }
  by_value x s (Err e) is = inr (record { item = x; spelled = s; is = is })

  same_item : (x y : Item) (r : Result V E) → Spells x bytes → Spells y bytes → view y ≡ r → r ≡ view x
  same_item x y r s t is = sym is ∙ ap view (one_item bytes y x t s)

  alone_item : (x : Item) → Spells x bytes → (other : Result V E) → BytesGive cbor view bytes other → other ≡ view x
  alone_item x s (Ok v) is = same_item x is.item (Ok v) s is.spelled is.is
  alone_item x s (Err e) (inl no_item) = absurd (no_fault bytes x no_item.fault s no_item.faulty)
  alone_item x s (Err e) (inr misfit) = same_item x misfit.item (Err e) s misfit.spelled misfit.is

  answered : (x : Item) → Spells x bytes → OneAnswer none cbor view bytes
  answered x s = record { answer = view x; given = by_value x s (view x) refl; alone = alone_item x s; settled = settled x }

  alone_fault : (f : Fault) → ((x : Item) → Spells x bytes → ⊥) → ((g : Fault) → IsFaultyWhole bytes g → g ≡ f) → (other : Result V E) → BytesGive cbor view bytes other → other ≡ Err (cbor f)
  alone_fault f no_item same (Ok v) is = absurd (no_item is.item is.spelled)
  alone_fault f no_item same (Err e) (inl none) = ap (λ (d : E). Err d) (none.is ∙ ap cbor (same none.fault none.faulty))
  alone_fault f no_item same (Err e) (inr misfit) = absurd (no_item misfit.item misfit.spelled)

  refused : (f : Fault) → IsFaultyWhole bytes f → ((x : Item) → Spells x bytes → ⊥) → ((g : Fault) → IsFaultyWhole bytes g → g ≡ f) → OneAnswer none cbor view bytes
  refused f faulty no_item same = record { answer = Err (cbor f); given = inl (record { fault = f; faulty = faulty; is = refl }); alone = alone_fault f no_item same; settled = told f }

  pub one_answer : IsBytes bytes → OneAnswer none cbor view bytes
  one_answer are = elim (exactly_one_whole bytes are) [ inl one ↦ answered one.item one.spelled | inr one ↦ refused one.first one.faulty one.no_item one.alone ]

-- ---- what a reader of bytes answers

-- what is answered of the item that bytes spell is answered of the bytes
pub item_answers : {V E : Type 0} (none : E) (cbor : Fault → E) (view : Item → Result V E) (bytes : List ℕ) (x : Item) (r : Result V E) → Spells x bytes → Answers none (view x) r
    → BytesAnswer none cbor view bytes r
item_answers none cbor view bytes x (Ok v) s is = record { item = x; spelled = s; is = is }
item_answers none cbor view bytes x (Err e) s (inl is) = inr (inr (record { item = x; spelled = s; is = is }))
item_answers none cbor view bytes x (Err e) s (inr memory) = inl memory

module _ {V E : Type 0} (none : E) (cbor : Fault → E) (view : Item → Result V E) (bytes : List ℕ) (r : Result V E) (answers : BytesAnswer none cbor view bytes r) where
  -- the value that is answered is the bytes'
  pub found : IfOk r (λ v. HasValue view bytes v)
  found = by_case r answers where
    by_case : (r : Result V E) → BytesAnswer none cbor view bytes r → IfOk r (λ v. HasValue view bytes v)
    by_case (Ok v) is = is
    by_case (Err e) is = tt

  -- a refusal but that of memory is the bytes'
  pub bad : (e : E) → r ≡ Err e → (e ≡ none) ⊎ HasRefusal cbor view bytes e
  bad e is = subst (λ (q : Result V E). BytesAnswer none cbor view bytes q) is answers

  -- what the bytes give is answered, unless memory runs out
  pub only : OneAnswer none cbor view bytes → (given : Result V E) → BytesGive cbor view bytes given → IsAnswer none r given
  only one given is = by_case r answers where
    by_case : (q : Result V E) → BytesAnswer none cbor view bytes q → IsAnswer none q given
    by_case (Ok v) value = inl (one.alone (Ok v) value ∙ sym (one.alone given is))
    by_case (Err e) (inl memory) = inr (ap (λ (f : E). Err f) memory)
    by_case (Err e) (inr refusal) = inl (one.alone (Err e) refusal ∙ sym (one.alone given is))

-- ---- which bytes are a value

module _ {V E : Type 0} {none : E} {view : Item → Result V E} {item : V → Item} {P : V → Type 0} (part : Part none view item P) where
  respelled : (x : Item) (bytes : List ℕ) → Spells x bytes → IsSpelled x
  respelled x bytes s = record { proper = s.proper; ranges = s.ranges; spelled = refl }

  item_of : (bytes : List ℕ) (v : V) (is : HasValue view bytes v) → is.item ≡ item v
  item_of bytes v is = part.fixes is.item v (respelled is.item bytes is.spelled) is.is

  -- a value is one list of bytes at most
  pub one_spelling : (v : V) (a b : List ℕ) → HasValue view a v → HasValue view b v → a ≡ b
  one_spelling v a b is other = is.spelled.spelled ∙ ap spelling (item_of a v is ∙ sym (item_of b v other)) ∙ sym other.spelled.spelled

  -- bytes that are a value are what it is written as, and it has its property
  pub value_written : (v : V) (bytes : List ℕ) → HasValue view bytes v → IsWrittenAs item P bytes v
  value_written v bytes is =
      let same : is.item ≡ item v = item_of bytes v is in
      record {
        fields = part.proper is.item v (respelled is.item bytes is.spelled) is.is;
        item_proper = subst IsProper same is.spelled.proper;
        in_range = subst HasRanges same is.spelled.ranges;
        spelled = is.spelled.spelled ∙ ap spelling same;
      }

  -- no other bytes are the value that a writer wrote
  pub writes_one : (v : V) (r : Result (List ℕ) NoMemory) → IfOk r (λ bytes. HasValue view bytes v) → IfOk r (λ bytes. (other : List ℕ) → HasValue view other v → other ≡ bytes)
  writes_one v (Ok bytes) is = λ other is_other. one_spelling v other bytes is_other is
  writes_one v (Err e) is = tt

-- what is written of a value that is read again is the value
module _ {V E : Type 0} (view : Item → Result V E) (item : V → Item) (v : V) (seen : view (item v) ≡ Ok v) where
  pub written_value : (bytes : List ℕ) → Spells (item v) bytes → HasValue view bytes v
  written_value bytes s = record { item = item v; spelled = s; is = seen }

  -- a writer gives bytes that are the value
  pub writes : (x : Item) → x ≡ item v → (r : Result (List ℕ) NoMemory) → IfOk r (λ bytes. Spells x bytes) → IfOk r (λ bytes. HasValue view bytes v)
  writes x same (Ok bytes) s = written_value bytes (subst (λ (y : Item). Spells y bytes) same s)
  writes x same (Err e) s = tt
