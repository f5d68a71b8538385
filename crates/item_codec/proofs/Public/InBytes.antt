-- What bytes as a whole give, by the item that they spell; and what byte strings wrap.
use Rattle.std.proofs.Common.{◌≡◌, ℕ, List, [], ◌∷◌, length, drop, Option, Some, None, refl, sym, ap, subst, ◌∙◌, inl, inr, arith}
use Rattle.std.specs.Prelude.{Result, Ok, Err}
use Rattle.std.proofs.lemmas.List.{drop_all, drop_more}
use Rattle.base_types.specs.Bytes.{IsBytes}
use Rattle.cbor_core.specs.declared.item.Item.{Item, out-Item}
use Rattle.cbor_core.specs.declared.item.Item.TheOpen.{Item-F}
use Rattle.cbor_core.specs.declared.item.Item.TheVariants as i
use Rattle.cbor_core.specs.declared.item.Pair.{Pair}
use Rattle.cbor_heads.specs.declared.fault.Fault.{Fault}
use Rattle.cbor_heads.specs.declared.fault.Why.{Why}
use Rattle.cbor_heads.specs.declared.fault.Why.TheVariants as why
use Rattle.cbor_heads.specs.Reading.{Outcome}
use Rattle.cbor_heads.specs.Place.{start}
use Rattle.cbor_core.specs.Reading.{item_at}
use Rattle.cbor_core.specs.Law.{IsFaultyWhole}
use Rattle.cbor_core.specs.Spelling.{spelling, Spells, HasRanges}
use Rattle.cbor_core.specs.Views.{bytes_of}
use Rattle.cbor_core.proofs.Public.Views.{bytes_is}
use Rattle.cbor_core.proofs.Public.ExactlyOne.{exactly_one_whole}
use Rattle.cbor_core.proofs.Public.Ranges.{bytes_in_range}
use Rattle.cbor_core.proofs.Public.Whole.{reads, reads_whole, refuses}
use Rattle.cbor_fields.specs.Written.{IsSpelled}
use Rattle.item_codec.specs.Answers.{and_then, or_fault, IsSettled}
use Rattle.item_codec.specs.Part.{Part}
use Rattle.item_codec.specs.Whole.{BytesGive}
use Rattle.item_codec.specs.Wrapped.{wrap, IsWrappable}
use Rattle.item_codec.proofs.Public.Settled.{fault_settled, then_settled}
use Rattle.item_codec.proofs.Public.Whole.{value_written}
use Rattle.item_codec.specs.InBytes.{ended, read_to_end, item_or_fault, in_bytes}

-- ---- the item or the fault

module _ {E : Type 0} (cbor : Fault → E) where
  at_end : (x : Item) (at : ℕ) (bytes : List ℕ) → bytes ≡ [] → ended cbor x at bytes ≡ Ok x
  at_end x at [] e = refl
  at_end x at (byte ∷ bytes) e = absurd cc

  -- the item that bytes spell
  pub item_is : (bytes : List ℕ) (x : Item) → Spells x bytes → item_or_fault cbor bytes ≡ Ok x
  unfolding item_or_fault
  item_is bytes x s = ap (read_to_end cbor) (reads_whole bytes x s) ∙ at_end x (length bytes) (drop (length bytes) bytes) (drop_all (length bytes) bytes (omega arith))

  abbrev failed : Fault → Result Item E
  failed f = Err (cbor f)

  extra_is : (f : Fault) → f.why ≡ why.Extra → failed (record { at = f.at; why = why.Extra }) ≡ failed f
  extra_is f is = ap (λ (w : Why). failed (record { at = f.at; why = w })) (sym is)

  -- the fault of bytes that spell none
  pub fault_is : (bytes : List ℕ) (f : Fault) → IsFaultyWhole bytes f → item_or_fault cbor bytes ≡ Err (cbor f)
  unfolding item_or_fault
  fault_is bytes f (inl faulty) = ap (read_to_end cbor) (refuses bytes f faulty)
  fault_is bytes f (inr extra) =
      ap (read_to_end cbor) (reads bytes extra.item f.at extra.front.0 extra.front.1)
      ∙ ap (ended cbor extra.item f.at) (drop_more bytes f.at 0 extra.more) ∙ extra_is f extra.why

  item_settled : (none : E) → ((f : Fault) → cbor f ≡ none → ⊥) → (bytes : List ℕ) → IsSettled none (item_or_fault cbor bytes)
  unfolding item_or_fault
  item_settled none told bytes = by_outcome (item_at 16 (start bytes)) where
    by_rest : (x : Item) (at : ℕ) (rest : List ℕ) → IsSettled none (ended cbor x at rest)
    by_rest x at [] = tt
    by_rest x at (byte ∷ rest) = told (record { at = at; why = why.Extra })

    by_outcome : (o : Outcome Fault Item) → IsSettled none (read_to_end cbor o)
    by_outcome (Ok x) = by_rest x.0 x.1.at x.1.rest
    by_outcome (Err f) = told f

-- ---- the value

module _ {V E : Type 0} (cbor : Fault → E) (view : Item → Result V E) (bytes : List ℕ) where
  -- the bytes' answer by the relations is what is computed
  pub given_is : (r : Result V E) → BytesGive cbor view bytes r → in_bytes cbor view bytes ≡ r
  given_is (Ok v) is = ap (and_then view) (item_is cbor bytes is.item is.spelled) ∙ is.is
  given_is (Err e) (inl none) = ap (and_then view) (fault_is cbor bytes none.fault none.faulty) ∙ ap (λ (d : E). Err d) (sym none.is)
  given_is (Err e) (inr misfit) = ap (and_then view) (item_is cbor bytes misfit.item misfit.spelled) ∙ misfit.is

  by_item : (x : Item) → Spells x bytes → (r : Result V E) → in_bytes cbor view bytes ≡ r → BytesGive cbor view bytes r
  by_item x s (Ok v) is = record { item = x; spelled = s; is = sym (ap (and_then view) (item_is cbor bytes x s)) ∙ is }
  by_item x s (Err e) is = inr (record { item = x; spelled = s; is = sym (ap (and_then view) (item_is cbor bytes x s)) ∙ is })

  by_fault : (f : Fault) → IsFaultyWhole bytes f → (r : Result V E) → in_bytes cbor view bytes ≡ r → BytesGive cbor view bytes r
  by_fault f faulty (Ok v) is = absurd (let both : Err (cbor f) ≡ Ok v = sym (ap (and_then view) (fault_is cbor bytes f faulty)) ∙ is in cc)
  by_fault f faulty (Err e) is =
      let both : Err (cbor f) ≡ Err e = sym (ap (and_then view) (fault_is cbor bytes f faulty)) ∙ is in
      inl (record { fault = f; faulty = faulty; is = cc })

  -- and the other way round
  pub is_given : IsBytes bytes → (r : Result V E) → in_bytes cbor view bytes ≡ r → BytesGive cbor view bytes r
  is_given are r is = elim (exactly_one_whole bytes are) [ inl one ↦ by_item one.item one.spelled r is | inr one ↦ by_fault one.first one.faulty r is ]

-- ---- laws of bytes

-- What a reader of bytes keeps, with the item that a value is written as, and the property that values have.
pub record BytesPart {V E : Type 0} (none : E) (read : List ℕ → Result V E) (item : V → Item) (P : V → Type 0) : Type 0 where
  pub settled : (bytes : List ℕ) → IsSettled none (read bytes)
  pub fixes : (bytes : List ℕ) (v : V) → IsBytes bytes → read bytes ≡ Ok v → bytes ≡ spelling (item v)
  pub proper : (bytes : List ℕ) (v : V) → IsBytes bytes → read bytes ≡ Ok v → P v
  pub seen : (v : V) → P v → read (spelling (item v)) ≡ Ok v

-- the bytes of items that are such parts
module _ {V E : Type 0} {none : E} {view : Item → Result V E} {item : V → Item} {P : V → Type 0} (part : Part none view item P) (cbor : Fault → E) (told : (f : Fault) → cbor f ≡ none → ⊥) where
  pub bytes_part : BytesPart none (in_bytes cbor view) item (IsWrappable item P)
  bytes_part = record {
    settled = λ bytes. then_settled none view (item_or_fault cbor bytes) (item_settled cbor none told bytes) part.settled;
    fixes = λ bytes v are e. (let w = value_written part v bytes (is_given cbor view bytes are (Ok v) e) in w.spelled);
    proper = λ bytes v are e.
        (let w = value_written part v bytes (is_given cbor view bytes are (Ok v) e) in
        (w.fields, record { proper = w.item_proper; ranges = w.in_range; spelled = refl }));
    seen = λ v is. ap (and_then view) (item_is cbor (spelling (item v)) (item v) is.1) ∙ part.seen v is.0;
  }

-- ---- byte strings that wrap

module _ {V E : Type 0} {none : E} {read : List ℕ → Result V E} {item : V → Item} {P : V → Type 0} (part : BytesPart none read item P) (shape : E) (told : shape ≡ none → ⊥) where
  by_bytes : (x : Item) (v : V) → IsSpelled x → (o : Option (List ℕ)) → bytes_of x ≡ o → and_then read (or_fault shape o) ≡ Ok v → x ≡ wrap item v
  by_bytes x v s None at e = absurd cc
  by_bytes x v s (Some bytes) at e = bytes_is x bytes at ∙ ap (λ (t : List ℕ). i.Bytes t) (part.fixes bytes v (bytes_in_range bytes (subst HasRanges (bytes_is x bytes at) s.ranges)) e)

  proper_bytes : (x : Item) (v : V) → IsSpelled x → (o : Option (List ℕ)) → bytes_of x ≡ o → and_then read (or_fault shape o) ≡ Ok v → P v
  proper_bytes x v s None at e = absurd cc
  proper_bytes x v s (Some bytes) at e = part.proper bytes v (bytes_in_range bytes (subst HasRanges (bytes_is x bytes at) s.ranges)) e

  pub wrapping_part : Part none (λ x. and_then read (or_fault shape (bytes_of x))) (wrap item) P
  wrapping_part = record {
    settled = λ x. then_settled none read (or_fault shape (bytes_of x)) (fault_settled none shape told (bytes_of x)) part.settled;
    fixes = λ x v s e. by_bytes x v s (bytes_of x) refl e;
    proper = λ x v s e. proper_bytes x v s (bytes_of x) refl e;
    seen = λ v is. rw i.outs-Bytes (part.seen v is);
  }
