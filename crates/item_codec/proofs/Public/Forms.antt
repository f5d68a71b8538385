-- Forms of one fault as parts, and codecs as forms.
use Rattle.std.proofs.Common.{◌≡◌, ℕ, ◌≤◌, Bool, true, false, cond, List, [], ◌∷◌, length, Option, Some, None, map, refl, ap, subst, ◌∙◌, inl, inr}
use Rattle.std.specs.Prelude.{Result, Ok, Err, IfSome, nat_le, ◌&&◌}
use Rattle.std.specs.List.{AllByRecursion}
use Rattle.std.proofs.lemmas.Bool.{leb-true, le-leb}
use Rattle.cbor_core.specs.declared.item.Item.{Item}
use Rattle.cbor_core.specs.declared.item.Item.TheVariants as i
use Rattle.cbor_core.specs.Spelling.{HasRanges}
use Rattle.cbor_core.specs.Views.{unsigned_of, bytes_of, text_of, truth_of}
use Rattle.cbor_fields.specs.declared.fault.FormFault.{FormFault}
use Rattle.cbor_fields.specs.declared.fault.FormFault.TheVariants.{Shape, NoMemory}
use Rattle.cbor_fields.specs.Reads.{ReadsForm as Reads}
use Rattle.cbor_fields.specs.Views.{list_of}
use Rattle.cbor_fields.proofs.Public.Forms.{unsigned_determines, bytes_determines, text_determines, truth_determines, list_determines}
use Rattle.cbor_core.proofs.Public.Views.{bytes_is}
use Rattle.cbor_core.proofs.Public.Ranges.{bytes_in_range}
use Rattle.cbor_fields.proofs.Public.Values.{list_gives}
use Rattle.cbor_fields.proofs.Public.Placed.{list_seen}
use Rattle.item_codec.specs.Answers.{and_then, or_fault, value_of, Answers, IsSettled}
use Rattle.item_codec.specs.Part.{Any, Part, Exact}
use Rattle.item_codec.specs.Fields.{shaped, within, sized, IsWithin}
use Rattle.item_codec.proofs.Public.Settled.{fault_settled, then_settled}

-- ---- any value

-- a value that may be there
pub any : {V : Type 0} (o : Option V) → IfSome o Any
any None = tt
any (Some v) = tt

pub any_list : {V : Type 0} (vs : List V) → AllByRecursion Any vs
any_list [] = tt
any_list (v ∷ vs) = (tt, any_list vs)

-- a list that may be there
pub any_lists : {V : Type 0} (o : Option (List V)) → IfSome o (AllByRecursion Any)
any_lists None = tt
any_lists (Some vs) = any_list vs

-- ---- forms

pub unsigned_exact : Exact unsigned_of (λ n. i.Unsigned n) Any
unsigned_exact = record { fixes = unsigned_determines; proper = λ _ _ _ _. tt; seen = λ n _. rw i.outs-Unsigned refl }

pub bytes_exact : Exact bytes_of (λ b. i.Bytes b) Any
bytes_exact = record { fixes = bytes_determines; proper = λ _ _ _ _. tt; seen = λ b _. rw i.outs-Bytes refl }

pub text_exact : Exact text_of (λ t. i.Text t) Any
text_exact = record { fixes = text_determines; proper = λ _ _ _ _. tt; seen = λ t _. rw i.outs-Text refl }

pub truth_exact : Exact truth_of (λ b. i.Truth b) Any
truth_exact = record { fixes = truth_determines; proper = λ _ _ _ _. tt; seen = λ b _. rw i.outs-Truth refl }

-- an array of values of a form
pub list_exact : {V : Type 0} {view : Item → Option V} {item : V → Item} {P : V → Type 0} → Exact view item P → Exact (list_of view) (λ vs. i.Array (map item vs)) (AllByRecursion P)
list_exact {V} {view} {item} {P} form = record {
  fixes = list_determines view item form.fixes;
  proper = list_gives view P form.proper;
  seen = λ vs all. list_seen view item vs (each vs all);
} where
  each : (vs : List V) → AllByRecursion P vs → AllByRecursion (λ v. view (item v) ≡ Some v) vs
  each [] all = tt
  each (v ∷ vs) all = (form.seen v all.0, each vs all.1)

-- ---- a form as a part

module _ {V E : Type 0} (none fault : E) (told : fault ≡ none → ⊥) {view : Item → Option V} {item : V → Item} {P : V → Type 0} (form : Exact view item P) where
  is_some : (o : Option V) (v : V) → or_fault fault o ≡ Ok v → o ≡ Some v
  is_some None v e = absurd cc
  is_some (Some w) v e = let same : w ≡ v = cc in ap (λ (u : V). Some u) same

  pub shaped_part : Part none (shaped fault view) item P
  shaped_part = record {
    settled = λ x. fault_settled none fault told (view x);
    fixes = λ x v s e. form.fixes x v s (is_some (view x) v e);
    proper = λ x v s e. form.proper x v s (is_some (view x) v e);
    seen = λ v is. ap (λ (o : Option V). or_fault fault o) (form.seen v is);
  }

-- any item, as itself
pub item_part : {E : Type 0} (none : E) → Part none (λ x. Ok x) (λ x. x) Any
item_part none = record { settled = λ _. tt; fixes = λ x v s e. cc; proper = λ _ _ _ _. tt; seen = λ v _. refl }

-- a byte string of so many bytes
module _ {E : Type 0} (none : E) (least most : ℕ) (shape size : E) (told_shape : shape ≡ none → ⊥) (told_size : size ≡ none → ⊥) where
  by_test : (t : Bool) (b : List ℕ) → IsSettled none (cond t (Ok b) (Err size))
  by_test true b = tt
  by_test false b = told_size

  by_tests : (low high : Bool) (b c : List ℕ) → nat_le least (length b) ≡ low → nat_le (length b) most ≡ high → cond (low && high) (Ok b) (Err size) ≡ Ok c → (b ≡ c) × (least ≤ length b) × (length b ≤ most)
  by_tests true true b c is_low is_high e = (cc, leb-true least (length b) is_low, leb-true (length b) most is_high)
  by_tests true false b c is_low is_high e = absurd cc
  by_tests false high b c is_low is_high e = absurd cc

  by_bytes : (x : Item) (c : List ℕ) (o : Option (List ℕ)) → bytes_of x ≡ o → and_then (within least most size) (or_fault shape o) ≡ Ok c → (x ≡ i.Bytes c) × (least ≤ length c) × (length c ≤ most)
  by_bytes x c None at e = absurd cc
  by_bytes x c (Some b) at e =
      let p = by_tests (nat_le least (length b)) (nat_le (length b) most) b c refl refl e in
      (bytes_is x b at ∙ ap (λ (t : List ℕ). i.Bytes t) p.0, rw (← p.0) p.1, rw (← p.0) p.2)

  has_size : (b : List ℕ) → IsWithin least most b → within least most size b ≡ Ok b
  has_size b is =
      let low : nat_le least (length b) ≡ true = le-leb least (length b) is.1 in
      let high : nat_le (length b) most ≡ true = le-leb (length b) most is.2 in
      rw (low, high) refl

  pub sized_part : Part none (sized least most shape size) (λ b. i.Bytes b) (IsWithin least most)
  sized_part = record {
    settled = λ x. then_settled none (within least most size) (or_fault shape (bytes_of x)) (fault_settled none shape told_shape (bytes_of x))
        (λ b. by_test (nat_le least (length b) && nat_le (length b) most) b);
    fixes = λ x b s e. (let p = by_bytes x b (bytes_of x) refl e in p.0);
    proper = λ x b s e. (let p = by_bytes x b (bytes_of x) refl e in (bytes_in_range b (subst HasRanges p.0 s.ranges), p.1, p.2));
    seen = λ b is. rw i.outs-Bytes (has_size b is);
  }

-- ---- a codec of the fault of forms as a form

of_value : {V E : Type 0} (r : Result V E) (v : V) → value_of r ≡ Some v → r ≡ Ok v
of_value (Err e) v is = absurd cc
of_value (Ok w) v is = let same : w ≡ v = cc in ap (λ u. Ok u) same

pub part_exact : {V : Type 0} {view : Item → Result V FormFault} {item : V → Item} {P : V → Type 0} → Part NoMemory view item P → Exact (λ x. value_of (view x)) item P
part_exact {V} {view} part = record {
  fixes = λ x v s e. part.fixes x v s (of_value (view x) v e);
  proper = λ x v s e. part.proper x v s (of_value (view x) v e);
  seen = λ v is. ap (λ (r : Result V FormFault). value_of r) (part.seen v is);
}

-- what answers for the codec reads the form
pub form_reads : {V : Type 0} (view r : Result V FormFault) → Answers NoMemory view r → Reads (value_of view) r
form_reads view (Ok v) is = ap (λ o. value_of o) is
form_reads view (Err Shape) (inl is) = ap (λ o. value_of o) is
form_reads view (Err Shape) (inr is) = absurd cc
form_reads view (Err NoMemory) is = tt
