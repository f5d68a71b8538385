-- The fields of a public key at their places.
use Rattle.std.proofs.Common.{◌≡◌, ℕ, ◌^◌, ◌<◌, List, ◌++◌, length, get_or, [], subst, Some, refl, sym, ◌∙◌, ap, arith}
use Rattle.std.specs.Prelude.{slice_range}
use Rattle.std.proofs.lemmas.Bool.Decides.{nat_tests}
use Rattle.std.proofs.lemmas.List.{append_assoc, length-append, take_all}
use Rattle.lms_core.specs.declared.parameters.OtsParams.{OtsParams}
use Rattle.lms_core.specs.declared.public_key.PublicKey.{PublicKey}
use Rattle.lms_core.specs.Parameters.{IsHeight, lms_table, ots_table}
use Rattle.lms_core.specs.Bytes.{u32_at, u32_bytes}
use Rattle.lms_core.proofs.Public.Parts.{back_at, part_at, parts_join, u32_at_bytes, u32_bytes_at}
use Rattle.lms_core.specs.Lms.{IsKnown, Spells, public_key_bytes}

-- a type in the table fits its four bytes
pub lms_type_fits : (code h : ℕ) → lms_table code ≡ Some h → code < 2 ^ 32
lms_type_fits code h e = grind (arith, nat_tests)

pub ots_type_fits : (code : ℕ) (params : OtsParams) → ots_table code ≡ Some params → code < 2 ^ 32
ots_type_fits code params e = grind (arith, nat_tests)

-- a type in the table has one of its heights
pub height_of : (code h : ℕ) → lms_table code ≡ Some h → IsHeight h
height_of code h e = grind (arith, nat_tests)

-- the fields of a public key stand at their places in the bytes
pub record FieldsAt (bytes : List ℕ) (key : PublicKey) : Type 0 where
  pub size : length bytes ≡ 56
  pub lms_type : u32_at bytes 0 ≡ key.lms_type
  pub ots_type : u32_at bytes 4 ≡ key.ots_type
  pub identifier : slice_range bytes 8 24 ≡ key.identifier
  pub root : slice_range bytes 24 56 ≡ key.root

fields_of_key : (key : PublicKey) → IsKnown key → FieldsAt (public_key_bytes key) key
fields_of_key key known =
    let a = u32_bytes key.lms_type in
    let b = u32_bytes key.ots_type in
    let i = known.identifier_length in
    let r = known.root_length in
    let front_size : length (a ++ b) ≡ 8 = refl in
    let body_size : length (a ++ b ++ key.identifier) ≡ 24 = length-append (a ++ b) key.identifier ∙ omega (arith, i) in
    let whole = public_key_bytes key in
    let from_second : whole ≡ a ++ (b ++ (key.identifier ++ key.root)) = append_assoc (a ++ b) key.identifier key.root ∙ append_assoc a b (key.identifier ++ key.root) in
    let first : slice_range whole 0 4 ≡ a = ap (λ (x : List ℕ). slice_range x 0 4) from_second ∙ part_at [] a (b ++ (key.identifier ++ key.root)) 0 4 refl refl in
    let second : slice_range whole 4 8 ≡ b = ap (λ (x : List ℕ). slice_range x 4 8) from_second ∙ part_at a b (key.identifier ++ key.root) 4 8 refl refl in
    let third : slice_range whole 8 24 ≡ key.identifier = ap (λ (x : List ℕ). slice_range x 8 24) (append_assoc (a ++ b) key.identifier key.root) ∙ part_at (a ++ b) key.identifier key.root 8 24 front_size (omega (arith, i)) in
    record {
      size = length-append (a ++ b ++ key.identifier) key.root ∙ omega (arith, body_size, r);
      lms_type = u32_at_bytes whole 0 key.lms_type (lms_type_fits key.lms_type key.height known.lms_known) first;
      ots_type = u32_at_bytes whole 4 key.ots_type (ots_type_fits key.ots_type key.params known.ots_known) second;
      identifier = third;
      root = back_at (a ++ b ++ key.identifier) key.root 24 56 body_size (omega (arith, r));
    }

-- what spells a key has its fields at their places
pub fields_at : (bytes : List ℕ) (key : PublicKey) → Spells bytes key → FieldsAt bytes key
fields_at bytes key spells =
    let P : List ℕ → Type 0 = λ x. FieldsAt x key in
    subst P (sym spells.spelled) (fields_of_key key spells.known)

joined : {a b c d : List ℕ} → a ≡ c → b ≡ d → a ++ b ≡ c ++ d
joined e f = λ i. e i ++ f i

-- 56 bytes are what the fields at their places spell
pub spelled_at : (bytes : List ℕ) → ((i : ℕ) → get_or bytes i 0 < 256) → length bytes ≡ 56 → bytes ≡ u32_bytes (u32_at bytes 0) ++ u32_bytes (u32_at bytes 4) ++ slice_range bytes 8 24 ++ slice_range bytes 24 56
spelled_at bytes fits size =
    let first : u32_bytes (u32_at bytes 0) ≡ slice_range bytes 0 4 = u32_bytes_at bytes 0 fits (omega arith) in
    let second : u32_bytes (u32_at bytes 4) ≡ slice_range bytes 4 8 = u32_bytes_at bytes 4 fits (omega arith) in
    let whole : slice_range bytes 0 56 ≡ bytes = take_all 56 bytes (omega arith) in
    sym (ap (λ (x : List ℕ). x ++ slice_range bytes 8 24 ++ slice_range bytes 24 56) (joined first second ∙ parts_join bytes 0 4 8 (omega arith) (omega arith))
    ∙ ap (λ (x : List ℕ). x ++ slice_range bytes 24 56) (parts_join bytes 0 8 24 (omega arith) (omega arith))
    ∙ parts_join bytes 0 24 56 (omega arith) (omega arith) ∙ whole)

-- keys are equal where their fields are
pub same_key : (a b : PublicKey) → a.lms_type ≡ b.lms_type → a.ots_type ≡ b.ots_type → a.height ≡ b.height → a.params ≡ b.params → a.identifier ≡ b.identifier → a.root ≡ b.root → a ≡ b
same_key a b e1 e2 e3 e4 e5 e6 = λ i. record { lms_type = e1 i; ots_type = e2 i; height = e3 i; params = e4 i; identifier = e5 i; root = e6 i }

-- the same bytes spell one key
pub one_key : (bytes : List ℕ) (a b : PublicKey) → Spells bytes a → Spells bytes b → a ≡ b
one_key bytes a b first second =
    let at_a = fields_at bytes a first in
    let at_b = fields_at bytes b second in
    let lms : a.lms_type ≡ b.lms_type = sym at_a.lms_type ∙ at_b.lms_type in
    let ots : a.ots_type ≡ b.ots_type = sym at_a.ots_type ∙ at_b.ots_type in
    let heights : Some a.height ≡ Some b.height = sym first.known.lms_known ∙ ap lms_table lms ∙ second.known.lms_known in
    let rows : Some a.params ≡ Some b.params = sym first.known.ots_known ∙ ap ots_table ots ∙ second.known.ots_known in
    same_key a b lms ots (cc) (cc) (sym at_a.identifier ∙ at_b.identifier) (sym at_a.root ∙ at_b.root)
