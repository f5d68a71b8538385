-- Whether bytes are a public key, and whether a signature is valid, is decided.
use Rattle.std.proofs.Common.{◌≡◌, ℕ, ◌^◌, ◌⊎◌, inl, inr, Bool, true, false, ◌&&◌, ltb, Option, Some, None, List, length, refl, sym, ap, ◌∙◌, arith}
use Rattle.std.specs.Bool.{Decides}
use Rattle.std.specs.Prelude.{slice_range, ◌==◌}
use Rattle.std.proofs.lemmas.Bool.Decides.{Decides-and, Decides-like, Decides-eqb, Decides-ltb, not_from_Decides}
use Rattle.std.proofs.lemmas.Slice.Eq.{bytes_eq-Decides}
use Rattle.lms_core.specs.declared.public_key.PublicKey.{PublicKey}
use Rattle.lms_core.specs.declared.parameters.OtsParams.{OtsParams}
use Rattle.lms_core.specs.Parameters.{lms_table, ots_table}
use Rattle.lms_core.specs.Bytes.{u32_at}
use Rattle.lms_core.specs.Layout.{HasForm, chains_end, signature_at}
use Rattle.lms_core.specs.Lms.{IsPublicKey, LmsValid, Spells, public_key_bytes, root_candidate, signature_bytes, signature_length}
use Rattle.lms_core.proofs.Keys.{fields_at}
use Rattle.lms_core.proofs.Public.Parts.{length-part}
use Rattle.lms_core.proofs.Signatures.{accepted, fits_at}

-- what a test decides holds or not
pub or_not : {P : Type 0} (b : Bool) → Decides b P → P ⊎ (¬ P)
or_not true d = inl (d.0 refl)
or_not false d = inr (not_from_Decides false d refl)

-- ---- public keys

candidate : List ℕ → ℕ → OtsParams → PublicKey
candidate bytes h params = record {
  lms_type = u32_at bytes 0;
  ots_type = u32_at bytes 4;
  height = h;
  params = params;
  identifier = slice_range bytes 8 24;
  root = slice_range bytes 24 56;
}

-- the fields at their places spell the bytes where any key does
fields_spell : (bytes : List ℕ) (h : ℕ) (params : OtsParams) (key : PublicKey) → Spells bytes key → bytes ≡ public_key_bytes (candidate bytes h params)
unfolding candidate
fields_spell bytes h params key spells =
    let at = fields_at bytes key spells in
    spells.spelled ∙ sym (rw (at.lms_type, at.ots_type, at.identifier, at.root) refl)

-- bytes of known types are a key exactly where they are what the fields at their places spell
spelled_or_not : (bytes : List ℕ) (h : ℕ) (params : OtsParams) → lms_table (u32_at bytes 0) ≡ Some h → ots_table (u32_at bytes 4) ≡ Some params → (length bytes ≡ 56) ⊎ (¬ (length bytes ≡ 56))
    → (bytes ≡ public_key_bytes (candidate bytes h params)) ⊎ (¬ (bytes ≡ public_key_bytes (candidate bytes h params))) → IsPublicKey bytes ⊎ (¬ (IsPublicKey bytes))
unfolding candidate
spelled_or_not bytes h params lms ots (inl size) (inl spelled) = inl (
  candidate bytes h params,
  record {
    known = record {
      lms_known = lms;
      ots_known = ots;
      identifier_length = length-part bytes 8 24 (omega arith) (omega (arith, size));
      root_length = length-part bytes 24 56 (omega arith) (omega (arith, size));
    };
    spelled = spelled;
  },
)
spelled_or_not bytes h params lms ots (inl size) (inr not_spelled) = inr (λ key. not_spelled (fields_spell bytes h params key.0 key.1))
spelled_or_not bytes h params lms ots (inr not_size) _ = inr (λ key. not_size (fields_at bytes key.0 key.1).size)

none_some : {A : Type 0} (x : A) → ¬ (Path (Option A) None (Some x))
none_some x e = grind arith

known_or_not : (bytes : List ℕ) (h : Option ℕ) (params : Option OtsParams) → lms_table (u32_at bytes 0) ≡ h → ots_table (u32_at bytes 4) ≡ params → IsPublicKey bytes ⊎ (¬ (IsPublicKey bytes))
known_or_not bytes (Some h) (Some params) lms ots = spelled_or_not bytes h params lms ots (or_not _ (Decides-eqb (length bytes) 56)) (or_not _ (bytes_eq-Decides bytes (public_key_bytes (candidate bytes h params))))
known_or_not bytes None params lms ots = inr (λ key. none_some key.0.height (sym lms ∙ ap lms_table (fields_at bytes key.0 key.1).lms_type ∙ key.1.known.lms_known))
known_or_not bytes (Some h) None lms ots = inr (λ key. none_some key.0.params (sym ots ∙ ap ots_table (fields_at bytes key.0 key.1).ots_type ∙ key.1.known.ots_known))

-- bytes are an LMS public key of known types, or not
pub public_key_or_not : (bytes : List ℕ) → IsPublicKey bytes ⊎ (¬ (IsPublicKey bytes))
public_key_or_not bytes = known_or_not bytes (lms_table (u32_at bytes 0)) (ots_table (u32_at bytes 4)) refl refl

-- ---- signatures

form_test : PublicKey → List ℕ → Bool
form_test key bytes = (length bytes == signature_length key) && ((ltb (u32_at bytes 0) (2 ^ key.height)) && ((u32_at bytes 4 == key.ots_type) && (u32_at bytes (chains_end key) == key.lms_type)))

form_tested : (key : PublicKey) (bytes : List ℕ) → Decides (form_test key bytes) (HasForm key bytes)
unfolding form_test
form_tested key bytes =
    let tests = Decides-and _ _ (Decides-eqb (length bytes) (signature_length key))
    (Decides-and _ _ (Decides-ltb (u32_at bytes 0) (2 ^ key.height))
    (Decides-and _ _ (Decides-eqb (u32_at bytes 4) key.ots_type) (Decides-eqb (u32_at bytes (chains_end key)) key.lms_type))) in
    Decides-like _ (λ h. record { size = h.0; leaf = h.1.0; ots_type = h.1.1.0; lms_type = h.1.1.1 }) (λ form. (form.size, (form.leaf, (form.ots_type, form.lms_type)))) tests

valid_by : (public message signature : List ℕ) (key : PublicKey) → Spells public key → HasForm key signature ⊎ (¬ (HasForm key signature))
    → (signature ≡ signature_bytes (signature_at key signature)) ⊎ (¬ (signature ≡ signature_bytes (signature_at key signature)))
    → (root_candidate key message (signature_at key signature) ≡ key.root) ⊎ (¬ (root_candidate key message (signature_at key signature) ≡ key.root))
    → LmsValid public message signature ⊎ (¬ (LmsValid public message signature))
valid_by public message signature key spells (inl form) (inl spelled) (inl root) = inl (record {
  key = key;
  public_key = spells;
  parts = signature_at key signature;
  fits = fits_at key signature form;
  spelled = spelled;
  root = root;
})
valid_by public message signature key spells (inr wrong) _ _ = inr (λ valid. wrong (accepted public message signature key spells valid).form)
valid_by public message signature key spells (inl _) (inr wrong) _ = inr (λ valid. wrong (accepted public message signature key spells valid).spelled)
valid_by public message signature key spells (inl _) (inl _) (inr wrong) = inr (λ valid. wrong (accepted public message signature key spells valid).root)

under_or_not : (public message signature : List ℕ) → IsPublicKey public ⊎ (¬ (IsPublicKey public)) → LmsValid public message signature ⊎ (¬ (LmsValid public message signature))
under_or_not public message signature (inl (key, spells)) = valid_by public message signature key spells (or_not _ (form_tested key signature))
    (or_not _ (bytes_eq-Decides signature (signature_bytes (signature_at key signature)))) (or_not _ (bytes_eq-Decides (root_candidate key message (signature_at key signature)) key.root))
under_or_not public message signature (inr wrong) = inr (λ valid. wrong (valid.key, valid.public_key))

-- a signature is valid, or not
pub lms_valid_or_not : (public message signature : List ℕ) → LmsValid public message signature ⊎ (¬ (LmsValid public message signature))
lms_valid_or_not public message signature = under_or_not public message signature (public_key_or_not public)
