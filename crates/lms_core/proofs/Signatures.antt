-- The parts of a signature at their places, and what spells them.
use Rattle.std.proofs.Common.{◌≡◌, ℕ, ◌+◌, ◌*◌, ◌^◌, ◌<◌, ◌≤◌, List, [], ◌++◌, length, take, drop, get_or, subst, inl, inr, refl, sym, ◌∙◌, ap, arith}
use Rattle.std.specs.Prelude.{slice_range}
use Rattle.std.specs.List.{concat}
use Rattle.std.proofs.lemmas.List.{append_assoc, drop_at, length-append, length-drop, take-append-drop}
use Rattle.lms_core.specs.declared.public_key.PublicKey.{PublicKey}
use Rattle.lms_core.specs.Bytes.{u32_bytes}
use Rattle.lms_core.specs.Parameters.{IsHeight, lms_table, ots_table}
use Rattle.lms_core.specs.Layout.{HasForm, IsFormed, chains_end, hashes_in, signature_at}
use Rattle.lms_core.specs.Lms.{Fits, IsKnown, LmsValid, Signature, Spells, root_candidate, signature_bytes, signature_length}
use Rattle.lms_core.proofs.Public.Hashes.{AllHashes-hashes_in, concat-hashes_in, hashes_in-concat, length-concat, length-hashes_in}
use Rattle.lms_core.proofs.Keys.{height_of, lms_type_fits, one_key, ots_type_fits}
use Rattle.lms_core.proofs.Public.Parts.{length-part, part_at, parts_join, u32_at_bytes, u32_bytes_at}

-- ---- what is read is spelled

chains_size : (key : PublicKey) (bytes : List ℕ) → length bytes ≡ signature_length key → length (slice_range bytes 40 (chains_end key)) ≡ 32 * key.params.p
chains_size key bytes size = length-part bytes 40 (chains_end key) (omega arith) (omega arith) ∙ omega arith

pub path_size : (key : PublicKey) (bytes : List ℕ) → length bytes ≡ signature_length key → length (drop (chains_end key + 4) bytes) ≡ 32 * key.height
path_size key bytes size = length-drop (chains_end key + 4) bytes ∙ omega arith

pub fits_at : (key : PublicKey) (bytes : List ℕ) → HasForm key bytes → Fits (signature_at key bytes) key
unfolding signature_at
fits_at key bytes form =
    let size = form.size in
    record {
      same_ots_type = form.ots_type;
      same_lms_type = form.lms_type;
      leaf_below = form.leaf;
      randomizer_length = length-part bytes 8 40 (omega arith) (omega arith);
      chain_count = length-hashes_in key.params.p (slice_range bytes 40 (chains_end key));
      chain_lengths = AllHashes-hashes_in key.params.p (slice_range bytes 40 (chains_end key)) (chains_size key bytes size);
      path_length = length-hashes_in key.height (drop (chains_end key + 4) bytes);
      node_lengths = AllHashes-hashes_in key.height (drop (chains_end key + 4) bytes) (path_size key bytes size);
    }

-- six parts, of which the second to the fourth stand together, are one behind the other
six_parts : (a b c d e f bytes : List ℕ) (n m : ℕ) → 40 ≤ n → m ≡ n + 4 → m ≤ length bytes
    → a ≡ slice_range bytes 0 4 → b ≡ slice_range bytes 4 8 → c ≡ slice_range bytes 8 40 → d ≡ slice_range bytes 40 n
    → e ≡ slice_range bytes n m → f ≡ drop m bytes → bytes ≡ a ++ (b ++ c ++ d) ++ e ++ f
six_parts a b c d e f bytes n m low high room ea eb ec ed ee ef =
    let inner : b ++ c ++ d ≡ slice_range bytes 4 n = rw (eb, ec, ed, parts_join bytes 4 8 40 (omega arith) (omega arith)) (parts_join bytes 4 40 n (omega arith) low) in
    let front : a ++ (b ++ c ++ d) ++ e ≡ slice_range bytes 0 m = rw (ea, inner, ee, parts_join bytes 0 4 n (omega arith) (omega arith)) (parts_join bytes 0 n m (omega arith) (omega arith)) in
    let begun : slice_range bytes 0 m ≡ take m bytes = ap (λ k. take k bytes) (omega arith) in
    sym (rw (front, ef, begun) (take-append-drop m bytes))

pub spelled_by : (key : PublicKey) (bytes : List ℕ) → ((i : ℕ) → get_or bytes i 0 < 256) → HasForm key bytes → bytes ≡ signature_bytes (signature_at key bytes)
unfolding signature_at
spelled_by key bytes fits form =
    let size = form.size in
    six_parts _ _ _ _ _ _ bytes (chains_end key) (chains_end key + 4) (omega arith) refl (omega arith)
    (u32_bytes_at bytes 0 fits (omega arith)) (u32_bytes_at bytes 4 fits (omega arith)) refl
    (concat-hashes_in key.params.p (slice_range bytes 40 (chains_end key)) (chains_size key bytes size))
    (u32_bytes_at bytes (chains_end key) fits (omega arith))
    (concat-hashes_in key.height (drop (chains_end key + 4) bytes) (path_size key bytes size))

-- ---- what is spelled is read

-- the parts of a signature, each with its length, and what they spell
pub record IsSpelled (key : PublicKey) (a b c d e f bytes : List ℕ) : Type 0 where
  pub a_size : length a ≡ 4
  pub b_size : length b ≡ 4
  pub c_size : length c ≡ 32
  pub d_size : length d ≡ 32 * key.params.p
  pub e_size : length e ≡ 4
  pub f_size : length f ≡ 32 * key.height
  pub whole : bytes ≡ a ++ (b ++ c ++ d) ++ e ++ f

-- the parts, each at its place
pub record PartsAt (key : PublicKey) (a b c d e f bytes : List ℕ) : Type 0 where
  pub size : length bytes ≡ signature_length key
  pub a_at : slice_range bytes 0 4 ≡ a
  pub b_at : slice_range bytes 4 8 ≡ b
  pub c_at : slice_range bytes 8 40 ≡ c
  pub d_at : slice_range bytes 40 (chains_end key) ≡ d
  pub e_at : slice_range bytes (chains_end key) (chains_end key + 4) ≡ e
  pub f_at : drop (chains_end key + 4) bytes ≡ f

parts_at : (key : PublicKey) (a b c d e f bytes : List ℕ) → IsSpelled key a b c d e f bytes → PartsAt key a b c d e f bytes
parts_at key a b c d e f bytes is =
    let sa = is.a_size in
    let sb = is.b_size in
    let sc = is.c_size in
    let sd = is.d_size in
    let se = is.e_size in
    let sf = is.f_size in
    let at_b : length a ≡ 4 = sa in
    let at_c : length (a ++ b) ≡ 8 = simp length-append (omega arith) in
    let at_d : length (a ++ b ++ c) ≡ 40 = simp length-append (omega arith) in
    let at_e : length (a ++ b ++ c ++ d) ≡ chains_end key = simp length-append (omega arith) in
    let at_f : length (a ++ b ++ c ++ d ++ e) ≡ chains_end key + 4 = simp length-append (omega arith) in
    let by_a : bytes ≡ a ++ ((b ++ c ++ d) ++ e ++ f) = is.whole ∙ simp append_assoc in
    let by_b : bytes ≡ a ++ (b ++ (c ++ d ++ e ++ f)) = is.whole ∙ simp append_assoc in
    let by_c : bytes ≡ (a ++ b) ++ (c ++ (d ++ e ++ f)) = is.whole ∙ simp append_assoc in
    let by_d : bytes ≡ (a ++ b ++ c) ++ (d ++ (e ++ f)) = is.whole ∙ simp append_assoc in
    let by_e : bytes ≡ (a ++ b ++ c ++ d) ++ (e ++ f) = is.whole ∙ simp append_assoc in
    let by_f : bytes ≡ (a ++ b ++ c ++ d ++ e) ++ f = is.whole ∙ simp append_assoc in
    record {
      size = ap length by_f ∙ simp length-append (omega arith);
      a_at = ap (λ (x : List ℕ). slice_range x 0 4) by_a ∙ part_at [] a ((b ++ c ++ d) ++ e ++ f) 0 4 refl (omega arith);
      b_at = ap (λ (x : List ℕ). slice_range x 4 8) by_b ∙ part_at a b (c ++ d ++ e ++ f) 4 8 at_b (omega arith);
      c_at = ap (λ (x : List ℕ). slice_range x 8 40) by_c ∙ part_at (a ++ b) c (d ++ e ++ f) 8 40 at_c (omega arith);
      d_at = ap (λ (x : List ℕ). slice_range x 40 (chains_end key)) by_d ∙ part_at (a ++ b ++ c) d (e ++ f) 40 (chains_end key) at_d (omega arith);
      e_at = ap (λ (x : List ℕ). slice_range x (chains_end key) (chains_end key + 4)) by_e ∙ part_at (a ++ b ++ c ++ d) e f (chains_end key) (chains_end key + 4) at_e (omega arith);
      f_at = ap (drop (chains_end key + 4)) by_f ∙ drop_at (a ++ b ++ c ++ d ++ e) f (chains_end key + 4) at_f;
    }

-- the parts of a signature, each as bytes
spelled_parts : (key : PublicKey) (parts : Signature) → Fits parts key
    → IsSpelled key (u32_bytes parts.leaf) (u32_bytes parts.ots_type) parts.randomizer (concat parts.chains) (u32_bytes parts.lms_type) (concat parts.path) (signature_bytes parts)
spelled_parts key parts fits = record {
  a_size = refl;
  b_size = refl;
  c_size = fits.randomizer_length;
  d_size = length-concat parts.chains fits.chain_lengths ∙ ap (λ n. 32 * n) fits.chain_count;
  e_size = refl;
  f_size = length-concat parts.path fits.node_lengths ∙ ap (λ n. 32 * n) fits.path_length;
  whole = refl;
}

-- a leaf of a tree of known height fits its four bytes
leaf_fits : (h n : ℕ) → IsHeight h → n < 2 ^ h → n < 2 ^ 32
leaf_fits h n (inl e) below = let k : n < 2 ^ 5 = rw e at below in omega (arith, k)
leaf_fits h n (inr (inl e)) below = let k : n < 2 ^ 10 = rw e at below in omega (arith, k)
leaf_fits h n (inr (inr (inl e))) below = let k : n < 2 ^ 15 = rw e at below in omega (arith, k)
leaf_fits h n (inr (inr (inr (inl e)))) below = let k : n < 2 ^ 20 = rw e at below in omega (arith, k)
leaf_fits h n (inr (inr (inr (inr e)))) below = let k : n < 2 ^ 25 = rw e at below in omega (arith, k)

-- what a signature's parts spell has its form, and holds them at their places
pub record IsRead (key : PublicKey) (parts : Signature) (bytes : List ℕ) : Type 0 where
  pub form : HasForm key bytes
  pub same : signature_at key bytes ≡ parts

same_parts : (a b : Signature) → a.leaf ≡ b.leaf → a.ots_type ≡ b.ots_type → a.randomizer ≡ b.randomizer → a.chains ≡ b.chains → a.lms_type ≡ b.lms_type → a.path ≡ b.path → a ≡ b
same_parts a b e1 e2 e3 e4 e5 e6 = λ i. record { leaf = e1 i; ots_type = e2 i; randomizer = e3 i; chains = e4 i; lms_type = e5 i; path = e6 i }

pub read_parts : (key : PublicKey) (parts : Signature) (bytes : List ℕ) → IsKnown key → Fits parts key → bytes ≡ signature_bytes parts → IsRead key parts bytes
unfolding signature_at
read_parts key parts bytes known fits spelled =
    let is = spelled_parts key parts fits in
    let at = parts_at key _ _ _ _ _ _ bytes (record {
      a_size = is.a_size;
      b_size = is.b_size;
      c_size = is.c_size;
      d_size = is.d_size;
      e_size = is.e_size;
      f_size = is.f_size;
      whole = spelled;
    }) in
    let height = height_of key.lms_type key.height known.lms_known in
    let ots_known = ap ots_table fits.same_ots_type ∙ known.ots_known in
    let lms_known = ap lms_table fits.same_lms_type ∙ known.lms_known in
    let leaf = u32_at_bytes bytes 0 parts.leaf (leaf_fits key.height parts.leaf height fits.leaf_below) at.a_at in
    let ots_type = u32_at_bytes bytes 4 parts.ots_type (ots_type_fits parts.ots_type key.params ots_known) at.b_at in
    let lms_type = u32_at_bytes bytes (chains_end key) parts.lms_type (lms_type_fits parts.lms_type key.height lms_known) at.e_at in
    record {
      form = record {
        size = at.size;
        leaf = rw leaf fits.leaf_below;
        ots_type = ots_type ∙ fits.same_ots_type;
        lms_type = lms_type ∙ fits.same_lms_type;
      };
      same = same_parts (signature_at key bytes) parts leaf ots_type at.c_at
          (ap (hashes_in key.params.p) at.d_at ∙ hashes_in-concat key.params.p parts.chains fits.chain_count fits.chain_lengths)
          lms_type
          (ap (hashes_in key.height) at.f_at ∙ hashes_in-concat key.height parts.path fits.path_length fits.node_lengths);
    }

-- ---- validity, by what is read

-- of one public key there is one form
pub form_under : (public bytes : List ℕ) (key : PublicKey) → Spells public key → IsFormed public bytes → HasForm key bytes
form_under public bytes key spells formed =
    let P : PublicKey → Type 0 = λ k. HasForm k bytes in
    subst P (one_key public formed.key key formed.public_key spells) formed.form

-- a signature of the form that leads to the key's root is valid
pub valid_at : (public message bytes : List ℕ) (key : PublicKey) → ((i : ℕ) → get_or bytes i 0 < 256) → Spells public key → HasForm key bytes → root_candidate key message (signature_at key bytes) ≡ key.root → LmsValid public message bytes
valid_at public message bytes key fits spells form root = record {
  key = key;
  public_key = spells;
  parts = signature_at key bytes;
  fits = fits_at key bytes form;
  spelled = spelled_by key bytes fits form;
  root = root;
}

-- a valid signature has the form, is spelled by its parts, and leads to the key's root
pub record IsAccepted (key : PublicKey) (message bytes : List ℕ) : Type 0 where
  pub form : HasForm key bytes
  pub spelled : bytes ≡ signature_bytes (signature_at key bytes)
  pub root : root_candidate key message (signature_at key bytes) ≡ key.root

pub accepted : (public message bytes : List ℕ) (key : PublicKey) → Spells public key → LmsValid public message bytes → IsAccepted key message bytes
accepted public message bytes key spells valid =
    let read = read_parts valid.key valid.parts bytes valid.public_key.known valid.fits valid.spelled in
    let same = one_key public valid.key key valid.public_key spells in
    let P : PublicKey → Type 0 = λ k. IsAccepted k message bytes in
    subst P same (record {
      form = read.form;
      spelled = valid.spelled ∙ ap signature_bytes (sym read.same);
      root = ap (root_candidate valid.key message) read.same ∙ valid.root;
    })
