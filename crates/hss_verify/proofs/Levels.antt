-- The number of levels and the top key at their places in a public key, and a signature's links.
use Rattle.std.proofs.Common.{◌≡◌, ℕ, ◌+◌, ◌-◌, ◌^◌, ◌<◌, ◌≤◌, List, [], ◌++◌, length, get_or, subst, refl, sym, ◌∙◌, ap, arith}
use Rattle.std.specs.Prelude.{slice_range}
use Rattle.std.specs.List.{flat_map}
use Rattle.std.proofs.lemmas.List.{append_assoc, length-append, take_all}
use Rattle.lms_core.specs.Bytes.{u32_at, u32_bytes}
use Rattle.lms_core.specs.Lms.{LmsValid}
use Rattle.lms_core.proofs.Public.Forms.{key_size}
use Rattle.lms_core.proofs.Public.Parts.{back_at, part_at, parts_join, u32_at_bytes, u32_bytes_at}
use Rattle.hss_verify.specs.Hss.{HssValid, IsChain, IsHssPublic, IsSignedBy, link_bytes}

-- what follows a number's four bytes
pub behind_number : (bytes rest : List ℕ) (n : ℕ) → bytes ≡ u32_bytes n ++ rest → slice_range bytes 4 (length bytes) ≡ rest
behind_number bytes rest n e =
    let size : 4 + length rest ≡ length bytes = sym (ap length e ∙ simp length-append (omega arith)) in
    ap (λ (x : List ℕ). slice_range x 4 (length bytes)) e ∙ back_at (u32_bytes n) rest 4 (length bytes) refl size

-- the number in the first four bytes
pub number_before : (bytes rest : List ℕ) (n : ℕ) → n < 2 ^ 32 → bytes ≡ u32_bytes n ++ rest → u32_at bytes 0 ≡ n
number_before bytes rest n h e =
    u32_at_bytes bytes 0 n h (ap (λ (x : List ℕ). slice_range x 0 4) e ∙ part_at [] (u32_bytes n) rest 0 4 refl refl)

pub levels_at : (public : List ℕ) (key : IsHssPublic public) → u32_at public 0 ≡ key.levels
levels_at public key =
    let few = key.at_most_eight in
    number_before public key.top key.levels (omega arith) key.spelled

pub top_at : (public : List ℕ) (key : IsHssPublic public) → slice_range public 4 60 ≡ key.top
top_at public key =
    let size = key_size key.top key.known.0 key.known.1 in
    ap (λ (x : List ℕ). slice_range x 4 60) key.spelled ∙ back_at (u32_bytes key.levels) key.top 4 60 refl (omega (arith, size))

-- a number's four bytes and what follows
pub number_and_rest : (bytes : List ℕ) → ((i : ℕ) → get_or bytes i 0 < 256) → 4 ≤ length bytes → bytes ≡ u32_bytes (u32_at bytes 0) ++ slice_range bytes 4 (length bytes)
number_and_rest bytes fits room =
    let whole : slice_range bytes 0 (length bytes) ≡ bytes = take_all (length bytes - 0) bytes (omega arith) in
    sym (ap (λ (x : List ℕ). x ++ slice_range bytes 4 (length bytes)) (u32_bytes_at bytes 0 fits room) ∙ parts_join bytes 0 4 (length bytes) (omega arith) room ∙ whole)

-- a valid signature has a count, and a chain behind it
pub record IsCounted (public message signature : List ℕ) (levels : ℕ) : Type 0 where
  pub room : 4 ≤ length signature
  pub count : u32_at signature 0 ≡ levels - 1
  pub chain : IsChain LmsValid (slice_range public 4 60) (levels - 1) (slice_range signature 4 (length signature)) message

pub valid_from : (public message signature : List ℕ) (levels : ℕ) → signature ≡ u32_bytes (u32_at signature 0) ++ slice_range signature 4 (length signature) → IsHssPublic public
    → levels ≡ u32_at public 0 → IsCounted public message signature levels → HssValid public message signature
valid_from public message signature levels begun key known counted =
    let some = key.at_least_one in
    let chain = counted.chain in
    let levels_is : levels ≡ key.levels = known ∙ levels_at public key in
    let links = chain.link_count in
    let P : List ℕ → Type 0 = λ top. IsSignedBy LmsValid top chain.links chain.last message in
    let number : u32_at signature 0 ≡ length chain.links = counted.count ∙ sym links in
    record {
      public_key = key;
      links = chain.links;
      last = chain.last;
      link_count = omega arith;
      spelled = begun
          ∙ ap (λ (x : List ℕ). u32_bytes (u32_at signature 0) ++ x) chain.spelled
          ∙ ap (λ n. u32_bytes n ++ (flat_map link_bytes chain.links ++ chain.last)) number
          ∙ sym (append_assoc (u32_bytes (length chain.links)) (flat_map link_bytes chain.links) chain.last);
      signed = subst P (top_at public key) chain.signed;
    }

pub counted : (public message signature : List ℕ) (levels : ℕ) → levels ≡ u32_at public 0 → HssValid public message signature → IsCounted public message signature levels
counted public message signature levels known valid =
    let key = valid.public_key in
    let levels_is : levels ≡ key.levels = known ∙ levels_at public key in
    let few = key.at_most_eight in
    let links = valid.link_count in
    let behind = flat_map link_bytes valid.links ++ valid.last in
    let spelled : signature ≡ u32_bytes (length valid.links) ++ behind = valid.spelled ∙ append_assoc (u32_bytes (length valid.links)) (flat_map link_bytes valid.links) valid.last in
    let size : length signature ≡ 4 + length behind = ap length spelled ∙ length-append (u32_bytes (length valid.links)) behind in
    let number = number_before signature behind (length valid.links) (omega arith) spelled in
    let P : List ℕ → Type 0 = λ top. IsSignedBy LmsValid top valid.links valid.last message in
    record {
      room = omega arith;
      count = number ∙ omega arith;
      chain = record {
        links = valid.links;
        last = valid.last;
        link_count = omega arith;
        spelled = behind_number signature behind (length valid.links) spelled;
        signed = subst P (sym (top_at public key)) valid.signed;
      };
    }

-- a valid signature is its count's four bytes and what follows
pub begins_counted : (public message signature : List ℕ) → HssValid public message signature → signature ≡ u32_bytes (u32_at signature 0) ++ slice_range signature 4 (length signature)
begins_counted public message signature valid =
    let key = valid.public_key in
    let few = key.at_most_eight in
    let links = valid.link_count in
    let behind = flat_map link_bytes valid.links ++ valid.last in
    let spelled : signature ≡ u32_bytes (length valid.links) ++ behind = valid.spelled ∙ append_assoc (u32_bytes (length valid.links)) (flat_map link_bytes valid.links) valid.last in
    let number = number_before signature behind (length valid.links) (omega arith) spelled in
    spelled ∙ sym (rw (number, behind_number signature behind (length valid.links) spelled) refl)
