-- A chain's first link, and the rest of it.
use Rattle.std.proofs.Common.{◌≡◌, ℕ, suc, ◌+◌, ◌-◌, ◌<◌, ◌≤◌, List, [], ◌∷◌, ◌++◌, length, take, Option, Some, refl, sym, ◌∙◌, ap, arith}
use Rattle.std.specs.Prelude.{slice_range}
use Rattle.std.specs.List.{flat_map}
use Rattle.std.proofs.lemmas.List.{append_assoc, length-append, take_at, take-append-drop, take_rest}
use Rattle.lms_core.specs.Layout.{IsFormed}
use Rattle.lms_core.specs.Lms.{LmsValid}
use Rattle.lms_core.proofs.Public.Forms.{public_key_size, valid_is_formed}
use Rattle.lms_core.proofs.Public.Parts.{back_at, length-part, part_at, parts_join}
use Rattle.hss_verify.specs.Hss.{HasKeyForm, IsChain, IsSignedBy, Link, Signing, link_bytes}

-- what is signed has the form that the key gives it
abbrev pub NeedsForm : Signing → Type 0
NeedsForm Signs = (key message signature : List ℕ) → Signs key message signature → IsFormed key signature

signer_size : (Signs : Signing) (form : NeedsForm Signs) (key : List ℕ) (links : List Link) (last message : List ℕ) → IsSignedBy Signs key links last message → length key ≡ 56
signer_size Signs form key [] last message signed = public_key_size key last (form key message last signed)
signer_size Signs form key (link ∷ links) last message signed = public_key_size key link.signature (form key link.key link.signature signed.0)

-- the bytes begin with a signature of the next key and that key, by which a chain goes on
pub record IsLinked (Signs : Signing) (key : List ℕ) (n : ℕ) (bytes message : List ℕ) : Type 0 where
  pub signature : List ℕ
  pub next : List ℕ
  pub rest : List ℕ
  pub spelled : bytes ≡ signature ++ (next ++ rest)
  pub next_size : length next ≡ 56
  pub valid : Signs key next signature
  pub more : IsChain Signs next (n - 1) rest message

linked_by : (Signs : Signing) (form : NeedsForm Signs) (key : List ℕ) (n : ℕ) (bytes message : List ℕ) (links : List Link) (last : List ℕ) → 0 < n → length links ≡ n
    → bytes ≡ flat_map link_bytes links ++ last → IsSignedBy Signs key links last message → IsLinked Signs key n bytes message
linked_by Signs form key n bytes message [] last some count spelled signed = absurd (omega arith)
linked_by Signs form key n bytes message (link ∷ links) last some count spelled signed = record {
  signature = link.signature;
  next = link.key;
  rest = flat_map link_bytes links ++ last;
  spelled = spelled ∙ simp append_assoc;
  next_size = signer_size Signs form link.key links last message signed.1;
  valid = signed.0;
  more = record { links = links; last = last; link_count = omega arith; spelled = refl; signed = signed.1 };
}

pub linked : (Signs : Signing) (form : NeedsForm Signs) (key : List ℕ) (n : ℕ) (bytes message : List ℕ) → 0 < n → IsChain Signs key n bytes message → IsLinked Signs key n bytes message
linked Signs form key n bytes message some chain = linked_by Signs form key n bytes message chain.links chain.last some chain.link_count chain.spelled chain.signed

pub chained : (Signs : Signing) (key : List ℕ) (n : ℕ) (bytes message : List ℕ) → 0 < n → IsLinked Signs key n bytes message → IsChain Signs key n bytes message
chained Signs key n bytes message some link = record {
  links = record { signature = link.signature; key = link.next } ∷ link.more.links;
  last = link.more.last;
  link_count = ap suc link.more.link_count ∙ omega arith;
  spelled = link.spelled ∙ ap (λ (x : List ℕ). link.signature ++ (link.next ++ x)) link.more.spelled ∙ simp append_assoc;
  signed = (link.valid, link.more.signed);
}

-- the link at the length of its signature
pub record IsLinkedAt (Signs : Signing) (key : List ℕ) (n len : ℕ) (bytes message : List ℕ) : Type 0 where
  pub room : len + 56 ≤ length bytes
  pub valid : Signs key (slice_range bytes len (len + 56)) (take len bytes)
  pub more : IsChain Signs (slice_range bytes len (len + 56)) (n - 1) (slice_range bytes (len + 56) (length bytes)) message

pub linked_at : (Signs : Signing) (key : List ℕ) (n len : ℕ) (bytes message : List ℕ) → (link : IsLinked Signs key n bytes message) → length link.signature ≡ len → IsLinkedAt Signs key n len bytes message
linked_at Signs key n len bytes message link size =
    let next_size = link.next_size in
    let whole : length bytes ≡ len + (56 + length link.rest) = ap length link.spelled ∙ simp length-append (omega arith) in
    let front_size : length (link.signature ++ link.next) ≡ len + 56 = simp length-append (omega arith) in
    let by_rest : bytes ≡ (link.signature ++ link.next) ++ link.rest = link.spelled ∙ simp append_assoc in
    let signature : take len bytes ≡ link.signature = ap (take len) link.spelled ∙ take_at link.signature (link.next ++ link.rest) len size in
    let next : slice_range bytes len (len + 56) ≡ link.next = ap (λ (x : List ℕ). slice_range x len (len + 56)) link.spelled ∙ part_at link.signature link.next link.rest len (len + 56) size (omega arith) in
    let rest : slice_range bytes (len + 56) (length bytes) ≡ link.rest = ap (λ (x : List ℕ). slice_range x (len + 56) (length bytes)) by_rest
    ∙ back_at (link.signature ++ link.next) link.rest (len + 56) (length bytes) front_size (omega arith) in
    record {
      room = omega arith;
      valid = rw (next, signature) link.valid;
      more = rw (next, rest) link.more;
    }

pub linked_from : (Signs : Signing) (key : List ℕ) (n len : ℕ) (bytes message : List ℕ) → IsLinkedAt Signs key n len bytes message → IsLinked Signs key n bytes message
linked_from Signs key n len bytes message link =
    let room = link.room in
    let behind = parts_join bytes len (len + 56) (length bytes) (omega arith) room ∙ take_rest bytes len in
    record {
      signature = take len bytes;
      next = slice_range bytes len (len + 56);
      rest = slice_range bytes (len + 56) (length bytes);
      spelled = sym (ap (λ (x : List ℕ). take len bytes ++ x) behind ∙ take-append-drop len bytes);
      next_size = length-part bytes len (len + 56) (omega arith) room ∙ omega arith;
      valid = link.valid;
      more = link.more;
    }

-- ---- the code's steps

-- what a reader of the first signature's length answers where there is a link
pub length_read : (Signs : Signing) (form : NeedsForm Signs) (key : List ℕ) (n : ℕ) (bytes message : List ℕ) (answer : Option ℕ)
    → ((signature : List ℕ) → IsFormed key signature → length signature + 56 ≤ length bytes → answer ≡ Some (length signature)) → (link : IsLinked Signs key n bytes message)
    → answer ≡ Some (length link.signature)
length_read Signs form key n bytes message answer only link =
    let at = linked_at Signs key n (length link.signature) bytes message link refl in
    only link.signature (form key link.next link.signature link.valid) at.room

-- a chain's first link, at the length that was read
pub link_read : (Signs : Signing) (form : NeedsForm Signs) (key : List ℕ) (n len : ℕ) (bytes message : List ℕ)
    → ((signature : List ℕ) → IsFormed key signature → length signature + 56 ≤ length bytes → Some len ≡ Some (length signature)) → 0 < n → IsChain Signs key n bytes message
    → IsLinkedAt Signs key n len bytes message
link_read Signs form key n len bytes message only some chain =
    let link = linked Signs form key n bytes message some chain in
    let same = length_read Signs form key n bytes message (Some len) only link in
    let size : length link.signature ≡ len = cc in
    linked_at Signs key n len bytes message link size

forms_by : (key : List ℕ) (links : List Link) (last message : List ℕ) → IsSignedBy LmsValid key links last message → IsSignedBy HasKeyForm key links last []
forms_by key [] last message signed = valid_is_formed key message last signed
forms_by key (link ∷ links) last message signed = (valid_is_formed key link.key link.signature signed.0, forms_by link.key links last message signed.1)

-- a chain of valid signatures has its forms
pub chain_is_formed : (key : List ℕ) (n : ℕ) (bytes message : List ℕ) → IsChain LmsValid key n bytes message → IsChain HasKeyForm key n bytes []
chain_is_formed key n bytes message chain = record {
  links = chain.links;
  last = chain.last;
  link_count = chain.link_count;
  spelled = chain.spelled;
  signed = forms_by key chain.links chain.last message chain.signed;
}

pub form_itself : NeedsForm HasKeyForm
form_itself key message signature form = form
