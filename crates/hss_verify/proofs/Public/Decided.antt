-- Whether bytes are an HSS public key, and whether a signature is valid, is decided.
use Rattle.std.proofs.Common.{◌≡◌, ℕ, zero, suc, ◌+◌, ◌-◌, ◌<◌, ◌≤◌, ◌⊎◌, inl, inr, List, [], ◌∷◌, ◌++◌, length, take, refl, sym, subst, arith}
use Rattle.std.specs.Prelude.{slice_range}
use Rattle.std.proofs.lemmas.Bool.Decides.{Decides-eqb}
use Rattle.std.proofs.lemmas.Slice.Eq.{bytes_eq-Decides}
use Rattle.std.proofs.lemmas.Bool.{cases_lt}
use Rattle.lms_core.specs.Bytes.{u32_at, u32_bytes}
use Rattle.lms_core.specs.Lms.{IsPublicKey, LmsKey, LmsValid, Spells, signature_length}
use Rattle.lms_core.proofs.Public.Decided.{lms_valid_or_not, or_not, public_key_or_not}
use Rattle.lms_core.proofs.Public.Forms.{formed_size, valid_is_formed}
use Rattle.std.specs.List.{flat_map}
use Rattle.hss_verify.specs.Hss.{HssValid, IsChain, IsHssPublic, IsSignedBy, Link, link_bytes}
use Rattle.hss_verify.proofs.Levels.{begins_counted, counted, levels_at, top_at, valid_from}
use Rattle.hss_verify.proofs.Links.{IsLinkedAt, chained, linked, linked_at, linked_from}

public_by : (bytes : List ℕ) → (u32_at bytes 0 < 1) ⊎ (1 ≤ u32_at bytes 0) → (8 < u32_at bytes 0) ⊎ (u32_at bytes 0 ≤ 8)
    → IsPublicKey (slice_range bytes 4 60) ⊎ (¬ (IsPublicKey (slice_range bytes 4 60)))
    → (bytes ≡ u32_bytes (u32_at bytes 0) ++ slice_range bytes 4 60) ⊎ (¬ (bytes ≡ u32_bytes (u32_at bytes 0) ++ slice_range bytes 4 60)) → IsHssPublic bytes ⊎ (¬ (IsHssPublic bytes))
public_by bytes (inr some) (inr few) (inl known) (inl spelled) = inl (record {
  levels = u32_at bytes 0;
  top = slice_range bytes 4 60;
  at_least_one = some;
  at_most_eight = few;
  known = known;
  spelled = spelled;
})
public_by bytes (inl none) _ _ _ = inr (λ key. let some = key.at_least_one in let same = levels_at bytes key in omega (arith, none))
public_by bytes (inr _) (inl many) _ _ = inr (λ key. let few = key.at_most_eight in let same = levels_at bytes key in omega (arith, many))
public_by bytes (inr _) (inr _) (inr wrong) _ = inr (λ key. wrong (subst IsPublicKey (sym (top_at bytes key)) key.known))
public_by bytes (inr _) (inr _) (inl _) (inr wrong) = inr (λ key. wrong (rw (levels_at bytes key, top_at bytes key) key.spelled))

-- bytes are an HSS public key of known types, or not
pub hss_public_or_not : (bytes : List ℕ) → IsHssPublic bytes ⊎ (¬ (IsHssPublic bytes))
hss_public_or_not bytes = public_by bytes (cases_lt (u32_at bytes 0) 1) (cases_lt 8 (u32_at bytes 0)) (public_key_or_not (slice_range bytes 4 60)) (or_not _ (bytes_eq-Decides bytes (u32_bytes (u32_at bytes 0) ++ slice_range bytes 4 60)))

-- ---- chains

alone_by : (key bytes message : List ℕ) (links : List Link) (last : List ℕ) → length links ≡ 0 → bytes ≡ flat_map link_bytes links ++ last → IsSignedBy LmsValid key links last message → LmsValid key message bytes
alone_by key bytes message [] last none spelled signed = subst (LmsValid key message) (sym spelled) signed
alone_by key bytes message (link ∷ links) last none spelled signed = absurd (omega (arith, none))

last_or_not : (key bytes message : List ℕ) → LmsValid key message bytes ⊎ (¬ (LmsValid key message bytes)) → IsChain LmsValid key 0 bytes message ⊎ (¬ (IsChain LmsValid key 0 bytes message))
last_or_not key bytes message (inl valid) = inl (record { links = []; last = bytes; link_count = refl; spelled = refl; signed = valid })
last_or_not key bytes message (inr wrong) = inr (λ chain. wrong (alone_by key bytes message chain.links chain.last chain.link_count chain.spelled chain.signed))

-- a chain of links gives its first one at the length of its key's signatures
first_at : (key : List ℕ) (n : ℕ) (bytes message : List ℕ) (parts : LmsKey) → Spells key parts → IsChain LmsValid key (suc n) bytes message → IsLinkedAt LmsValid key (suc n) (signature_length parts) bytes message
first_at key n bytes message parts spells chain =
    let link = linked LmsValid valid_is_formed key (suc n) bytes message (omega arith) chain in
    let form = valid_is_formed key link.next link.signature link.valid in
    linked_at LmsValid key (suc n) (signature_length parts) bytes message link (formed_size key link.signature parts spells form)

linked_or_not : (key : List ℕ) (n : ℕ) (bytes message : List ℕ) (parts : LmsKey) (len : ℕ) → Spells key parts → len ≡ signature_length parts → (length bytes < len + 56) ⊎ (len + 56 ≤ length bytes)
    → LmsValid key (slice_range bytes len (len + 56)) (take len bytes) ⊎ (¬ (LmsValid key (slice_range bytes len (len + 56)) (take len bytes)))
    → IsChain LmsValid (slice_range bytes len (len + 56)) (suc n - 1) (slice_range bytes (len + 56) (length bytes)) message ⊎
    (¬ (IsChain LmsValid (slice_range bytes len (len + 56)) (suc n - 1) (slice_range bytes (len + 56) (length bytes)) message))
    → IsChain LmsValid key (suc n) bytes message ⊎ (¬ (IsChain LmsValid key (suc n) bytes message))
linked_or_not key n bytes message parts len spells is (inr room) (inl valid) (inl more) = inl (chained LmsValid key (suc n) bytes message (omega arith)
    (linked_from LmsValid key (suc n) len bytes message (record { room = room; valid = valid; more = more })))
linked_or_not key n bytes message parts len spells is (inl short) _ _ = inr (λ chain.
    let room = (first_at key n bytes message parts spells chain).room in
    omega (arith, short, is))
linked_or_not key n bytes message parts len spells is (inr _) (inr wrong) _ = inr (λ chain. wrong (rw is (first_at key n bytes message parts spells chain).valid))
linked_or_not key n bytes message parts len spells is (inr _) (inl _) (inr wrong) = inr (λ chain. wrong (rw is (first_at key n bytes message parts spells chain).more))

no_key : (key : List ℕ) (n : ℕ) (bytes message : List ℕ) → ¬ (IsPublicKey key) → ¬ (IsChain LmsValid key (suc n) bytes message)
no_key key n bytes message wrong chain =
    let link = linked LmsValid valid_is_formed key (suc n) bytes message (omega arith) chain in
    wrong (link.valid.key, link.valid.public_key)

-- the bytes are a chain of so many links, or not
chain_or_not : (n : ℕ) (key bytes message : List ℕ) → IsChain LmsValid key n bytes message ⊎ (¬ (IsChain LmsValid key n bytes message))
chain_or_not zero key bytes message = last_or_not key bytes message (lms_valid_or_not key message bytes)
chain_or_not (suc n) key bytes message = elim (public_key_or_not key) [
  | inl parts ↦
      let len = signature_length parts.0 in
      let next = slice_range bytes len (len + 56) in
      let one_less : suc n - 1 ≡ n = omega arith in
      linked_or_not key n bytes message parts.0 len parts.1 refl (cases_lt (length bytes) (len + 56)) (lms_valid_or_not key next (take len bytes)) (rw one_less (chain_or_not n next (slice_range bytes (len + 56) (length bytes)) message))
  | inr wrong ↦ inr (no_key key n bytes message wrong)
]

valid_by : (public message signature : List ℕ) → IsHssPublic public ⊎ (¬ (IsHssPublic public)) → (length signature < 4) ⊎ (4 ≤ length signature) → (u32_at signature 0 ≡ u32_at public 0 - 1) ⊎ (¬ (u32_at signature 0 ≡ u32_at public 0 - 1))
    → (signature ≡ u32_bytes (u32_at signature 0) ++ slice_range signature 4 (length signature)) ⊎ (¬ (signature ≡ u32_bytes (u32_at signature 0) ++ slice_range signature 4 (length signature)))
    → IsChain LmsValid (slice_range public 4 60) (u32_at public 0 - 1) (slice_range signature 4 (length signature)) message ⊎
    (¬ (IsChain LmsValid (slice_range public 4 60) (u32_at public 0 - 1) (slice_range signature 4 (length signature)) message))
    → HssValid public message signature ⊎ (¬ (HssValid public message signature))
valid_by public message signature (inl key) (inr room) (inl count) (inl begun) (inl chain) = inl (valid_from public message signature (u32_at public 0) begun key refl (record { room = room; count = count; chain = chain }))
valid_by public message signature (inr wrong) _ _ _ _ = inr (λ valid. wrong valid.public_key)
valid_by public message signature (inl _) (inl short) _ _ _ = inr (λ valid. let room = (counted public message signature (u32_at public 0) refl valid).room in omega (arith, short))
valid_by public message signature (inl _) (inr _) (inr wrong) _ _ = inr (λ valid. wrong (counted public message signature (u32_at public 0) refl valid).count)
valid_by public message signature (inl _) (inr _) (inl _) (inr wrong) _ = inr (λ valid. wrong (begins_counted public message signature valid))
valid_by public message signature (inl _) (inr _) (inl _) (inl _) (inr wrong) = inr (λ valid. wrong (counted public message signature (u32_at public 0) refl valid).chain)

-- a signature is valid, or not
pub hss_valid_or_not : (public message signature : List ℕ) → HssValid public message signature ⊎ (¬ (HssValid public message signature))
hss_valid_or_not public message signature = valid_by public message signature (hss_public_or_not public) (cases_lt (length signature) 4)
    (or_not _ (Decides-eqb (u32_at signature 0) (u32_at public 0 - 1)))
    (or_not _ (bytes_eq-Decides signature (u32_bytes (u32_at signature 0) ++ slice_range signature 4 (length signature))))
    (chain_or_not (u32_at public 0 - 1) (slice_range public 4 60) (slice_range signature 4 (length signature)) message)
