-- What the search among blocks says.
use Rattle.std.proofs.Common.{◌≡◌, ℕ, List, Option, Some, None, true, false, refl, sym, subst, ap, ◌∙◌}
use Rattle.std.specs.Prelude.{Result, Ok, Err, MatchOption, MatchResult, option_map}
use Rattle.std.specs.Option.{is_some}
use Rattle.std.specs.List.{AllByRecursion}
use Rattle.cbor_core.specs.Spelling.{spelling}
use Rattle.cose_core.specs.declared.borrowed.Signed.{Signed}
use Rattle.cose_core.specs.declared.fault.CoseFault.{CoseFault}
use Rattle.cose_core.specs.declared.sign1.Sign1.{Sign1}
use Rattle.cose_core.specs.Borrowed.{IsPartsOf}
use Rattle.cose_core.specs.Sign1.{Sign1Is}
use Rattle.cose_core.specs.Signed.{signed_item}
use Rattle.cose_core.proofs.Public.Envelopes.{one_envelope}
use Rattle.trust_anchors.specs.declared.anchors.Anchors.{Anchors}
use Rattle.trust_anchors.specs.declared.role.Role.{Role}
use Rattle.trust_anchors.specs.declared.fault.SignFault.{SignFault}
use Rattle.trust_anchors.specs.declared.fault.SignFault.TheVariants as sign
use Rattle.trust_anchors.specs.Anchors.{keys_of}
use Rattle.trust_anchors.specs.First.{FirstAt}
use Rattle.trust_anchors.specs.Verified.{Signs, Verified, VerifiedBy}
use Rattle.trust_anchors.specs.Blocks.{BlockSigned, BlockPassed, VerifiedAny, IsPlace, BlocksSearchedAs}
use Rattle.trust_anchors.proofs.Lists.{first_one, first_none, first_both, first_wider}

-- ---- an option and its image

pub image_none : {X Y : Type 0} (f : X → Y) (o : Option X) → false ≡ is_some o → option_map f o ≡ None
image_none f None e = refl
image_none f (Some x) e = absurd cc

pub image_some : {X Y : Type 0} (f : X → Y) (o : Option X) → true ≡ is_some o → option_map f o ≡ None → ⊥
image_some f None e none = absurd cc
image_some f (Some x) e none = absurd cc

-- ---- one block

module _ (v : Anchors) (r : Role) (payload block : List ℕ) where
  -- what is said of the bytes that the block is
  pub signer_of : (bytes : List ℕ) (o found : Option ℕ) → bytes ≡ block → o ≡ found
      → MatchOption o (BlockPassed v r payload bytes) (BlockSigned v r payload bytes) → MatchOption found (BlockPassed v r payload block) (BlockSigned v r payload block)
  signer_of bytes o found same is h =
      subst (λ (q : Option ℕ). MatchOption q (BlockPassed v r payload block) (BlockSigned v r payload block)) is
      (subst (λ (b : List ℕ). MatchOption o (BlockPassed v r payload b) (BlockSigned v r payload b)) same h)

  -- bytes that are no COSE_Sign1
  pub no_message : (q : Result Signed CoseFault) (e : CoseFault) → q ≡ Err e → ((m : Sign1) → Sign1Is m block → MatchResult q (λ w. IsPartsOf w m) (λ _. ⊥)) → BlockPassed v r payload block
  no_message q e is only anchor signed = subst (λ (p : Result Signed CoseFault). MatchResult p (λ w. IsPartsOf w signed.message) (λ _. ⊥)) is (only signed.message signed.is)

  module _ (w : Signed) (m : Sign1) (is : Sign1Is m block) (parts : IsPartsOf w m) where
    -- a block with a payload of its own
    pub own_payload : (option_map (λ s. s.now) w.payload ≡ None → ⊥) → BlockPassed v r payload block
    own_payload some anchor signed =
        let same : signed.message ≡ m = one_envelope block signed.message m signed.is is in
        some (parts.payload ∙ ap (λ (n : Sign1). n.payload) (sym same) ∙ signed.detached)

    verified_parts : (anchor : ℕ) → VerifiedBy v r w.protected.now w.signature.now payload anchor → Verified v r m payload anchor
    verified_parts anchor by =
        subst (λ (s : List ℕ). VerifiedBy v r m.protected s payload anchor) parts.signature
        (subst (λ (p : List ℕ). VerifiedBy v r p w.signature.now payload anchor) parts.protected by)

    parts_verified : (anchor : ℕ) → Verified v r m payload anchor → VerifiedBy v r w.protected.now w.signature.now payload anchor
    parts_verified anchor by =
        subst (λ (s : List ℕ). VerifiedBy v r w.protected.now s payload anchor) (sym parts.signature)
        (subst (λ (p : List ℕ). VerifiedBy v r p m.signature payload anchor) (sym parts.protected) by)

    -- a block whose parts an anchor verifies
    pub is_signed : option_map (λ s. s.now) w.payload ≡ None → (anchor : ℕ) → VerifiedBy v r w.protected.now w.signature.now payload anchor → BlockSigned v r payload block anchor
    is_signed none anchor by = record { message = m; is = is; detached = sym parts.payload ∙ none; verified = verified_parts anchor by }

    -- a block whose parts none verifies
    pub is_not_signed : ((anchor : ℕ) → VerifiedBy v r w.protected.now w.signature.now payload anchor → ⊥) → BlockPassed v r payload block
    is_not_signed wrong anchor signed =
        let same : signed.message ≡ m = one_envelope block signed.message m signed.is is in
        wrong anchor (parts_verified anchor (subst (λ (n : Sign1). Verified v r n payload anchor) same signed.verified))

  -- a block has one first anchor at most
  one_anchor : (i j : ℕ) → BlockSigned v r payload block i → BlockSigned v r payload block j → i ≡ j
  one_anchor i j a b =
      let same : a.message ≡ b.message = one_envelope block a.message b.message a.is b.is in
      let m = spelling (signed_item b.message.protected payload) in
      let s = b.message.signature in
      first_one (λ key. ¬ (Signs m s key)) (Signs m s) (λ key wrong right. wrong right) (keys_of r v) i j
      (subst (λ (n : Sign1). Verified v r n payload i) same a.verified) b.verified

-- ---- all blocks

module _ (v : Anchors) (r : Role) (blocks : List (List ℕ)) (payload : List ℕ) where
  -- some anchor signed the block
  abbrev HasSigner : List ℕ → Type 0
  HasSigner block = (anchor : ℕ) × BlockSigned v r payload block anchor

  passed_or_signed : (block : List ℕ) → BlockPassed v r payload block → HasSigner block → ⊥
  passed_or_signed block passed signed = passed signed.0 signed.1

  has_signer : (place anchor : ℕ) → VerifiedAny v r blocks payload place anchor → FirstAt (BlockPassed v r payload) HasSigner blocks place
  has_signer place anchor first = first_wider (BlockPassed v r payload) (λ block. BlockSigned v r payload block anchor) HasSigner (λ block signed. (anchor, signed)) blocks place first

  -- one place at most
  pub one_place : (j k a b : ℕ) → VerifiedAny v r blocks payload j a → VerifiedAny v r blocks payload k b → (j ≡ k) × (a ≡ b)
  one_place j k a b one two =
      let same : j ≡ k = first_one (BlockPassed v r payload) HasSigner passed_or_signed blocks j k (has_signer j a one) (has_signer k b two) in
      let here : VerifiedAny v r blocks payload k a = subst (λ (n : ℕ). VerifiedAny v r blocks payload n a) same one in
      let both = first_both (BlockPassed v r payload) (λ block. BlockSigned v r payload block a) (λ block. BlockSigned v r payload block b) blocks k here two in
      (same, one_anchor v r payload both.0 a b both.1 both.2)

  -- where all are passed over, none is the first
  pub none_signed : AllByRecursion (BlockPassed v r payload) blocks → (place anchor : ℕ) → VerifiedAny v r blocks payload place anchor → ⊥
  none_signed none place anchor first = first_none (BlockPassed v r payload) HasSigner passed_or_signed blocks place none (has_signer place anchor first)

  -- the first that is signed is found
  pub blocks_only : (q : Result (ℕ × ℕ) SignFault) → BlocksSearchedAs v r blocks payload q → (place anchor : ℕ) → VerifiedAny v r blocks payload place anchor → IsPlace q place anchor
  blocks_only (Ok t) h place anchor first = one_place t.0 place t.1 anchor h first
  blocks_only (Err sign.NotSigned) h place anchor first = none_signed h place anchor first
  blocks_only (Err sign.NoMemory) h place anchor first = tt

  -- NotSigned says that none is
  pub blocks_not_signed : (q : Result (ℕ × ℕ) SignFault) → BlocksSearchedAs v r blocks payload q → q ≡ Err sign.NotSigned → (place anchor : ℕ) → VerifiedAny v r blocks payload place anchor → ⊥
  blocks_not_signed q h is place anchor first =
      let none : IsPlace (Err sign.NotSigned) place anchor = subst (λ (p : Result (ℕ × ℕ) SignFault). IsPlace p place anchor) is (blocks_only q h place anchor first) in none
