-- Of some blocks one is the first that an anchor signed, or none is.
use Rattle.std.proofs.Common.{◌≡◌, ◌⊎◌, ℕ, List, [], ◌∷◌, Option, None, Some, refl, sym, ap, subst, ◌∙◌, inl, inr}
use Rattle.std.specs.List.{AllByRecursion}
use Rattle.base_types.specs.Bytes.{IsBytes}
use Rattle.cose_core.specs.declared.sign1.Sign1.{Sign1}
use Rattle.cose_core.specs.Sign1.{Sign1Is}
use Rattle.cose_core.proofs.Public.Envelopes.{one_envelope, envelope_or_refused}
use Rattle.trust_anchors.specs.declared.anchors.Anchors.{Anchors}
use Rattle.trust_anchors.specs.declared.role.Role.{Role}
use Rattle.trust_anchors.specs.Blocks.{BlockSigned, BlockPassed, VerifiedAny}
use Rattle.trust_anchors.specs.Verified.{Verified}
use Rattle.trust_anchors.proofs.Lists.{first_or_all, first_with}
use Rattle.trust_anchors.proofs.BlockSearches as searches
use Rattle.trust_anchors.proofs.Public.Signers.{signed_or_not}

module _ (v : Anchors) (r : Role) (payload : List ℕ) where
  abbrev HasSigner : List ℕ → Type 0
  HasSigner block = (anchor : ℕ) × BlockSigned v r payload block anchor

  by_payload : (block : List ℕ) (m : Sign1) (o : Option (List ℕ)) → Sign1Is m block → m.payload ≡ o → HasSigner block ⊎ BlockPassed v r payload block
  by_payload block m None is none = elim (signed_or_not v r m payload) [
    | inl at ↦ inl (at.0, record { message = m; is = is; detached = none; verified = at.1 })
    | inr wrong ↦ inr (λ anchor signed. wrong anchor (subst (λ (n : Sign1). Verified v r n payload anchor) (one_envelope block signed.message m signed.is is) signed.verified))
  ]
  by_payload block m (Some own) is some = inr (λ anchor signed.
      (let same : signed.message ≡ m = one_envelope block signed.message m signed.is is in
      let both : None ≡ Some own = sym signed.detached ∙ ap (λ (n : Sign1). n.payload) same ∙ some in
      cc))

  -- some anchor of the role is the first that signed the block, or none did
  pub block_or_passed : (block : List ℕ) → IsBytes block → HasSigner block ⊎ BlockPassed v r payload block
  block_or_passed block are = elim (envelope_or_refused block are) [
    | inl one ↦ by_payload block one.value one.value.payload one.is refl
    | inr fails ↦ inr (λ anchor signed. fails.no_value signed.message signed.is)
  ]

  each_or_passed : (blocks : List (List ℕ)) → AllByRecursion IsBytes blocks → AllByRecursion (λ block. HasSigner block ⊎ BlockPassed v r payload block) blocks
  each_or_passed [] all = tt
  each_or_passed (block ∷ blocks) all = (block_or_passed block all.0, each_or_passed blocks all.1)

  -- some block is the first that is signed, or none is
  pub any_or_none : (blocks : List (List ℕ)) → AllByRecursion IsBytes blocks
      → ((place : ℕ) × (anchor : ℕ) × VerifiedAny v r blocks payload place anchor) ⊎ ((place anchor : ℕ) → VerifiedAny v r blocks payload place anchor → ⊥)
  any_or_none blocks are = elim (first_or_all (BlockPassed v r payload) HasSigner blocks (each_or_passed blocks are)) [
    | inl first ↦ (let told = first_with (BlockPassed v r payload) HasSigner (λ anchor block. BlockSigned v r payload block anchor) (λ block signed. signed) blocks first.0 first.1 in
        inl (first.0, told.0, told.1))
    | inr none ↦ inr (λ place anchor first. searches.none_signed v r blocks payload none place anchor first)
  ]

-- one block is the first, with one anchor
pub one_place : (v : Anchors) (r : Role) (blocks : List (List ℕ)) (payload : List ℕ) (j k a b : ℕ) → VerifiedAny v r blocks payload j a → VerifiedAny v r blocks payload k b → (j ≡ k) × (a ≡ b)
one_place v r blocks payload j k a b one two = searches.one_place v r blocks payload j k a b one two
