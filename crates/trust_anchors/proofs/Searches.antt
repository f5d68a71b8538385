-- What the search for a signer says.
use Rattle.std.proofs.Common.{◌≡◌, ℕ, List, sym, subst, inl, inr}
use Rattle.std.specs.Prelude.{Result, Ok, Err, IfOk}
use Rattle.trust_anchors.specs.declared.fault.SignFault.{SignFault}
use Rattle.trust_anchors.specs.declared.fault.SignFault.TheVariants as sign
use Rattle.trust_anchors.specs.Verified.{Signs, FirstSigner, IsSigner, SearchedAs, SearchedOver}
use Rattle.trust_anchors.proofs.Lists.{first_one, first_none}

signer_only : (keys : List (List ℕ)) (message signature : List ℕ) (r : Result ℕ SignFault) → SearchedAs keys message signature r → (at : ℕ) → FirstSigner keys message signature at → IsSigner r at
signer_only keys m s (Ok n) h at first = first_one (λ key. ¬ (Signs m s key)) (Signs m s) (λ key wrong right. wrong right) keys n at h first
signer_only keys m s (Err sign.NotSigned) h at first = first_none (λ key. ¬ (Signs m s key)) (Signs m s) (λ key wrong right. wrong right) keys at h first
signer_only keys m s (Err sign.NoMemory) h at first = tt

-- the same search over what the arguments are
searched : (keys keys' : List (List ℕ)) (m m' s s' : List ℕ) (r : Result ℕ SignFault) → keys ≡ keys' → m ≡ m' → s ≡ s' → SearchedAs keys m s r → SearchedAs keys' m' s' r
searched keys keys' m m' s s' r e f g h =
    subst (λ (ks : List (List ℕ)). SearchedAs ks m' s' r) e (subst (λ (t : List ℕ). SearchedAs keys t s' r) f (subst (λ (t : List ℕ). SearchedAs keys m t r) g h))

over_found : (keys : List (List ℕ)) (m s : List ℕ) (r : Result ℕ SignFault) → SearchedOver keys m s r → IfOk r (λ at. FirstSigner keys m s at)
over_found keys m s (Ok at) (inl h) = h
over_found keys m s (Ok at) (inr memory) = absurd cc
over_found keys m s (Err e) h = tt

over_only : (keys : List (List ℕ)) (m s : List ℕ) (r : Result ℕ SignFault) → SearchedOver keys m s r → (at : ℕ) → FirstSigner keys m s at → IsSigner r at
over_only keys m s r (inl h) at first = signer_only keys m s r h at first
over_only keys m s r (inr memory) at first = subst (λ (q : Result ℕ SignFault). IsSigner q at) (sym memory) tt

module _ (keys keys' : List (List ℕ)) (m m' s s' : List ℕ) (r : Result ℕ SignFault) (e : keys ≡ keys') (f : m ≡ m') (g : s ≡ s') (h : SearchedOver keys m s r) where
  over : SearchedOver keys' m' s' r
  over = elim h [ inl is ↦ inl (searched keys keys' m m' s s' r e f g is) | inr memory ↦ inr memory ]

  -- what is found is the first that signed
  pub search_found : IfOk r (λ at. FirstSigner keys' m' s' at)
  search_found = over_found keys' m' s' r over

  -- the first that signed is found
  pub search_only : (at : ℕ) → FirstSigner keys' m' s' at → IsSigner r at
  search_only = over_only keys' m' s' r over

  -- NotSigned says that none did
  pub search_not_signed : r ≡ Err sign.NotSigned → (at : ℕ) → FirstSigner keys' m' s' at → ⊥
  search_not_signed is at first = let none : IsSigner (Err sign.NotSigned) at = subst (λ (q : Result ℕ SignFault). IsSigner q at) is (search_only at first) in none
