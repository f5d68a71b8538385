-- Items are one set of anchors, or have one refusal, and never both.
use Rattle.std.proofs.Common.{◌≡◌, List, Result, Ok, Err, sym, ap, subst, inl, inr}
use Rattle.cbor_core.specs.declared.item.Item.{Item}
use Rattle.cbor_core.specs.Spelling.{HasRanges}
use Rattle.cose_core.specs.Law.{ExactlyOne}
use Rattle.trust_anchors.specs.declared.anchors.Anchors.{Anchors}
use Rattle.trust_anchors.specs.declared.fault.AnchorFault.{AnchorFault}
use Rattle.trust_anchors.specs.declared.fault.AnchorFault.TheVariants as faults
use Rattle.trust_anchors.specs.Anchors.{AnchorsIs, RefusedAs, RolesReadAs}
use Rattle.trust_anchors.specs.Law.{OneAnchors}
use Rattle.trust_anchors.proofs.Readers.{two, NotTwo, is_found, is_bad, is_only, is_refused, none_refused, none_bad, roles_of}
use Rattle.trust_anchors.proofs.There.{answered, two_or_not, parts_in_range}

-- an item is one set of anchors at most
pub one_set : (x : Item) (v w : Anchors) → AnchorsIs v x → AnchorsIs w x → v ≡ w
one_set x v w is other =
    let there = is.small.form.array in
    is_only x is.managers is.authors (Ok v) there (roles_of x is.managers is.authors v there is) w other

-- the item of anchors has no refusal
pub anchors_not_refused : (x : Item) (v : Anchors) (e : AnchorFault) → AnchorsIs v x → RefusedAs x e → ⊥
anchors_not_refused x v e is refused =
    let there = is.small.form.array in
    is_refused x is.managers is.authors (Ok v) there (roles_of x is.managers is.authors v there is) e refused

module _ (x : Item) where
  refusal : (d : AnchorFault) → RefusedAs x d → ((e : AnchorFault) → RefusedAs x e → e ≡ d) → ExactlyOne (λ (v : Anchors). AnchorsIs v x) (λ (e : AnchorFault). RefusedAs x e)
  refusal d refused alone = inr (record { fault = d; refused = refused; alone = alone; no_value = λ v is. anchors_not_refused x v d is refused })

  by_roles : (ms bs : List Item) (r : Result Anchors AnchorFault) → x ≡ two ms bs → RolesReadAs ms bs r → (r ≡ Err faults.NoMemory → ⊥)
      → ExactlyOne (λ (v : Anchors). AnchorsIs v x) (λ (e : AnchorFault). RefusedAs x e)
  by_roles ms bs (Ok v) is h known =
      let found = is_found x ms bs (Ok v) is h in
      inl (record { value = v; is = found; alone = λ w other. one_set x w v other found; no_refusal = λ e refused. anchors_not_refused x v e found refused })
  by_roles ms bs (Err d) is h known = elim (is_bad x ms bs (Err d) is h) [
    | inl memory ↦ absurd (known (ap (λ (f : AnchorFault). Err f) memory))
    | inr refused ↦ refusal d refused (λ e bad. elim (is_refused x ms bs (Err d) is h e bad) [
      | inl same ↦ sym same
      | inr memory ↦ absurd (known (ap (λ (f : AnchorFault). Err f) memory))
    ])
  ]

  by_none : NotTwo x → ExactlyOne (λ (v : Anchors). AnchorsIs v x) (λ (e : AnchorFault). RefusedAs x e)
  by_none none = refusal faults.Shape (none_bad x none) (λ e bad. elim (none_refused x none e bad) [
    | inl same ↦ sym same
    | inr memory ↦ absurd cc
  ])

-- an item in range is anchors, or has a refusal
pub anchors_or_refused : OneAnchors
anchors_or_refused x r = elim (two_or_not x) [
  | inr none ↦ by_none x none
  | inl both ↦
      let parts = parts_in_range both.managers both.authors (subst HasRanges both.is r) in
      let a = answered both.managers both.authors parts.0 parts.1 in
      by_roles x both.managers both.authors a.result both.is a.answers a.not_memory
]
