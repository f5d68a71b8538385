-- The first fault of bytes that spell no item.
use Rattle.std.specs.Prelude.{ℕ, zero, suc, ◌/◌, ◌%◌, ◌<◌, ◌≡◌, ◌⊎◌, Bool, true, false, List, [], ◌∷◌, ◌++◌, length, Some, None}
use Rattle.std.specs.List.{AllByRecursion}
use Rattle.cbor_core.specs.declared.item.Item.{Item}
use Rattle.cbor_core.specs.declared.item.Pair.{Pair}
use Rattle.cbor_heads.specs.declared.fault.Fault.{Fault}
use Rattle.cbor_heads.specs.declared.fault.Why.TheVariants as why
use Rattle.cbor_heads.specs.declared.head.Kind.{Kind}
use Rattle.cbor_heads.specs.declared.head.Kind.TheVariants as k
use Rattle.cbor_heads.specs.Place.{Place, skip, behind}
use Rattle.cbor_core.specs.Spelling.{spelling, spellings, pair_spellings, bytes_below, KeysAscend, IsSpellable}
use Rattle.cbor_core.specs.Table.{announced, table}

-- the spelling of the last key
abbrev pub last_key : List ℕ → List Pair → List ℕ
last_key last [] = last
last_key last (p ∷ ps) = last_key (spelling p.key) ps

-- P: what a part must be; F: how a part is faulty
module _ (P : Item → Type 0) (F : Place → Fault → Type 0) where
  -- some members, fewer than n, are spelled, and the next is faulty
  pub record ArrayFault (n : ℕ) (q : Place) (f : Fault) : Type 0 where
    pub members : List Item
    pub more : List ℕ
    pub fewer : length members < n
    pub proper : AllByRecursion P members
    pub spelled : q.rest ≡ spellings members ++ more
    pub next : F (behind q.at (spellings members) more) f

  -- a key is spelled, and it is not above the last one, or its value is faulty
  pub record AfterKey (last : List ℕ) (q : Place) (f : Fault) : Type 0 where
    pub key : Item
    pub more : List ℕ
    pub proper : P key
    pub spelled : q.rest ≡ spelling key ++ more
    pub next : ((bytes_below last (spelling key) ≡ false) × (f ≡ record { at = q.at; why = why.KeyOrder }))
        ⊎ ((bytes_below last (spelling key) ≡ true) × F (behind q.at (spelling key) more) f)

  -- some pairs, fewer than n, are spelled, and the next key or what follows it is faulty
  pub record MapFault (n : ℕ) (last : List ℕ) (q : Place) (f : Fault) : Type 0 where
    pub pairs : List Pair
    pub more : List ℕ
    pub fewer : length pairs < n
    pub proper : AllByRecursion (λ p. P p.key × P p.value) pairs
    pub ascend : KeysAscend last pairs
    pub spelled : q.rest ≡ pair_spellings pairs ++ more
    pub next : F (behind q.at (pair_spellings pairs) more) f ⊎ AfterKey (last_key last pairs) (behind q.at (pair_spellings pairs) more) f

  -- a part of what the head announced is faulty
  abbrev pub PartFault : Kind → ℕ → Place → Fault → Type 0
  PartFault k.Array n q f = ArrayFault n q f
  PartFault k.Map n q f = MapFault n [] q f
  PartFault k.Tag n q f = F q f
  PartFault _ n q f = ⊥

  -- a part of what the head at the place announces is faulty
  abbrev pub PartFaultBy : Place → List ℕ → Fault → Type 0
  PartFaultBy p [] f = ⊥
  PartFaultBy p (first ∷ behind) f = let head = announced (first / 32) (first % 32) (skip 1 p) in PartFault head.0.kind head.0.argument head.1 f

  -- the item breaks a rule by itself, or it breaks none and a part is faulty
  abbrev pub FaultyBy : Bool → Place → Fault → Type 0
  FaultyBy room p f = ((table room p ≡ Some f.why) × (f.at ≡ p.at)) ⊎ ((table room p ≡ None) × PartFaultBy p p.rest f)

-- the item at the place, inside which so many containers may stand, is faulty
abbrev pub Faulty : ℕ → Place → Fault → Type 0
Faulty zero p f = FaultyBy (λ _. ⊥) (λ _ _. ⊥) false p f
Faulty (suc depth) p f = FaultyBy (IsSpellable depth) (Faulty depth) true p f
