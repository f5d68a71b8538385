-- The place of the first fault of a text that prints no proper item.
use Rattle.std.specs.Prelude.{ℕ, zero, suc, ◌+◌, ◌^◌, ◌<◌, ◌≡◌, ◌⊎◌, Bool, true, false, List, [], ◌∷◌, ◌++◌, length, codes, decimal}
use Rattle.std.specs.List.{flat_map, AllByRecursion}
use Rattle.std.specs.Char.{is_ascii_digit}
use Rattle.base_types.specs.declared.limits.TheConstants.{CBOR_DEPTH_LIMIT}
use Rattle.cbor_core.specs.declared.item.Item.{Item, out-Item}
use Rattle.cbor_core.specs.declared.item.Item.TheOpen.{Item-F}
use Rattle.cbor_core.specs.declared.item.Pair.{Pair}
use Rattle.cbor_heads.specs.Place.{Place, start, behind}
use Rattle.cbor_core.specs.Spelling.{spelling, bytes_below, KeysAscend, IsSpellable}
use Rattle.cbor_core.specs.Faulty.{last_key}
use Rattle.diag_text.specs.Printed.{printed, pair_printed}

-- ---- what stands in front of a text

-- the token stands in front
abbrev pub Starts : List ℕ → List ℕ → Type 0
Starts token text = (more : List ℕ) × (text ≡ token ++ more)

-- no digit stands in front
abbrev pub NoDigit : List ℕ → Type 0
NoDigit [] = Unit {0}
NoDigit (c ∷ cs) = is_ascii_digit c ≡ false

-- nothing that goes on with an unsigned number
abbrev pub EndsNumber : List ℕ → Type 0
EndsNumber more = NoDigit more × (Starts (codes "(") more → ⊥)

-- what follows an item's text does not go on with it, by the item's layer
abbrev pub EndsBy : Item-F Item Pair → List ℕ → Type 0
EndsBy (Item-F.Unsigned n) more = EndsNumber more
EndsBy (Item-F.Negative n) more = NoDigit more
EndsBy _ more = Unit {0}

-- what follows an item's text does not go on with it
abbrev pub Ends : Item → List ℕ → Type 0
Ends x more = EndsBy (out-Item x) more

-- an item's text stands in front, and more behind it
pub record Stands (x : Item) (text more : List ℕ) : Type 0 where
  pub front : text ≡ printed x ++ more
  pub ends : Ends x more

-- an item that is no container stands in front: a number, a byte string, a text or a word
pub record HasScalar (text : List ℕ) : Type 0 where
  pub item : Item
  pub more : List ℕ
  pub proper : IsSpellable 0 item
  pub stands : Stands item text more

-- a number and a bracket stand in front
pub record HasTag (text : List ℕ) : Type 0 where
  pub number : ℕ
  pub small : number < 2 ^ 64
  pub stands : Starts (decimal number ++ codes "(") text

-- a container's mark stands in front
abbrev pub Opens : List ℕ → Type 0
Opens text = Starts (codes "[") text ⊎ (Starts (codes "{") text ⊎ HasTag text)

-- an item begins here; room says whether it may be a container
abbrev pub Begins : Bool → List ℕ → Type 0
Begins room text = HasScalar text ⊎ ((room ≡ true) × Opens text)

-- ---- faults

-- texts in a row, each with a comma and a space behind it
abbrev pub followed : {X : Type 0} → (X → List ℕ) → List X → List ℕ
followed text = flat_map (λ x. text x ++ codes ", ")

-- neither the closing mark nor a comma
abbrev pub NeitherMark : List ℕ → List ℕ → Type 0
NeitherMark close more = (Starts close more → ⊥) × (Starts (codes ", ") more → ⊥)

-- an item that meets P stands here, what is behind it is wrong, and the fault is there
pub record WrongBehind (P : Item → Type 0) (Wrong : List ℕ → Type 0) (q : Place) (at : ℕ) : Type 0 where
  pub item : Item
  pub more : List ℕ
  pub proper : P item
  pub stands : Stands item q.rest more
  pub wrong : Wrong more
  pub place : at ≡ q.at + length (printed item)

-- P: what a part must be; F: how a part is faulty
module _ (P : Item → Type 0) (F : Place → ℕ → Type 0) where
  -- the part at the place is faulty, or what stands behind it is wrong
  abbrev pub PartFault : (List ℕ → Type 0) → Place → ℕ → Type 0
  PartFault Wrong q at = F q at ⊎ WrongBehind P Wrong q at

  -- some members stand behind the mark, and the next, where the array does not close, is at fault
  pub record ArrayFault (p : Place) (at : ℕ) : Type 0 where
    pub members : List Item
    pub more : List ℕ
    pub proper : AllByRecursion P members
    pub stands : p.rest ≡ codes "[" ++ (followed printed members ++ more)
    pub unclosed : members ≡ [] → Starts (codes "]") more → ⊥
    pub next : PartFault (NeitherMark (codes "]")) (behind p.at (codes "[" ++ followed printed members) more) at

  -- behind a key: no colon and space, or they and a value that is at fault
  abbrev pub ColonFault : Place → ℕ → Type 0
  ColonFault q at = ((Starts (codes ": ") q.rest → ⊥) × (at ≡ q.at))
      ⊎ ((more : List ℕ) × (q.rest ≡ codes ": " ++ more) × PartFault (NeitherMark (codes "}")) (behind q.at (codes ": ") more) at)

  -- a key stands here, and it is not above the last one, or what is behind it is at fault
  pub record KeyFault (last : List ℕ) (q : Place) (at : ℕ) : Type 0 where
    pub key : Item
    pub more : List ℕ
    pub proper : P key
    pub stands : Stands key q.rest more
    pub next : ((bytes_below last (spelling key) ≡ false) × (at ≡ q.at))
        ⊎ ((bytes_below last (spelling key) ≡ true) × ColonFault (behind q.at (printed key) more) at)

  -- some pairs stand behind the mark, and the next, where the map does not close, is at fault
  pub record MapFault (p : Place) (at : ℕ) : Type 0 where
    pub pairs : List Pair
    pub more : List ℕ
    pub proper : AllByRecursion (λ p. P p.key × P p.value) pairs
    pub ascend : KeysAscend [] pairs
    pub stands : p.rest ≡ codes "{" ++ (followed pair_printed pairs ++ more)
    pub unclosed : pairs ≡ [] → Starts (codes "}") more → ⊥
    pub next : F (behind p.at (codes "{" ++ followed pair_printed pairs) more) at
        ⊎ KeyFault (last_key [] pairs) (behind p.at (codes "{" ++ followed pair_printed pairs) more) at

  -- a number and a bracket stand here, and the content is at fault
  pub record TagFault (p : Place) (at : ℕ) : Type 0 where
    pub number : ℕ
    pub more : List ℕ
    pub small : number < 2 ^ 64
    pub stands : p.rest ≡ decimal number ++ (codes "(" ++ more)
    pub next : PartFault (λ rest. Starts (codes ")") rest → ⊥) (behind p.at (decimal number ++ codes "(") more) at

  -- no item begins here, or a container does and is faulty behind its mark
  abbrev pub FaultyBy : Bool → Place → ℕ → Type 0
  FaultyBy room p at = ((Begins room p.rest → ⊥) × (at ≡ p.at)) ⊎ (ArrayFault p at ⊎ (MapFault p at ⊎ TagFault p at))

-- the item at the place, inside which so many containers may stand, is faulty
abbrev pub Faulty : ℕ → Place → ℕ → Type 0
Faulty zero p at = FaultyBy (λ _. ⊥) (λ _ _. ⊥) false p at
Faulty (suc depth) p at = FaultyBy (IsSpellable depth) (Faulty depth) true p at

-- the item of the text is faulty, or a proper item stands in front, and the fault is the first byte behind it
abbrev pub TextFaulty : List ℕ → ℕ → Type 0
TextFaulty text at = Faulty CBOR_DEPTH_LIMIT (start text) at ⊎ WrongBehind (IsSpellable CBOR_DEPTH_LIMIT) (λ more. 0 < length more) (start text) at
