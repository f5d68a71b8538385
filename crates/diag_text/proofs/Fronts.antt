-- What stands in front of a text, as a test and as a fact.
use Rattle.std.proofs.Common.{◌≡◌, ℕ, true, false, List, [], ◌∷◌, ◌++◌, length, drop, refl, inl, inr, codes}
use Rattle.std.specs.Char.{is_ascii_digit}
use Rattle.std.proofs.lemmas.Bool.{cases_Bool}
use Rattle.std.proofs.lemmas.Bool.Decides.{Decides-eqb}
use Rattle.std.proofs.lemmas.Slice.Eq.{starts_is}
use Rattle.cbor_core.specs.declared.item.Item.{Item, out-Item}
use Rattle.cbor_core.specs.declared.item.Item.TheOpen.{Item-F}
use Rattle.cbor_core.specs.declared.item.Pair.{Pair}
use Rattle.cbor_heads.specs.Place.{begins}
use Rattle.diag_text.specs.Faulty.{Starts, EndsNumber, EndsBy, Ends}

pub begins_is : (token bytes : List ℕ) → begins token bytes ≡ true → bytes ≡ token ++ drop (length token) bytes
begins_is token bytes e = (starts_is Decides-eqb bytes token (begins token bytes) refl).0 e

pub starts_of : (token text : List ℕ) → begins token text ≡ true → Starts token text
starts_of token text e = (drop (length token) text, begins_is token text e)

pub begins_of : (token text : List ℕ) → Starts token text → begins token text ≡ true
begins_of token text s = (starts_is Decides-eqb text token (begins token text) refl).1 s.0 s.1

pub begins_front : (token more : List ℕ) → begins token (token ++ more) ≡ true
begins_front token more = begins_of token (token ++ more) (more, refl)

pub not_starts : (token text : List ℕ) → begins token text ≡ false → Starts token text → ⊥
not_starts token text e s = let t : begins token text ≡ true = begins_of token text s in cc

pub not_begins : (token text : List ℕ) → (Starts token text → ⊥) → begins token text ≡ false
not_begins token text none = elim (cases_Bool (begins token text)) [ inl e ↦ absurd (none (starts_of token text e)) | inr e ↦ e ]

-- ---- behind an item

pub stops_by : (c : ℕ) (more : List ℕ) → is_ascii_digit c ≡ false → begins (codes "(") (c ∷ more) ≡ false → EndsNumber (c ∷ more)
stops_by c more digit bracket = (digit, not_starts (codes "(") (c ∷ more) bracket)

pub stops_comma : (more : List ℕ) → EndsNumber (codes ", " ++ more)
stops_comma more = stops_by 44 (32 ∷ more) refl refl

pub stops_colon : (more : List ℕ) → EndsNumber (codes ": " ++ more)
stops_colon more = stops_by 58 (32 ∷ more) refl refl

pub stops_bracket : (more : List ℕ) → EndsNumber (codes ")" ++ more)
stops_bracket more = stops_by 41 more refl refl

pub stops_end : EndsNumber []
stops_end = (tt, not_starts (codes "(") [] refl)

ends_by : (l : Item-F Item Pair) (more : List ℕ) → EndsNumber more → EndsBy l more
ends_by (Item-F.Unsigned n) more stop = stop
ends_by (Item-F.Negative n) more stop = stop.0
ends_by (Item-F.Bytes bytes) more stop = tt
ends_by (Item-F.Text text) more stop = tt
ends_by (Item-F.Array xs) more stop = tt
ends_by (Item-F.Map ps) more stop = tt
ends_by (Item-F.Tag n x) more stop = tt
ends_by (Item-F.Truth b) more stop = tt
ends_by Item-F.Null more stop = tt

-- where a number ends, each item does
pub stops_ends : (x : Item) (more : List ℕ) → EndsNumber more → Ends x more
stops_ends x more stop = ends_by (out-Item x) more stop
