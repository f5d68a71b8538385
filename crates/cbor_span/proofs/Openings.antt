-- The head of an item is read from its bytes, and what it announces is gone over.
use Rattle.std.proofs.Common.{◌≡◌, ℕ, ◌+◌, ◌-◌, ◌^◌, ◌<◌, ◌≤◌, true, false, List, [], ◌++◌, length, drop, Ok, Err, refl, sym, ap, subst, ◌∙◌, append_assoc, arith, lit≤, lit<}
use Rattle.std.proofs.lemmas.List.{append-nil, take_at, drop_at, length-append, length-drop}
use Rattle.base_types.specs.Bytes.{IsBytes}
use Rattle.cbor_heads.specs.declared.fault.Fault.{Fault}
use Rattle.cbor_heads.specs.declared.head.Head.{Head}
use Rattle.cbor_heads.specs.Place.{Place, start, between}
use Rattle.cbor_heads.specs.Head.{head, kind_of}
use Rattle.cbor_heads.specs.Reading.{Outcome, inside}
use Rattle.cbor_heads.specs.HeadReading.{head_at}
use Rattle.cbor_heads.proofs.Public.Heads.{IsHead, head_again, head_short, plain}
use Rattle.cbor_heads.proofs.Public.Depths.{nested_is}
use Rattle.cbor_core.specs.declared.item.Item.{Item, out-Item}
use Rattle.cbor_core.specs.declared.item.Item.TheOpen.{Item-F}
use Rattle.cbor_core.specs.declared.item.Item.TheViews.{roll-Item, roll-out-Item}
use Rattle.cbor_core.specs.declared.item.Item.TheVariants as i
use Rattle.cbor_core.specs.declared.item.Pair.{Pair}
use Rattle.cbor_core.specs.Spelling.{spelling, spellings, pair_spellings, IsInRangeBy, HasRangesWithin, Spells}
use Rattle.cbor_core.specs.Law.{SpellsFront}
use Rattle.cbor_core.specs.Reading.{content, item_by, item_at}
use Rattle.cbor_core.proofs.Public.Spell.{spelling_Unsigned, spelling_Negative, spelling_Bytes, spelling_Text, spelling_Array, spelling_Map, spelling_Tag, spelling_Truth, spelling_Null}
use Rattle.cbor_core.proofs.Public.Whole.{spelled_in_front}
use Rattle.cbor_span.specs.Ending.{ending}
use Rattle.cbor_span.specs.Span.{IsSpan}
use Rattle.cbor_span.specs.Opening.{opening}
use Rattle.cbor_span.specs.Parts.{HasSpelling}
use Rattle.cbor_span.proofs.Fronts.{ends_behind, place_is, place_not_fault, spans}

-- what the reader of heads finds, where more bytes stand behind the item
abbrev pub Opens : Head × List ℕ → List ℕ → Outcome Fault Head → Type 0
Opens o more r = (n : ℕ) × (r ≡ Ok (o.0, record { at = n; rest = o.1 ++ more }))

by_head : (major n : ℕ) (text more bytes : List ℕ) → IsHead major n → bytes ≡ (head major n ++ text) ++ more → Opens (record { kind = kind_of major; argument = n }, text) more (head_at (start bytes))
by_head major n text more bytes h is = (0 + length (head major n), ap (λ (t : List ℕ). head_at (start t)) (is ∙ append_assoc (head major n) text more) ∙ head_again major n 0 (text ++ more) h)

by_head_alone : (major n : ℕ) (more bytes : List ℕ) → IsHead major n → bytes ≡ head major n ++ more → Opens (record { kind = kind_of major; argument = n }, []) more (head_at (start bytes))
by_head_alone major n more bytes h is = (0 + length (head major n), ap (λ (t : List ℕ). head_at (start t)) is ∙ head_again major n 0 more h)

opened_by : (P : Item → Type 0) (l : Item-F Item Pair) (more bytes : List ℕ) → IsInRangeBy P l → bytes ≡ spelling (roll-Item l) ++ more → Opens (opening l) more (head_at (start bytes))
opened_by P (Item-F.Unsigned n) more bytes r is = by_head_alone 0 n more bytes (plain 0 n (lit< tt) r) (is ∙ ap (λ (t : List ℕ). t ++ more) (ap spelling (i.rolls-Unsigned n) ∙ spelling_Unsigned n))
opened_by P (Item-F.Negative n) more bytes r is = by_head_alone 1 n more bytes (plain 1 n (lit< tt) r) (is ∙ ap (λ (t : List ℕ). t ++ more) (ap spelling (i.rolls-Negative n) ∙ spelling_Negative n))
opened_by P (Item-F.Bytes b) more bytes r is = by_head 2 (length b) b more bytes (plain 2 _ (lit< tt) r.1) (is ∙ ap (λ (t : List ℕ). t ++ more) (ap spelling (i.rolls-Bytes b) ∙ spelling_Bytes b))
opened_by P (Item-F.Text b) more bytes r is = by_head 3 (length b) b more bytes (plain 3 _ (lit< tt) r.1) (is ∙ ap (λ (t : List ℕ). t ++ more) (ap spelling (i.rolls-Text b) ∙ spelling_Text b))
opened_by P (Item-F.Array xs) more bytes r is = by_head 4 (length xs) (spellings xs) more bytes (plain 4 _ (lit< tt) r.1) (is ∙ ap (λ (t : List ℕ). t ++ more) (ap spelling (i.rolls-Array xs) ∙ spelling_Array xs))
opened_by P (Item-F.Map ps) more bytes r is = by_head 5 (length ps) (pair_spellings ps) more bytes (plain 5 _ (lit< tt) r.1) (is ∙ ap (λ (t : List ℕ). t ++ more) (ap spelling (i.rolls-Map ps) ∙ spelling_Map ps))
opened_by P (Item-F.Tag n x) more bytes r is = by_head 6 n (spelling x) more bytes (plain 6 n (lit< tt) r.1) (is ∙ ap (λ (t : List ℕ). t ++ more) (ap spelling (i.rolls-Tag n x) ∙ spelling_Tag n x))
opened_by P (Item-F.Truth true) more bytes r is =
    by_head_alone 7 21 more bytes (record { below = lit< tt; simple = λ e. (lit≤ tt, lit≤ tt) }) (is ∙ ap (λ (t : List ℕ). t ++ more) (ap spelling (i.rolls-Truth true) ∙ spelling_Truth true ∙ sym (head_short 7 21 (lit< tt))))
opened_by P (Item-F.Truth false) more bytes r is =
    by_head_alone 7 20 more bytes (record { below = lit< tt; simple = λ e. (lit≤ tt, lit≤ tt) }) (is ∙ ap (λ (t : List ℕ). t ++ more) (ap spelling (i.rolls-Truth false) ∙ spelling_Truth false ∙ sym (head_short 7 20 (lit< tt))))
opened_by P Item-F.Null more bytes r is =
    by_head_alone 7 22 more bytes (record { below = lit< tt; simple = λ e. (lit≤ tt, lit≤ tt) }) (is ∙ ap (λ (t : List ℕ). t ++ more) (ap spelling i.rolls-Null ∙ spelling_Null ∙ sym (head_short 7 22 (lit< tt))))

pub opened : (x : Item) (more bytes : List ℕ) → HasSpelling x → bytes ≡ spelling x ++ more → Opens (opening (out-Item x)) more (head_at (start bytes))
opened x more bytes h is = opened_by (HasRangesWithin 15) (out-Item x) more bytes h.1 (is ∙ ap (λ (y : Item). spelling y ++ more) (sym (roll-out-Item x)))

-- ---- by what the reader of heads returned

abbrev pub head_found : Head × Place → Outcome Fault Head
head_found x = Ok x

found_is : (a b : Head × Place) → head_found a ≡ head_found b → a ≡ b
found_is a b e = cc

found_not : (a : Head × Place) (f : Fault) → head_found a ≡ Err f → ⊥
found_not a f e = absurd cc

pub opened_ok : (x : Item) (more bytes : List ℕ) (h : Head) (q : Place) → HasSpelling x → bytes ≡ spelling x ++ more → head_at (start bytes) ≡ Ok (h, q)
    → (h ≡ (opening (out-Item x)).0) × (q.rest ≡ (opening (out-Item x)).1 ++ more)
opened_ok x more bytes h q s bytes_are e =
    let o = opened x more bytes s bytes_are in
    let is = found_is (h, q) ((opening (out-Item x)).0, record { at = o.0; rest = (opening (out-Item x)).1 ++ more }) (sym e ∙ o.1) in
    (ap (λ (z : Head × Place). z.0) is, ap (λ (z : Head × Place). z.1.rest) is)

pub opened_not : (x : Item) (more bytes : List ℕ) (f : Fault) → HasSpelling x → bytes ≡ spelling x ++ more → head_at (start bytes) ≡ Err f → ⊥
opened_not x more bytes f s bytes_are e = let o = opened x more bytes s bytes_are in found_not _ f (sym o.1 ∙ e)

-- ---- and then over what the head announces

-- a front of the bytes spells the item
pub front_span : (x : Item) (more bytes : List ℕ) → HasSpelling x → bytes ≡ spelling x ++ more → IsSpan bytes (length (spelling x))
front_span x more bytes h is =
    let s : Spells x (spelling x) = record { proper = h.0; ranges = h.1; spelled = refl } in
    (x, subst (λ (t : List ℕ). SpellsFront t x (length (spelling x))) (sym is) (spelled_in_front x (spelling x) more s))

-- a head that was read, and then its content, are an item
pub step : (bytes : List ℕ) (h : Head) (q : Place) → head_at (start bytes) ≡ Ok (h, q) → ending (item_at 16 (start bytes)) ≡ ending (content (inside item_by 16) 0 h.kind h.argument q)
step bytes h q e =
    let is : item_at 16 (start bytes) ≡ item_by (inside item_by 16) (start bytes) = nested_is item_by 16 (start bytes) in
    let one : item_by (inside item_by 16) (start bytes) ≡ content (inside item_by 16) 0 h.kind h.argument q = rw e refl in
    ap ending (is ∙ one)

pub between_front : (q r : Place) (text more : List ℕ) → q.rest ≡ text ++ more → r.rest ≡ more → between q r ≡ text
between_front q r text more a b =
    let len : length q.rest - length r.rest ≡ length text = omega (arith, ap length a, ap length b, length-append text more) in
    rw (len, a) (take_at text more (length text) refl)

pub taken_ok : (x : Item) (more bytes : List ℕ) (h : Head) (q r : Place) → HasSpelling x → bytes ≡ spelling x ++ more → head_at (start bytes) ≡ Ok (h, q)
    → ending (content (inside item_by 16) 0 h.kind h.argument q) ≡ Ok r
    → (h ≡ (opening (out-Item x)).0) × (between q r ≡ (opening (out-Item x)).1) × (r.rest ≡ more)
taken_ok x more bytes h q r s bytes_are e over =
    let o = opened_ok x more bytes h q s bytes_are e in
    let there = ends_behind bytes (length (spelling x)) (front_span x more bytes s bytes_are) in
    let is : r ≡ record { at = length (spelling x); rest = drop (length (spelling x)) bytes } = place_is r _ (sym over ∙ sym (step bytes h q e) ∙ there) in
    let rest : r.rest ≡ more = ap (λ (p : Place). p.rest) is ∙ rw bytes_are (drop_at (spelling x) more (length (spelling x)) refl) in
    (o.0, between_front q r (opening (out-Item x)).1 more o.1 rest, rest)

pub taken_not : (x : Item) (more bytes : List ℕ) (h : Head) (q : Place) (f : Fault) → HasSpelling x → bytes ≡ spelling x ++ more → head_at (start bytes) ≡ Ok (h, q)
    → ending (content (inside item_by 16) 0 h.kind h.argument q) ≡ Err f → ⊥
taken_not x more bytes h q f s bytes_are e over =
    let there = ends_behind bytes (length (spelling x)) (front_span x more bytes s bytes_are) in
    place_not_fault _ f (sym there ∙ step bytes h q e ∙ over)

-- so many bytes spell an item
pub taken_span : (bytes : List ℕ) (h : Head) (q r : Place) (behind : List ℕ) → IsBytes bytes → head_at (start bytes) ≡ Ok (h, q)
    → ending (content (inside item_by 16) 0 h.kind h.argument q) ≡ Ok r → behind ≡ r.rest → IsSpan bytes (length bytes - length behind)
taken_span bytes h q r behind fits e over is =
    let all : ending (item_at 16 (start bytes)) ≡ Ok r = step bytes h q e ∙ over in
    let s = spans bytes (Ok r.at) fits (r, all, refl) r.at refl in
    let place : r ≡ record { at = r.at; rest = drop r.at bytes } = place_is r _ (sym all ∙ ends_behind bytes r.at s) in
    let rest : behind ≡ drop r.at bytes = is ∙ ap (λ (p : Place). p.rest) place in
    let within : r.at ≤ length bytes = s.1.0 in
    let len : r.at ≡ length bytes - length behind = omega (arith, ap length rest, length-drop r.at bytes) in
    subst (λ (n : ℕ). IsSpan bytes n) len s

-- ---- bytes that spell the item alone

pub alone : (x : Item) (bytes : List ℕ) → bytes ≡ spelling x → bytes ≡ spelling x ++ []
alone x bytes is = is ∙ sym (append-nil (spelling x))
