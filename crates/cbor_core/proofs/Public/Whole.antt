-- Bytes as a whole: one item that they spell, or one fault.
use Rattle.std.proofs.Common.{◌≡◌, ℕ, ◌+◌, ◌<◌, ◌≤◌, List, [], ◌++◌, length, take, drop, Ok, Err, refl, sym, ap, ◌∙◌, arith, inl, inr}
use Rattle.std.proofs.lemmas.List.{append-nil, take_at, take-append-drop, length-append, length-take}
use Rattle.cbor_heads.specs.declared.fault.Fault.{Fault}
use Rattle.cbor_heads.specs.declared.fault.Why.{Why}
use Rattle.cbor_heads.specs.Place.{Place, start}
use Rattle.cbor_heads.specs.Reading.{Outcome}
use Rattle.cbor_heads.proofs.Public.Outcomes.{ok_is, err_is}
use Rattle.cbor_core.specs.declared.item.Item.{Item}
use Rattle.cbor_core.specs.Spelling.{spelling, Spells}
use Rattle.cbor_core.specs.Reading.{item_at}
use Rattle.cbor_core.specs.Law.{SpellsFront, IsFaulty, IsFaultyWhole, HasExtra, OneForOne, SpelledInFront}
use Rattle.cbor_core.proofs.Refused.{item_refuses}
use Rattle.cbor_core.proofs.Again.{item_again}

-- ---- what the computing reader says

-- what a front spells is read
pub reads : (bytes : List ℕ) (x : Item) (n : ℕ) → n ≤ length bytes → Spells x (take n bytes) → item_at 16 (start bytes) ≡ Ok (x, record { at = n; rest = drop n bytes })
reads bytes x n le s =
    let len : length (spelling x) ≡ n = ap length (sym s.spelled) ∙ omega (arith, length-take n bytes) in
    let bytes_are : bytes ≡ spelling x ++ drop n bytes = sym (take-append-drop n bytes) ∙ ap (λ (t : List ℕ). t ++ drop n bytes) s.spelled in
    let at : 0 + length (spelling x) ≡ n = omega arith in
    ap (λ (t : List ℕ). item_at 16 (start t)) bytes_are ∙ item_again 16 x (s.proper, s.ranges) 0 (drop n bytes) ∙ ap (λ (k : ℕ). Ok (x, record { at = k; rest = drop n bytes })) at

-- a fault is read
pub refuses : (bytes : List ℕ) (f : Fault) → IsFaulty bytes f → item_at 16 (start bytes) ≡ Err f
refuses bytes f h = item_refuses 16 (start bytes) f h

-- what spells an item is a front of itself
pub whole_front : (bytes : List ℕ) (x : Item) → Spells x bytes → SpellsFront bytes x (length bytes)
whole_front bytes x s =
    let all : take (length bytes) bytes ≡ bytes = ap (λ (t : List ℕ). take (length bytes) t) (sym (append-nil bytes)) ∙ take_at bytes [] (length bytes) refl in
    (omega arith, record { proper = s.proper; ranges = s.ranges; spelled = all ∙ s.spelled })

-- what the bytes spell is read
pub reads_whole : (bytes : List ℕ) (x : Item) → Spells x bytes → item_at 16 (start bytes) ≡ Ok (x, record { at = length bytes; rest = drop (length bytes) bytes })
reads_whole bytes x s = let front = whole_front bytes x s in reads bytes x (length bytes) front.0 front.1

-- ---- an item and its bytes

pub spelled_in_front : SpelledInFront
spelled_in_front x bytes more s =
    let front : take (length bytes) (bytes ++ more) ≡ bytes = take_at bytes more (length bytes) refl in
    (omega (arith, length-append bytes more), record { proper = s.proper; ranges = s.ranges; spelled = front ∙ s.spelled })

pub one_for_one : OneForOne
one_for_one = record {
  one_item = λ x y bytes s t.
      (let rest : Place = record { at = length bytes; rest = drop (length bytes) bytes } in
      ap (λ (z : Item × Place). z.0) (ok_is (x, rest) (y, rest) (sym (reads_whole bytes x s) ∙ reads_whole bytes y t)));
  one_spelling = λ x a b s t. (s.spelled ∙ sym t.spelled);
}

-- ---- an item or a fault

apart : (o : Outcome Fault Item) (a : Item × Place) (f : Fault) → o ≡ Ok a → o ≡ Err f → ⊥
apart (Ok b) a f is not = cc
apart (Err g) a f is not = cc

-- no front of bytes with a fault spells an item
pub front_not_faulty : (bytes : List ℕ) (x : Item) (n : ℕ) (f : Fault) → SpellsFront bytes x n → IsFaulty bytes f → ⊥
front_not_faulty bytes x n f s faulty = apart (item_at 16 (start bytes)) _ f (reads bytes x n s.0 s.1) (refuses bytes f faulty)

-- one front of bytes at most spells an item
one_front : (bytes : List ℕ) (x y : Item) (m n : ℕ) → SpellsFront bytes x m → SpellsFront bytes y n → m ≡ n
one_front bytes x y m n s t =
    let e = ok_is (x, record { at = m; rest = drop m bytes }) (y, record { at = n; rest = drop n bytes }) (sym (reads bytes x m s.0 s.1) ∙ reads bytes y n t.0 t.1) in
    ap (λ (z : Item × Place). z.1.at) e

-- what is spelled has no fault
pub no_fault : (bytes : List ℕ) (x : Item) (f : Fault) → Spells x bytes → IsFaultyWhole bytes f → ⊥
no_fault bytes x f s (inl faulty) = front_not_faulty bytes x (length bytes) f (whole_front bytes x s) faulty
no_fault bytes x f s (inr extra) =
    let at : length bytes ≡ f.at = one_front bytes x extra.item (length bytes) f.at (whole_front bytes x s) extra.front in
    let more : f.at < length bytes = extra.more in
    absurd (omega arith)

fault_at : ℕ → Why → Fault
fault_at at why = record { at = at; why = why }

of_parts : (f : Fault) → fault_at f.at f.why ≡ f
unfolding fault_at
of_parts f = refl

same_fault : (f g : Fault) → f.at ≡ g.at → f.why ≡ g.why → f ≡ g
same_fault f g at why =
    let made : fault_at f.at f.why ≡ fault_at g.at g.why = cc in
    sym (of_parts f) ∙ made ∙ of_parts g

one_extra : (bytes : List ℕ) (f g : Fault) → HasExtra bytes f → HasExtra bytes g → f ≡ g
one_extra bytes f g h k = same_fault f g (one_front bytes h.item k.item f.at g.at h.front k.front) (h.why ∙ sym k.why)

-- bytes have one fault at most
pub one_codec_fault : (bytes : List ℕ) (f g : Fault) → IsFaultyWhole bytes f → IsFaultyWhole bytes g → f ≡ g
one_codec_fault bytes f g (inl h) (inl k) = err_is {A = Item × Place} f g (sym (refuses bytes f h) ∙ refuses bytes g k)
one_codec_fault bytes f g (inl h) (inr k) = absurd (front_not_faulty bytes k.item g.at f k.front h)
one_codec_fault bytes f g (inr h) (inl k) = absurd (front_not_faulty bytes h.item f.at g h.front k)
one_codec_fault bytes f g (inr h) (inr k) = one_extra bytes f g h k
