-- The laws of whole inputs.
use Rattle.std.proofs.Common.{◌≡◌, ℕ, ◌≤◌, ◌<◌, List, ◌++◌, length, take, drop, Result, Ok, Err, refl, sym, ap, subst, ◌∙◌, arith, ◌⊎◌, inl, inr}
use Rattle.std.specs.Prelude.{IfOk}
use Rattle.std.proofs.lemmas.List.{take_at, length-append}
use Rattle.cbor_core.specs.declared.item.Item.{Item}
use Rattle.cbor_core.specs.declared.fault.CborFault.{CborFault}
use Rattle.cbor_core.specs.declared.fault.CborFault.TheVariants as faults
use Rattle.cbor_heads.specs.declared.fault.Fault.{Fault}
use Rattle.cbor_heads.specs.declared.fault.Why.TheVariants as why
use Rattle.cbor_heads.specs.Place.{Place, start}
use Rattle.cbor_core.specs.Spelling.{spelling, Spells}
use Rattle.base_types.specs.Bytes.{IsBytes}
use Rattle.cbor_heads.specs.Reading.{Outcome, Stops}
use Rattle.cbor_core.specs.Reading.{fault_in, Decodes, IsFound, IsRefused, item_at}
use Rattle.cbor_heads.proofs.Public.Outcomes.{ok_is, err_is}
use Rattle.cbor_core.proofs.Items.{item_takes}
use Rattle.cbor_core.proofs.Public.Whole.{reads, whole_front}
use Rattle.cbor_core.proofs.Faults.{item_fault}
use Rattle.cbor_core.proofs.Refused.{item_refuses}
use Rattle.cbor_core.specs.Law.{SpellsFront, IsFaulty, IsFaultyWhole, OneItem, OneFault, ExactlyOne}

pub found : (bytes : List ℕ) (r : Result (Item × ℕ) CborFault) → IsBytes bytes → Decodes (item_at 16 (start bytes)) r → IfOk r (λ x. (x.1 ≤ length bytes) × Spells x.0 (take x.1 bytes))
found bytes (Ok x) fits d =
    let t = item_takes 16 (start bytes) (x.0, d.0) fits d.1 in
    let n : x.1 ≡ length (spelling x.0) = sym d.2 ∙ t.0.at ∙ omega arith in
    let bytes_are : bytes ≡ spelling x.0 ++ d.0.rest = t.0.rest in
    let front : take x.1 bytes ≡ spelling x.0 = rw (n, bytes_are) (take_at (spelling x.0) d.0.rest (length (spelling x.0)) refl) in
    (omega (arith, ap length bytes_are, length-append (spelling x.0) d.0.rest, n), record { proper = t.1.0; ranges = t.1.1; spelled = front })
found bytes (Err e) fits d = tt

fails_not : (e : CborFault) (o : Outcome Fault Item) (y : Item × Place) → o ≡ Ok y → Stops o (fault_in e) → (x : Item × ℕ) → IsFound (Err e) x
fails_not faults.NoMemory o y is h x = tt
fails_not (faults.Bad f) o y is h x = absurd (let e : o ≡ Err f = h in let both : Ok y ≡ Err f = sym is ∙ e in cc)

pub only : (bytes : List ℕ) (r : Result (Item × ℕ) CborFault) → Decodes (item_at 16 (start bytes)) r → (x : Item) (n : ℕ) → n ≤ length bytes → Spells x (take n bytes) → IsFound r (x, n)
only bytes (Ok y) d x n le s =
    let e = ok_is (y.0, d.0) (x, record { at = n; rest = drop n bytes }) (sym d.1 ∙ reads bytes x n le s) in
    let item : y.0 ≡ x = ap (λ (z : Item × Place). z.0) e in
    let count : y.1 ≡ n = sym d.2 ∙ ap (λ (z : Item × Place). z.1.at) e in
    rw (← item, ← count) refl
only bytes (Err e) d x n le s = fails_not e (item_at 16 (start bytes)) _ (reads bytes x n le s) d (x, n)

-- ---- faults

pub faulty : (bytes : List ℕ) (r : Result (Item × ℕ) CborFault) → IsBytes bytes → Decodes (item_at 16 (start bytes)) r → (f : Fault) → r ≡ Err (faults.Bad f) → IsFaulty bytes f
faulty bytes (Ok x) fits d f e = absurd cc
faulty bytes (Err faults.NoMemory) fits d f e = absurd cc
faulty bytes (Err (faults.Bad g)) fits d f e = let is : g ≡ f = cc in subst (λ (h : Fault). IsFaulty bytes h) is (item_fault 16 (start bytes) g fits d)

pub refused : (bytes : List ℕ) (r : Result (Item × ℕ) CborFault) → Decodes (item_at 16 (start bytes)) r → (f : Fault) → IsFaulty bytes f → IsRefused r f
refused bytes (Ok x) d f h = absurd (let e : item_at 16 (start bytes) ≡ Err f = item_refuses 16 (start bytes) f h in let both : Ok (x.0, d.0) ≡ Err f = sym d.1 ∙ e in cc)
refused bytes (Err faults.NoMemory) d f h = tt
refused bytes (Err (faults.Bad g)) d f h = err_is g f (sym d ∙ item_refuses 16 (start bytes) f h)

-- ---- exactly one of the two

by_outcome : (bytes : List ℕ) → IsBytes bytes → (o : Outcome Fault Item) → item_at 16 (start bytes) ≡ o → OneItem bytes ⊎ OneFault bytes
by_outcome bytes fits (Ok x) e =
    let s = found bytes (Ok (x.0, x.1.at)) fits (x.1, e, refl) in
    inl (record {
      item = x.0;
      count = x.1.at;
      spelled = s;
      alone = λ y n t. (let p = ok_is (y, record { at = n; rest = drop n bytes }) x (sym (reads bytes y n t.0 t.1) ∙ e) in (ap (λ (z : Item × Place). z.0) p, ap (λ (z : Item × Place). z.1.at) p));
      no_fault = λ f h. (let both : Ok x ≡ Err f = sym e ∙ item_refuses 16 (start bytes) f h in cc);
    })
by_outcome bytes fits (Err f) e =
    inr (record {
      first = f;
      faulty = item_fault 16 (start bytes) f fits e;
      alone = λ g h. err_is {A = Item × Place} g f (sym (item_refuses 16 (start bytes) g h) ∙ e);
      no_item = λ x n t. (let both : Ok (x, record { at = n; rest = drop n bytes }) ≡ Err f = sym (reads bytes x n t.0 t.1) ∙ e in cc);
    })

pub exactly_one : ExactlyOne
exactly_one bytes fits = by_outcome bytes fits (item_at 16 (start bytes)) refl

-- ---- bytes as a whole

pub only_err : (bytes : List ℕ) (e : CborFault) → ((x : Item) (n : ℕ) → SpellsFront bytes x n → IsFound {A = Item × ℕ} (Err e) (x, n))
    → (x : Item) → Spells x bytes → IsFound {A = Item} (Err e) x
only_err bytes faults.NoMemory only x s = tt
only_err bytes (faults.Bad g) only x s = only x (length bytes) (whole_front bytes x s)

pub refused_err : (bytes : List ℕ) (e : CborFault) (f : Fault) → ((x : Item) (n : ℕ) → SpellsFront bytes x n → IsFound {A = Item × ℕ} (Err e) (x, n))
    → (IsFaulty bytes f → IsRefused {A = Item × ℕ} (Err e) f) → IsFaultyWhole bytes f → IsRefused {A = Item} (Err e) f
refused_err bytes faults.NoMemory f only refuses h = tt
refused_err bytes (faults.Bad g) f only refuses (inl faulty) = refuses faulty
refused_err bytes (faults.Bad g) f only refuses (inr extra) = absurd (only extra.item f.at extra.front)

pub refused_extra : (bytes : List ℕ) (x : Item) (n : ℕ) (f : Fault) → ((y : Item) (m : ℕ) → SpellsFront bytes y m → IsFound {A = Item × ℕ} (Ok (x, n)) (y, m))
    → (IsFaulty bytes f → ⊥) → IsFaultyWhole bytes f → record { at = n; why = why.Extra } ≡ f
refused_extra bytes x n f only no_fault (inl faulty) = absurd (no_fault faulty)
refused_extra bytes x n f only no_fault (inr extra) =
    let e = only extra.item f.at extra.front in
    let at : n ≡ f.at = ap (λ (y : Item × ℕ). y.1) e in
    rw (at, ← extra.why) refl

pub refused_not : (bytes : List ℕ) (x : Item) (n : ℕ) (f : Fault) → length bytes ≤ n → ((y : Item) (m : ℕ) → SpellsFront bytes y m → IsFound {A = Item × ℕ} (Ok (x, n)) (y, m))
    → (IsFaulty bytes f → ⊥) → IsFaultyWhole bytes f → ⊥
refused_not bytes x n f all only no_fault (inl faulty) = no_fault faulty
refused_not bytes x n f all only no_fault (inr extra) =
    let e = only extra.item f.at extra.front in
    let at : n ≡ f.at = ap (λ (y : Item × ℕ). y.1) e in
    let more : f.at < length bytes = extra.more in
    absurd (omega arith)
