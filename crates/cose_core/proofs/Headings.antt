-- The protected headers where they lie.
use Rattle.std.proofs.Common.{◌≡◌, ℕ, false, List, length, Option, None, Some, Result, Ok, Err, sym, ap, subst, ◌∙◌, inl, inr}
use Rattle.std.specs.Prelude.{◌==◌, ◌↔◌, IsTrue, option_map}
use Rattle.std.proofs.lemmas.Bool.{eqb-true, eq-eqb}
use Rattle.cbor_core.specs.declared.item.Item.{Item}
use Rattle.cbor_core.specs.declared.item.Item.TheVariants as i
use Rattle.cbor_core.specs.declared.item.Pair.{Pair}
use Rattle.cbor_core.specs.Spelling.{pair_spellings, Spells}
use Rattle.cbor_core.specs.Views.{negative_of, map_of}
use Rattle.cbor_core.proofs.Public.Views.{negative_is, negative_back, map_is, map_back}
use Rattle.cbor_core.proofs.Public.Whole.{one_for_one}
use Rattle.cbor_span.specs.Span.{IsItem}
use Rattle.cbor_span.specs.Parts.{HasSpelling, PairsSpelled}
use Rattle.cbor_span.proofs.Public.Parts.{pairs_spelled, keys_ascend}
use Rattle.cose_core.specs.declared.fault.CoseFault.{CoseFault}
use Rattle.cose_core.specs.declared.fault.CoseFault.TheVariants as faults
use Rattle.cose_core.specs.declared.labels.TheConstants.{ALG_HSS_LMS}
use Rattle.cose_core.specs.Headers.{Wraps, JudgedAs}
use Rattle.cose_core.specs.Reading.{CheckedAs}
use Rattle.cose_core.proofs.Forms.{not_empty}
use Rattle.cose_core.proofs.Shapes.{counted}

-- ---- the algorithm

same_number : (m n : ℕ) → Some m ≡ Some n → m ≡ n
same_number m n e = cc

pub alg_some : (x : Item) (n : ℕ) → Some n ≡ negative_of x → IsTrue (n == ALG_HSS_LMS) ↔ (x ≡ i.Negative ALG_HSS_LMS)
alg_some x n e = (
  λ h. negative_is x n (sym e) ∙ ap (λ (k : ℕ). i.Negative k) (eqb-true n ALG_HSS_LMS h),
  λ is. eq-eqb n ALG_HSS_LMS (same_number n ALG_HSS_LMS (e ∙ ap negative_of is ∙ negative_back ALG_HSS_LMS)),
)

pub alg_none : (x : Item) → None ≡ negative_of x → IsTrue false ↔ (x ≡ i.Negative ALG_HSS_LMS)
alg_none x e = (λ h. absurd cc, λ is. (let both : None ≡ Some ALG_HSS_LMS = e ∙ ap negative_of is ∙ negative_back ALG_HSS_LMS in absurd cc))

-- ---- the headers

abbrev Judged : Type 0
Judged = Result (Unit {0}) CoseFault

judged_by : (bytes : List ℕ) (ps : List Pair) (r : Judged) → Spells (i.Map ps) bytes → JudgedAs ps r → CheckedAs bytes r
judged_by bytes ps (Ok u) s h = record { headers = ps; wrapped = inr s; algorithm = h.0; uncritical = h.1 }
judged_by bytes ps (Err faults.WrongAlg) s h = record { headers = ps; wrapped = inr s; wrong = h }
judged_by bytes ps (Err faults.Critical) s h = record { headers = ps; wrapped = inr s; algorithm = h.0; critical = h.1 }
judged_by bytes ps (Err (faults.NotCose f)) s h = absurd h
judged_by bytes ps (Err faults.Shape) s h = absurd h
judged_by bytes ps (Err faults.NoMemory) s h = absurd h

judged_memory : (ps : List Pair) (r : Judged) → JudgedAs ps r → r ≡ Err faults.NoMemory → ⊥
judged_memory ps r h e = subst (λ (t : Judged). JudgedAs ps t) e h

abbrev pair_parts : Option (List Pair) → Option (ℕ × List ℕ)
pair_parts = option_map {U = ℕ × List ℕ} (λ ps. (length ps, pair_spellings ps))

abbrev pub Judges : ℕ → List ℕ → Judged → Type 0
Judges n m r = (ps : List Pair) → PairsSpelled ps m → length ps ≡ n → JudgedAs ps r

-- the map that bytes are, and what is judged of its pairs
record Map (bytes : List ℕ) (r : Judged) : Type 0 where
  pairs : List Pair
  spelled : Spells (i.Map pairs) bytes
  judged : JudgedAs pairs r

map_at : (bytes : List ℕ) (n : ℕ) (m : List ℕ) (r : Judged) → (item : IsItem bytes) → Some (n, m) ≡ pair_parts (map_of item.0) → Judges n m r → Map bytes r
map_at bytes n m r item e judges =
    let q = counted pair_spellings (map_of item.0) n m e in
    let s : Spells (i.Map q.0) bytes = subst (λ (x : Item). Spells x bytes) (map_is item.0 q.0 q.1) item.1 in
    let whole : HasSpelling (i.Map q.0) = (s.proper, s.ranges) in
    record { pairs = q.0; spelled = s; judged = judges q.0 (pairs_spelled q.0 whole, keys_ascend q.0 whole, q.3) q.2 }

pub map_checked : (bytes : List ℕ) (n : ℕ) (m : List ℕ) (r : Judged) → (item : IsItem bytes) → Some (n, m) ≡ pair_parts (map_of item.0) → Judges n m r → CheckedAs bytes r
map_checked bytes n m r item e judges = let map = map_at bytes n m r item e judges in judged_by bytes map.pairs r map.spelled map.judged

pub map_memory : (bytes : List ℕ) (n : ℕ) (m : List ℕ) (r : Judged) → (item : IsItem bytes) → Some (n, m) ≡ pair_parts (map_of item.0) → Judges n m r → r ≡ Err faults.NoMemory → ⊥
map_memory bytes n m r item e judges = let map = map_at bytes n m r item e judges in judged_memory map.pairs r map.judged

counted_none : (o : Option (List Pair)) (headers : List Pair) → None ≡ pair_parts o → o ≡ Some headers → ⊥
counted_none None headers e is = cc
counted_none (Some ps) headers e is = cc

pub no_map : (bytes : List ℕ) (item : IsItem bytes) → None ≡ pair_parts (map_of item.0) → (headers : List Pair) → Wraps bytes headers → ⊥
no_map bytes item e headers (inl h) = not_empty item.0 (subst (λ (t : List ℕ). Spells item.0 t) h.0 item.1)
no_map bytes item e headers (inr s) =
    let is = one_for_one.one_item item.0 (i.Map headers) bytes item.1 s in
    counted_none (map_of item.0) headers e (ap map_of is ∙ map_back headers)
