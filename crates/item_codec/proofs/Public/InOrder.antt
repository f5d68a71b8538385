-- In a map whose keys ascend, the fields in the order of the table are refused in the order of the pairs.
use Rattle.std.proofs.Common.{◌≡◌, ℕ, ◌%◌, ◌<◌, ◌≤◌, Bool, true, false, List, [], ◌∷◌, Option, Some, None, refl, sym, ap, subst, ◌∙◌, inl, inr, arith}
use Rattle.std.specs.Prelude.{Result, Ok, Err, nat_lt, nat_le, ◌==◌, if◌then◌else◌}
use Rattle.std.proofs.lemmas.Bool.{cases_lt, eqb-true, eq-eqb, le-ltb, leb-true, le-leb}
use Rattle.cbor_core.specs.declared.item.Item.{Item, out-Item}
use Rattle.cbor_core.specs.declared.item.Item.TheOpen.{Item-F}
use Rattle.cbor_core.specs.declared.item.Item.TheViews.{roll-Item, roll-out-Item}
use Rattle.cbor_core.specs.declared.item.Item.TheVariants as i
use Rattle.cbor_core.specs.declared.item.Pair.{Pair}
use Rattle.cbor_core.specs.Spelling.{spelling, bytes_below, KeysAscend}
use Rattle.cbor_heads.specs.Head.{head}
use Rattle.cbor_core.specs.Views.{labelled_by}
use Rattle.cbor_core.proofs.Public.Spell.{spelling_Unsigned}
use Rattle.cbor_core.proofs.Public.KeyOrder.{first_smaller}
use Rattle.cbor_heads.proofs.Public.Heads.{head_short, head_8}
use Rattle.cbor_fields.specs.Views.{is_among}
use Rattle.item_codec.specs.Answers.{and_then, mapped}
use Rattle.item_codec.specs.Ordered.{field, no_more}
use Rattle.item_codec.specs.InOrder.{refusal, Check, at_number, judge_by, judge, or_later, first_refused}
use Rattle.cbor_core.proofs.Public.Views.{key_is}

-- ---- keys that ascend

behind_first : (a : ℕ) (s t : List ℕ) → bytes_below (a ∷ s) (a ∷ t) ≡ true → bytes_below s t ≡ true
behind_first a s t below =
    let not_less : nat_lt a a ≡ false = le-ltb a a (omega arith) in
    let same : (a == a) ≡ true = eq-eqb a a refl in
    rw (not_less, same) at below

of_one : (n : ℕ) → n < 24 → head 0 n ≡ n ∷ []
of_one n short = head_short 0 n short ∙ ap (λ (k : ℕ). k ∷ []) (omega arith)

of_two : (n : ℕ) → 24 ≤ n → n < 256 → head 0 n ≡ 24 ∷ (n % 256) ∷ []
of_two n long small = head_8 0 n long small

-- no number below 256 is followed by one that is not greater
not_below : (m n : ℕ) → m ≤ n → n < 256 → bytes_below (head 0 n) (head 0 m) ≡ true → ⊥
not_below m n le small below = elim (cases_lt n 24) [
  | inl short ↦
      let m_short : m < 24 = omega arith in
      let h : bytes_below (n ∷ []) (m ∷ []) ≡ true = rw (of_one n short, of_one m m_short) at below in
      let lt : n < m = first_smaller n m [] h in
      omega arith
  | inr long ↦ elim (cases_lt m 24) [
    | inl m_short ↦
        let h : bytes_below (24 ∷ (n % 256) ∷ []) (m ∷ []) ≡ true = rw (of_two n long small, of_one m m_short) at below in
        let lt : 24 < m = first_smaller 24 m ((n % 256) ∷ []) h in
        omega arith
    | inr m_long ↦
        let m_small : m < 256 = omega arith in
        let h : bytes_below (24 ∷ (n % 256) ∷ []) (24 ∷ (m % 256) ∷ []) ≡ true = rw (of_two n long small, of_two m m_long m_small) at below in
        let lt : n % 256 < m % 256 = first_smaller (n % 256) (m % 256) [] (behind_first 24 ((n % 256) ∷ []) ((m % 256) ∷ []) h) in
        omega arith
  ]
]

numbers_ascend : (n m : ℕ) → n < 256 → bytes_below (spelling (i.Unsigned n)) (spelling (i.Unsigned m)) ≡ true → n < m
numbers_ascend n m small below = elim (cases_lt n m) [
  | inl lt ↦ lt
  | inr le ↦ absurd (not_below m n le small (subst (λ (t : List ℕ). bytes_below (head 0 n) t ≡ true) (spelling_Unsigned m) (subst (λ (t : List ℕ). bytes_below t (spelling (i.Unsigned m)) ≡ true) (spelling_Unsigned n) below)))
]

-- ---- labels that are done

abbrev pub all_most : ℕ → List ℕ → Bool
all_most label [] = true
all_most label (n ∷ ns) = if nat_le n label then all_most label ns else false

none_among : (label : ℕ) (done : List ℕ) (m : ℕ) → all_most label done ≡ true → label < m → is_among done (Item-F.Unsigned m) ≡ false
none_among label [] m most lt = refl
none_among label (n ∷ ns) m most lt = by_tests (nat_le n label) (m == n) refl refl (λ e. none_among label ns m e lt) where
  by_tests : (b c : Bool) → nat_le n label ≡ b → (m == n) ≡ c → (all_most label ns ≡ true → is_among ns (Item-F.Unsigned m) ≡ false) → is_among (n ∷ ns) (Item-F.Unsigned m) ≡ false
  by_tests false c le is more = absurd (let h = rw le at most in cc)
  by_tests true true le is more =
      let low : n ≤ label = leb-true n label le in
      let same : m ≡ n = eqb-true m n is in
      absurd (omega arith)
  by_tests true false le is more = let h : all_most label ns ≡ true = rw le at most in rw is (more h)

-- the first key, where there is one, is none of these
abbrev pub IsFree : List ℕ → List Pair → Type 0
IsFree done [] = Unit {0}
IsFree done (p ∷ ps) = is_among done (out-Item p.key) ≡ false

abbrev IsNoNumber : Item-F Item Pair → Type 0
IsNoNumber (Item-F.Unsigned m) = ⊥
IsNoNumber _ = Unit {0}

none_other : (ns : List ℕ) (l : Item-F Item Pair) → IsNoNumber l → is_among ns l ≡ false
none_other [] l none = refl
none_other (n ∷ ns) (Item-F.Unsigned m) none = absurd none
none_other (n ∷ ns) (Item-F.Negative m) none = none_other ns (Item-F.Negative m) tt
none_other (n ∷ ns) (Item-F.Bytes b) none = none_other ns (Item-F.Bytes b) tt
none_other (n ∷ ns) (Item-F.Text t) none = none_other ns (Item-F.Text t) tt
none_other (n ∷ ns) (Item-F.Array xs) none = none_other ns (Item-F.Array xs) tt
none_other (n ∷ ns) (Item-F.Map ps) none = none_other ns (Item-F.Map ps) tt
none_other (n ∷ ns) (Item-F.Tag m x) none = none_other ns (Item-F.Tag m x) tt
none_other (n ∷ ns) (Item-F.Truth b) none = none_other ns (Item-F.Truth b) tt
none_other (n ∷ ns) Item-F.Null none = none_other ns Item-F.Null tt

above_by : (label : ℕ) (done : List ℕ) (l : Item-F Item Pair) → label < 256 → all_most label done ≡ true → bytes_below (spelling (i.Unsigned label)) (spelling (roll-Item l)) ≡ true
    → is_among (label ∷ done) l ≡ false
above_by label done (Item-F.Unsigned m) small most below =
    let h : bytes_below (spelling (i.Unsigned label)) (spelling (i.Unsigned m)) ≡ true = subst (λ (y : Item). bytes_below (spelling (i.Unsigned label)) (spelling y) ≡ true) (i.rolls-Unsigned m) below in
    let lt : label < m = numbers_ascend label m small h in
    let self : all_most label (label ∷ done) ≡ true = let le : nat_le label label ≡ true = le-leb label label (omega arith) in rw le most in
    none_among label (label ∷ done) m self lt
above_by label done _ small most below = none_other done _ tt

-- the key is the label
key_of : (label : ℕ) (key : Item) → labelled_by label (out-Item key) ≡ true → key ≡ i.Unsigned label
key_of label key is = sym (roll-out-Item key) ∙ key_is label (out-Item key) is

behind_label : (label : ℕ) (done : List ℕ) (p : Pair) (ps : List Pair) → label < 256 → all_most label done ≡ true → labelled_by label (out-Item p.key) ≡ true → KeysAscend (spelling p.key) ps
    → IsFree (label ∷ done) ps
behind_label label done p [] small most is ascend = tt
behind_label label done p (q ∷ qs) small most is ascend =
    let h : bytes_below (spelling (i.Unsigned label)) (spelling q.key) ≡ true = subst (λ (k : Item). bytes_below (spelling k) (spelling q.key) ≡ true) (key_of label p.key is) ascend.0 in
    above_by label done (out-Item q.key) small most (subst (λ (k : Item). bytes_below (spelling (i.Unsigned label)) (spelling k) ≡ true) (sym (roll-out-Item q.key)) h)

-- ---- fields

-- what is read is refused as the first pair that is
pub record InOrder {S E : Type 0} (table : List (Check E)) (other : Pair → E) (done : List ℕ) (others : List Pair → Result S E) : Type 0 where
  pub holds : (ps : List Pair) (last : List ℕ) → KeysAscend last ps → IsFree done ps → refusal (others ps) ≡ first_refused (judge table other) ps

module _ {S E : Type 0} (table : List (Check E)) (other : Pair → E) where
  module _ {V : Type 0} (view : Item → Result V E) (label : ℕ) (done : List ℕ) (small : label < 256) (most : all_most label done ≡ true)
      (finds : (e : E) (x : Item) → at_number table label e x ≡ refusal (view x)) (others : Option V → List Pair → Result S E)
      (more : (o : Option V) → InOrder {S = S} table other (label ∷ done) (others o)) where
    judged : (p : Pair) (l : Item-F Item Pair) → labelled_by label l ≡ true → judge_by table (other p) p.value l ≡ refusal (view p.value)
    judged p (Item-F.Unsigned n) is = let e : n ≡ label = eqb-true n label is in ap (λ (k : ℕ). at_number table k (other p) p.value) e ∙ finds (other p) p.value
    judged p _ is = absurd cc

    by_view : (p : Pair) (ps : List Pair) → KeysAscend (spelling p.key) ps → labelled_by label (out-Item p.key) ≡ true → (r : Result V E) → view p.value ≡ r
        → refusal (and_then (λ (t : Option V × List Pair). others t.0 t.1) (mapped (λ (o : Option V). (o, ps)) (mapped (λ (v : V). Some v) r))) ≡ first_refused (judge table other) (p ∷ ps)
    by_view p ps ascend is (Err e) at =
        let j : judge table other p ≡ Some e = judged p (out-Item p.key) is ∙ ap (λ (r : Result V E). refusal r) at in
        sym (ap (λ (o : Option E). or_later o (first_refused (judge table other) ps)) j)
    by_view p ps ascend is (Ok v) at =
        let j : judge table other p ≡ None = judged p (out-Item p.key) is ∙ ap (λ (r : Result V E). refusal r) at in
        (more (Some v)).holds ps (spelling p.key) ascend (behind_label label done p ps small most is ascend) ∙ sym (ap (λ (o : Option E). or_later o (first_refused (judge table other) ps)) j)

    by_key : (p : Pair) (ps : List Pair) (last : List ℕ) → KeysAscend last (p ∷ ps) → IsFree done (p ∷ ps) → (b : Bool) → labelled_by label (out-Item p.key) ≡ b
        → refusal (field view label (p ∷ ps) others) ≡ first_refused (judge table other) (p ∷ ps)
    by_key p ps last ascend free true is = rw is (by_view p ps ascend.1 is (view p.value) refl)
    by_key p ps last ascend free false is = rw is ((more None).holds (p ∷ ps) last ascend (rw is free))

    holds : (ps : List Pair) (last : List ℕ) → KeysAscend last ps → IsFree done ps → refusal (field view label ps others) ≡ first_refused (judge table other) ps
    holds [] last ascend free = (more None).holds [] last ascend tt
    holds (p ∷ ps) last ascend free = by_key p ps last ascend free (labelled_by label (out-Item p.key)) refl

    pub field_in_order : InOrder table other done (λ ps. field view label ps others)
    field_in_order = record { holds = holds }

-- each label of the table is done
abbrev pub all_done : {E : Type 0} → List ℕ → List (Check E) → Bool
all_done done [] = true
all_done done (c ∷ cs) = if is_among done (Item-F.Unsigned c.label) then all_done done cs else false

no_label : {E : Type 0} (done : List ℕ) (table : List (Check E)) (n : ℕ) (e : E) (x : Item) → all_done done table ≡ true → is_among done (Item-F.Unsigned n) ≡ false → at_number table n e x ≡ Some e
no_label done [] n e x all free = refl
no_label {E} done (c ∷ cs) n e x all free = by_tests (is_among done (Item-F.Unsigned c.label)) (n == c.label) refl refl (λ h. no_label done cs n e x h free) where
  by_tests : (b d : Bool) → is_among done (Item-F.Unsigned c.label) ≡ b → (n == c.label) ≡ d → (all_done done cs ≡ true → at_number cs n e x ≡ Some e) → at_number (c ∷ cs) n e x ≡ Some e
  by_tests false d in_done is more = absurd (let h = rw in_done at all in cc)
  by_tests true true in_done is more =
      let same : n ≡ c.label = eqb-true n c.label is in
      let h : true ≡ false = sym in_done ∙ ap (λ (k : ℕ). is_among done (Item-F.Unsigned k)) (sym same) ∙ free in
      absurd cc
  by_tests true false in_done is more = let h : all_done done cs ≡ true = rw in_done at all in rw is (more h)

pub none_in_order : {S E : Type 0} (table : List (Check E)) (other : Pair → E) (done : List ℕ) → all_done done table ≡ true → (made : S) → InOrder table other done (λ ps. no_more other ps made)
none_in_order {S} {E} table other done all made = record { holds = holds } where
  judged : (p : Pair) (l : Item-F Item Pair) → is_among done l ≡ false → judge_by table (other p) p.value l ≡ Some (other p)
  judged p (Item-F.Unsigned n) h = no_label done table n (other p) p.value all h
  judged p _ h = refl

  holds : (ps : List Pair) (last : List ℕ) → KeysAscend last ps → IsFree done ps → refusal (no_more other ps made) ≡ first_refused (judge table other) ps
  holds [] last ascend free = refl
  holds (p ∷ ps) last ascend free = sym (ap (λ (o : Option E). or_later o (first_refused (judge table other) ps)) (judged p (out-Item p.key) free))

-- the whole
pub in_order : {S E : Type 0} (table : List (Check E)) (other : Pair → E) (others : List Pair → Result S E) → InOrder table other [] others → (ps : List Pair) → KeysAscend [] ps
    → refusal (others ps) ≡ first_refused (judge table other) ps
in_order table other others is [] ascend = is.holds [] [] ascend tt
in_order table other others is (p ∷ ps) ascend = is.holds (p ∷ ps) [] ascend refl
