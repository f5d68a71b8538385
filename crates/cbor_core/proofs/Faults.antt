-- The reader's fault is the first fault, and a first fault is the reader's.
use Rattle.std.proofs.Common.{◌≡◌, ℕ, zero, suc, ◌+◌, ◌/◌, ◌%◌, ◌⊎◌, Bool, true, false, cond, List, [], ◌∷◌, ◌++◌, length, take, Some, None, Ok, Err, refl, sym, ap, subst, ◌∙◌, append_assoc, arith, inl, inr}
use Rattle.std.specs.Prelude.{nat_lt, ◌==◌, ◌&&◌, ◌||◌}
use Rattle.std.specs.Int.{Width, w8, w16, w32, w64, byte_len, from_be_bytes}
use Rattle.std.specs.Str.{is_utf8}
use Rattle.std.proofs.lemmas.List.{length-append}
use Rattle.std.proofs.lemmas.List.Concat.{flat_map-cons}
use Rattle.cbor_core.specs.declared.item.Item.{Item}
use Rattle.cbor_core.specs.declared.item.Item.TheVariants as i
use Rattle.cbor_core.specs.declared.item.Pair.{Pair}
use Rattle.cbor_heads.specs.declared.fault.Fault.{Fault}
use Rattle.cbor_heads.specs.declared.fault.Why.{Why}
use Rattle.cbor_heads.specs.declared.fault.Why.TheVariants as why
use Rattle.cbor_heads.specs.declared.head.Kind.{Kind}
use Rattle.cbor_heads.specs.declared.head.Kind.TheVariants as k
use Rattle.cbor_heads.specs.declared.head.Head.{Head}
use Rattle.cbor_heads.specs.Place.{Place, skip, between, behind}
use Rattle.cbor_core.specs.Spelling.{spelling, spellings, pair_spelling, pair_spellings, bytes_below, IsSpellable}
use Rattle.base_types.specs.Bytes.{IsBytes}
use Rattle.cbor_heads.specs.Reading.{Outcome, Reader, ◌>>=◌, nested}
use Rattle.cbor_heads.specs.HeadReading.{fault, head_at, head_by, head_with, argument_at}
use Rattle.cbor_core.specs.Reading.{part, text_by, bytes_at, text_at, items_at, pairs_at, content, item_at}
use Rattle.cbor_core.specs.Faulty.{last_key, ArrayFault, AfterKey, MapFault, PartFault, FaultyBy, Faulty}
use Rattle.cbor_core.specs.Table.{body_rule, table}
use Rattle.cbor_core.proofs.Tables.{first_rule-table, part_out}
use Rattle.cbor_core.proofs.Public.Spell.{pair_spelling_out}
use Rattle.cbor_heads.proofs.Public.Outcomes.{chosen, passed, ok_is, done, failed, bind_err, err_is, not_err}
use Rattle.cbor_heads.proofs.Public.Heads.{Took}
use Rattle.cbor_core.proofs.Items.{TakesBy, between_is, item_takes}
use Rattle.cbor_heads.proofs.Public.Kinds.{kind_takes}
use Rattle.cbor_heads.proofs.Public.Places.{behind_here, behind_then}

-- ---- the place of a head's fault

abbrev IsFaultAt : {A : Type 0} → ℕ → Outcome Fault A → Type 0
IsFaultAt at (Ok x) = Unit {0}
IsFaultAt at (Err f) = f.at ≡ at

by_test : {A : Type 0} (at : ℕ) (b : Bool) (x y : Outcome Fault A) → IsFaultAt at x → IsFaultAt at y → IsFaultAt at (cond b x y)
by_test at true x y hx hy = hx
by_test at false x y hx hy = hy

argument_fault : (at major : ℕ) (w : Width) (least : ℕ) (q : Place) → IsFaultAt at (argument_at at major w least q)
unfolding argument_at
argument_fault at major w least q = by_test at (nat_lt (length q.rest) (byte_len w)) _ _ refl (by_test at (nat_lt (from_be_bytes w (take (byte_len w) q.rest)) least) _ _ refl tt)

with_fault : (at major info : ℕ) (q : Place) → IsFaultAt at (head_with at major info q)
unfolding head_with
with_fault at major info q =
    by_test at (nat_lt 27 info) _ _ refl (by_test at ((major == 7) && (nat_lt info 20 || nat_lt 22 info)) _ _ refl (by_test at (nat_lt info 24) _ _ tt
    (by_test at (info == 24) _ _ (argument_fault at major w8 24 q) (by_test at (info == 25) _ _ (argument_fault at major w16 256 q)
    (by_test at (info == 26) _ _ (argument_fault at major w32 65536 q) (argument_fault at major w64 4294967296 q))))))

by_fault : (at : ℕ) (rest : List ℕ) → IsFaultAt at (head_by (record { at = at; rest = rest }) rest)
by_fault at [] = refl
by_fault at (first ∷ rest) = with_fault at (first / 32) (first % 32) _

pub head_fault : (p : Place) (f : Fault) → head_at p ≡ Err f → f.at ≡ p.at
unfolding head_at
head_fault p f e = subst (IsFaultAt p.at) e (by_fault p.at p.rest)

-- ---- members

-- what a reader refuses is faulty
abbrev pub RefusesBy : Reader Fault Item → (Place → Fault → Type 0) → Type 0
RefusesBy inner F = (p : Place) (f : Fault) → IsBytes p.rest → inner p ≡ Err f → F p f

module _ (inner : Reader Fault Item) (P : Item → Type 0) (F : Place → Fault → Type 0) (takes : TakesBy inner P) (refuses : RefusesBy inner F) where
  pub items_fault : (n : ℕ) (found : List Item) (p : Place) (f : Fault) → IsBytes p.rest → items_at inner n found p ≡ Err f → ArrayFault P F n p f
  unfolding items_at
  items_fault zero found p f fits e = absurd (let h : done (found, p) ≡ Err f = e in not_err _ f h)
  items_fault (suc n) found p f fits e =
      elim (bind_err (inner p) (λ x. items_at inner n (found ++ x.0 ∷ []) x.1) f e) [
        | inl stop ↦ record { members = []; more = p.rest; fewer = omega arith; proper = tt; spelled = refl; next = subst (λ (q : Place). F q f) (sym (behind_here p)) (refuses p f fits stop) }
        | inr go ↦
            let x = go.0 in
            let one = takes p x fits go.1 in
            let later = items_fault n (found ++ x.0 ∷ []) x.1 f one.0.fits go.2 in
            record {
              members = x.0 ∷ later.members;
              more = later.more;
              fewer = omega (arith, later.fewer);
              proper = (one.1, later.proper);
              spelled = one.0.rest ∙ ap (λ (t : List ℕ). spelling x.0 ++ t) later.spelled ∙ sym (append_assoc (spelling x.0) (spellings later.members) later.more)
                  ∙ ap (λ (t : List ℕ). t ++ later.more) (sym (flat_map-cons spelling x.0 later.members));
              next = subst (λ (q : Place). F q f) (behind_then p (spelling x.0) x.1 (spellings later.members) later.more one.0.at ∙ ap (λ (t : List ℕ). behind p.at t later.more) (sym (flat_map-cons spelling x.0 later.members))) later.next;
            }
      ]

  -- a fault behind one more pair
  later_pair : (n : ℕ) (last : List ℕ) (p : Place) (f : Fault) (x : Item) (q : Place) (y : Item) (r : Place) → Took p (spelling x) q → Took q (spelling y) r → P x → P y
      → bytes_below last (spelling x) ≡ true → MapFault P F n (spelling x) r f → MapFault P F (suc n) last p f
  later_pair n last p f x q y r one two px py order later =
      let pair : Pair = record { key = x; value = y } in
      let spelled : pair_spellings (pair ∷ later.pairs) ≡ (spelling x ++ spelling y) ++ pair_spellings later.pairs = flat_map-cons pair_spelling pair later.pairs
      ∙ ap (λ (t : List ℕ). t ++ pair_spellings later.pairs) (pair_spelling_out pair) in
      let bytes : p.rest ≡ (spelling x ++ spelling y) ++ r.rest = one.rest ∙ ap (λ (t : List ℕ). spelling x ++ t) two.rest ∙ sym (append_assoc (spelling x) (spelling y) r.rest) in
      let at : r.at ≡ p.at + length (spelling x ++ spelling y) = omega (arith, one.at, two.at, length-append (spelling x) (spelling y)) in
      let place : behind r.at (pair_spellings later.pairs) later.more ≡ behind p.at (pair_spellings (pair ∷ later.pairs)) later.more
      = behind_then p (spelling x ++ spelling y) r (pair_spellings later.pairs) later.more at ∙ ap (λ (t : List ℕ). behind p.at t later.more) (sym spelled) in
      record {
        pairs = pair ∷ later.pairs;
        more = later.more;
        fewer = omega (arith, later.fewer);
        proper = ((px, py), later.proper);
        ascend = (order, later.ascend);
        spelled = bytes ∙ ap (λ (t : List ℕ). (spelling x ++ spelling y) ++ t) later.spelled ∙ sym (append_assoc (spelling x ++ spelling y) (pair_spellings later.pairs) later.more) ∙ ap (λ (t : List ℕ). t ++ later.more) (sym spelled);
        next = elim later.next [ inl a ↦ inl (subst (λ (s : Place). F s f) place a) | inr b ↦ inr (subst (λ (s : Place). AfterKey P F (last_key (spelling x) later.pairs) s f) place b) ];
      }

  pub pairs_fault : (n : ℕ) (found : List Pair) (last : List ℕ) (p : Place) (f : Fault) → IsBytes p.rest → pairs_at inner n found last p ≡ Err f → MapFault P F n last p f
  unfolding pairs_at
  pairs_fault zero found last p f fits e = absurd (let h : done (found, p) ≡ Err f = e in not_err _ f h)
  pairs_fault (suc n) found last p f fits e =
      elim (bind_err (inner p) (λ key. cond (bytes_below last (between p key.1)) (inner key.1 >>= λ value. pairs_at inner n (found ++ record { key = key.0; value = value.0 } ∷ []) (between p key.1) value.1) (fault p.at why.KeyOrder)) f e) [
        | inl stop ↦ record { pairs = []; more = p.rest; fewer = omega arith; proper = tt; ascend = tt; spelled = refl; next = inl (subst (λ (q : Place). F q f) (sym (behind_here p)) (refuses p f fits stop)) }
        | inr go ↦
            let x = go.0 in
            let one = takes p x fits go.1 in
            let text : between p x.1 ≡ spelling x.0 = between_is p (spelling x.0) x.1 one.0 in
            elim (chosen (bytes_below last (between p x.1)) (inner x.1 >>= λ value. pairs_at inner n (found ++ record { key = x.0; value = value.0 } ∷ []) (between p x.1) value.1) (fault p.at why.KeyOrder) (Err f) go.2) [
              | inr wrong ↦
                  let order : bytes_below last (spelling x.0) ≡ false = subst (λ (t : List ℕ). bytes_below last t ≡ false) text wrong.0 in
                  let which : f ≡ record { at = p.at; why = why.KeyOrder } = sym (err_is _ f wrong.1) in
                  record {
                    pairs = [];
                    more = p.rest;
                    fewer = omega arith;
                    proper = tt;
                    ascend = tt;
                    spelled = refl;
                    next = inr (subst (λ (q : Place). AfterKey P F last q f) (sym (behind_here p)) (record { key = x.0; more = x.1.rest; proper = one.1; spelled = one.0.rest; next = inl (order, which) }));
                  }
              | inl right ↦
                  let order : bytes_below last (spelling x.0) ≡ true = subst (λ (t : List ℕ). bytes_below last t ≡ true) text right.0 in
                  elim (bind_err (inner x.1) (λ value. pairs_at inner n (found ++ record { key = x.0; value = value.0 } ∷ []) (between p x.1) value.1) f right.1) [
                    | inl stop ↦
                        let after : behind p.at (spelling x.0) x.1.rest ≡ x.1 = ap (λ (m : ℕ). record { at = m; rest = x.1.rest }) (sym one.0.at) in
                        record {
                          pairs = [];
                          more = p.rest;
                          fewer = omega arith;
                          proper = tt;
                          ascend = tt;
                          spelled = refl;
                          next = inr (subst (λ (q : Place). AfterKey P F last q f) (sym (behind_here p)) (record
                              { key = x.0; more = x.1.rest; proper = one.1; spelled = one.0.rest; next = inr (order, subst (λ (q : Place). F q f) (sym after) (refuses x.1 f one.0.fits stop)) }));
                        }
                    | inr more ↦
                        let y = more.0 in
                        let two = takes x.1 y one.0.fits more.1 in
                        let pair : Pair = record { key = x.0; value = y.0 } in
                        let later0 = pairs_fault n (found ++ pair ∷ []) (between p x.1) y.1 f two.0.fits more.2 in
                        later_pair n last p f x.0 x.1 y.0 y.1 one.0 two.0 one.1 two.1 order (subst (λ (t : List ℕ). MapFault P F n t y.1 f) text later0)
                  ]
            ]
      ]

-- ---- what stands behind a head

abbrev BodyFault : (P : Item → Type 0) (F : Place → Fault → Type 0) → Bool → ℕ → Kind → ℕ → Place → Fault → Type 0
BodyFault P F room at kind n q f = ((body_rule room kind n q ≡ Some f.why) × (f.at ≡ at)) ⊎ ((body_rule room kind n q ≡ None) × PartFault P F kind n q f)

some_why : (at : ℕ) (w : Why) (f : Fault) → failed {A = Item × Place} (record { at = at; why = w }) ≡ Err f → (Some w ≡ Some f.why) × (f.at ≡ at)
some_why at w f e = let g = err_is (record { at = at; why = w }) f e in (ap (λ (x : Fault). Some x.why) g, sym (ap (λ (x : Fault). x.at) g))

part_fault : (at n : ℕ) (q : Place) (f : Fault) → part at n q ≡ Err f → (nat_lt (length q.rest) n ≡ true) × (failed {A = Item × Place} (record { at = at; why = why.CutBody }) ≡ Err f)
unfolding part
part_fault at n q f e =
    elim (chosen (nat_lt (length q.rest) n) (fault at why.CutBody) (Ok (take n q.rest, skip n q)) (Err f) e) [
      | inl cut ↦ (cut.0, ap (λ (g : Fault). Err g) (err_is {A = List ℕ × Place} (record { at = at; why = why.CutBody }) f cut.1))
      | inr whole ↦ absurd (not_err _ f whole.1)
    ]

part_is : (at n : ℕ) (q : Place) (x : List ℕ × Place) → part at n q ≡ Ok x → (nat_lt (length q.rest) n ≡ false) × (take n q.rest ≡ x.0)
unfolding part
part_is at n q x e =
    let g = passed (nat_lt (length q.rest) n) (record { at = at; why = why.CutBody }) (Ok (take n q.rest, skip n q)) x e in
    (g.0, ap (λ (y : List ℕ × Place). y.0) (ok_is (take n q.rest, skip n q) x g.1))

module _ (P : Item → Type 0) (F : Place → Fault → Type 0) (room : Bool) where
  bytes_fault : (at n : ℕ) (q : Place) (f : Fault) → bytes_at at n q ≡ Err f → BodyFault P F room at k.Bytes n q f
  bytes_fault at n q f e =
      elim (bind_err (part at n q) (λ y. Ok (i.Bytes y.0, y.1)) f e) [
        | inl stop ↦ let c = part_fault at n q f stop in let s = some_why at why.CutBody f c.1 in inl (rw c.0 s.0, s.1)
        | inr go ↦ absurd (not_err _ f go.2)
      ]

  text_fault : (at n : ℕ) (q : Place) (f : Fault) → text_at at n q ≡ Err f → BodyFault P F room at k.Text n q f
  text_fault at n q f e =
      elim (bind_err (part at n q) (text_by at) f e) [
        | inl stop ↦ let c = part_fault at n q f stop in let s = some_why at why.CutBody f c.1 in inl (rw c.0 s.0, s.1)
        | inr go ↦
            let w = part_is at n q go.0 go.1 in
            elim (chosen (is_utf8 go.0.0) (Ok (i.Text go.0.0, go.0.1)) (fault at why.BadText) (Err f) go.2) [
              | inl fine ↦ absurd (not_err _ f fine.1)
              | inr wrong ↦ let s = some_why at why.BadText f wrong.1 in inl (rw (w.0, w.1, wrong.0) s.0, s.1)
            ]
      ]

module _ (inner : Reader Fault Item) (P : Item → Type 0) (F : Place → Fault → Type 0) (takes : TakesBy inner P) (refuses : RefusesBy inner F) where
  content_fault_inside : (at : ℕ) (kind : Kind) (n : ℕ) (q : Place) (f : Fault) → IsBytes q.rest → content (Some inner) at kind n q ≡ Err f → BodyFault P F true at kind n q f
  content_fault_inside at k.Unsigned n q f fits e = absurd (not_err _ f e)
  content_fault_inside at k.Negative n q f fits e = absurd (not_err _ f e)
  content_fault_inside at k.Bytes n q f fits e = bytes_fault P F true at n q f e
  content_fault_inside at k.Text n q f fits e = text_fault P F true at n q f e
  content_fault_inside at k.Array n q f fits e =
      elim (bind_err (items_at inner n [] q) (λ y. Ok (i.Array y.0, y.1)) f e) [
        | inl stop ↦ inr (refl, items_fault inner P F takes refuses n [] q f fits stop)
        | inr go ↦ absurd (not_err _ f go.2)
      ]
  content_fault_inside at k.Map n q f fits e =
      elim (bind_err (pairs_at inner n [] [] q) (λ y. Ok (i.Map y.0, y.1)) f e) [
        | inl stop ↦ inr (refl, pairs_fault inner P F takes refuses n [] [] q f fits stop)
        | inr go ↦ absurd (not_err _ f go.2)
      ]
  content_fault_inside at k.Tag n q f fits e =
      elim (bind_err (inner q) (λ y. Ok (i.Tag n y.0, y.1)) f e) [
        | inl stop ↦ inr (refl, refuses q f fits stop)
        | inr go ↦ absurd (not_err _ f go.2)
      ]
  content_fault_inside at k.Simple n q f fits e = absurd (not_err _ f e)

content_fault_leaf : (P : Item → Type 0) (F : Place → Fault → Type 0) (at : ℕ) (kind : Kind) (n : ℕ) (q : Place) (f : Fault) → content None at kind n q ≡ Err f → BodyFault P F false at kind n q f
content_fault_leaf P F at k.Unsigned n q f e = absurd (not_err _ f e)
content_fault_leaf P F at k.Negative n q f e = absurd (not_err _ f e)
content_fault_leaf P F at k.Bytes n q f e = bytes_fault P F false at n q f e
content_fault_leaf P F at k.Text n q f e = text_fault P F false at n q f e
content_fault_leaf P F at k.Array n q f e = inl (some_why at why.TooDeep f e)
content_fault_leaf P F at k.Map n q f e = inl (some_why at why.TooDeep f e)
content_fault_leaf P F at k.Tag n q f e = inl (some_why at why.TooDeep f e)
content_fault_leaf P F at k.Simple n q f e = absurd (not_err _ f e)

-- from what stands behind the head to the whole item
whole_fault : (P : Item → Type 0) (F : Place → Fault → Type 0) (room : Bool) (p : Place) (x : Head × Place) (f : Fault) → head_at p ≡ Ok x
    → BodyFault P F room p.at x.0.kind x.0.argument x.1 f → FaultyBy P F room p f
whole_fault P F room p x f is b =
    let rule : table room p ≡ body_rule room x.0.kind x.0.argument x.1 = sym (first_rule-table room p) ∙ rw is refl in
    elim b [ inl a ↦ inl (rule ∙ a.0, a.1) | inr c ↦ inr (rule ∙ c.0, part_out P F f x p is c.1) ]

stopped : (room : Bool) (p : Place) (f : Fault) → head_at p ≡ Err f → table room p ≡ Some f.why
stopped room p f is = sym (first_rule-table room p) ∙ rw is refl

-- what is refused is faulty
pub item_fault : (d : ℕ) → RefusesBy (item_at d) (Faulty d)
unfolding nested
item_fault zero p f fits e =
    elim (bind_err (head_at p) (λ h. content None p.at h.0.kind h.0.argument h.1) f e) [
      | inl stop ↦ inl (stopped false p f stop, head_fault p f stop)
      | inr go ↦ whole_fault (λ _. ⊥) (λ _ _. ⊥) false p go.0 f go.1 (content_fault_leaf (λ _. ⊥) (λ _ _. ⊥) p.at go.0.0.kind go.0.0.argument go.0.1 f go.2)
    ]
item_fault (suc d) p f fits e =
    elim (bind_err (head_at p) (λ h. content (Some (item_at d)) p.at h.0.kind h.0.argument h.1) f e) [
      | inl stop ↦ inl (stopped true p f stop, head_fault p f stop)
      | inr go ↦
          let h = kind_takes p go.0 fits go.1 in
          whole_fault (IsSpellable d) (Faulty d) true p go.0 f go.1 (content_fault_inside (item_at d) (IsSpellable d) (Faulty d) (item_takes d) (item_fault d) p.at go.0.0.kind go.0.0.argument go.0.1 f h.took.fits go.2)
    ]
