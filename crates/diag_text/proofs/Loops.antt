-- One step of a loop that reads pieces of a string, or parts of a container.
use Rattle.std.proofs.Common.{◌≡◌, ℕ, suc, ◌+◌, ◌-◌, ◌<◌, ◌≤◌, Bool, true, false, List, [], ◌∷◌, ◌++◌, length, Ok, Err, refl, sym, ap, subst, ◌∙◌, arith, codes}
use Rattle.cbor_core.specs.declared.item.Item.{Item}
use Rattle.cbor_core.specs.declared.item.Pair.{Pair}
use Rattle.cbor_core.specs.Spelling.{spelling}
use Rattle.cbor_heads.specs.Place.{Place, skip, begins}
use Rattle.cbor_core.specs.Faulty.{last_key}
use Rattle.diag_text.specs.declared.fault.DiagFault.{DiagFault}
use Rattle.diag_text.specs.declared.fault.DiagFault.TheVariants as faults
use Rattle.cbor_heads.specs.Reading.{Outcome, Reader, Stops}
use Rattle.diag_text.specs.Reading.{pieces_at, parts_at, member_at, place_in}

module _ (spell : ℕ → List ℕ) (guess : List ℕ → ℕ) (close : List ℕ) (at n k : ℕ) (found : List ℕ) (p : Place) (total : Outcome ℕ (List ℕ))
    (so_far : pieces_at spell guess close at (n - k) found p ≡ total) where
  pub piece_closes : k < n → begins close p.rest ≡ true → total ≡ Ok (found, skip (length close) p)
  unfolding pieces_at
  piece_closes lt here = let e : n - k ≡ suc (n - (k + 1)) = omega arith in sym so_far ∙ (rw (e, here) refl)

  pub piece_wrong : k < n → begins close p.rest ≡ false → begins (spell (guess p.rest)) p.rest ≡ false → total ≡ Err at
  unfolding pieces_at
  piece_wrong lt other wrong = let e : n - k ≡ suc (n - (k + 1)) = omega arith in sym so_far ∙ (rw (e, other, wrong) refl)

  pub piece_next : k < n → begins close p.rest ≡ false → begins (spell (guess p.rest)) p.rest ≡ true
      → pieces_at spell guess close at (n - (k + 1)) (found ++ guess p.rest ∷ []) (skip (length (spell (guess p.rest))) p) ≡ total
  unfolding pieces_at
  piece_next lt other here = let e : n - k ≡ suc (n - (k + 1)) = omega arith in
      let step : pieces_at spell guess close at (n - k) found p ≡ pieces_at spell guess close at (n - (k + 1)) (found ++ guess p.rest ∷ []) (skip (length (spell (guess p.rest))) p) = rw (e, other, here) refl in
      sym step ∙ so_far

  pub pieces_end : n ≤ k → total ≡ Err at
  unfolding pieces_at
  pieces_end le = let e : n - k ≡ 0 = omega arith in sym so_far ∙ (rw e refl)

  -- the same, as a function meets it: q is the place after a closing mark was not found
  pub piece_refused : (q : Place) (v : ℕ) (b : Bool) → k < n → q ≡ p → begins close p.rest ≡ false → v ≡ guess q.rest → b ≡ begins (spell v) q.rest → b ≡ false → total ≡ Err at
  piece_refused q v b lt place other value tested wrong =
      let one : begins (spell (guess q.rest)) q.rest ≡ false = subst (λ (w : ℕ). begins (spell w) q.rest ≡ false) value (sym tested ∙ wrong) in
      piece_wrong lt other (subst (λ (x : Place). begins (spell (guess x.rest)) x.rest ≡ false) place one)

  pub piece_goes_on : (q r : Place) (v : ℕ) (b : Bool) (more : List ℕ) → k < n → q ≡ p → begins close p.rest ≡ false → v ≡ guess q.rest → b ≡ begins (spell v) q.rest → b ≡ true
      → r ≡ skip (length (spell v)) q → more ≡ found ++ v ∷ [] → pieces_at spell guess close at (n - (k + 1)) more r ≡ total
  piece_goes_on q r v b more lt place other value tested right behind_is longer =
      let one : begins (spell (guess q.rest)) q.rest ≡ true = subst (λ (w : ℕ). begins (spell w) q.rest ≡ true) value (sym tested ∙ right) in
      let next = piece_next lt other (subst (λ (x : Place). begins (spell (guess x.rest)) x.rest ≡ true) place one) in
      let guessed : v ≡ guess p.rest = value ∙ ap (λ (x : Place). guess x.rest) place in
      rw (longer, behind_is, place, guessed) next

module _ {X : Type 0} (part : List X → Reader ℕ X) (close : List ℕ) (n k : ℕ) (found : List X) (p : Place) (total : Outcome ℕ (List X))
    (so_far : parts_at part close (n - k) found p ≡ total) where
  pub part_fails : (e : DiagFault) → k < n → Stops (part found p) (place_in e) → Stops total (place_in e)
  unfolding parts_at
  part_fails faults.NoMemory lt here = tt
  part_fails (faults.Bad f) lt here = let e : n - k ≡ suc (n - (k + 1)) = omega arith in sym so_far ∙ (rw (e, here) refl)

  pub part_closes : (x : X) (q : Place) → k < n → part found p ≡ Ok (x, q) → begins close q.rest ≡ true → total ≡ Ok (found ++ x ∷ [], skip (length close) q)
  unfolding parts_at
  part_closes x q lt read here = let e : n - k ≡ suc (n - (k + 1)) = omega arith in sym so_far ∙ (rw (e, read, here) refl)

  pub part_wrong : (x : X) (q : Place) → k < n → part found p ≡ Ok (x, q) → begins close q.rest ≡ false → begins (codes ", ") q.rest ≡ false → total ≡ Err q.at
  unfolding parts_at
  part_wrong x q lt read other wrong = let e : n - k ≡ suc (n - (k + 1)) = omega arith in sym so_far ∙ (rw (e, read, other, wrong) refl)

  pub part_next : (x : X) (q : Place) → k < n → part found p ≡ Ok (x, q) → begins close q.rest ≡ false → begins (codes ", ") q.rest ≡ true
      → parts_at part close (n - (k + 1)) (found ++ x ∷ []) (skip 2 q) ≡ total
  unfolding parts_at
  part_next x q lt read other here =
      let e : n - k ≡ suc (n - (k + 1)) = omega arith in
      let step : parts_at part close (n - k) found p ≡ parts_at part close (n - (k + 1)) (found ++ x ∷ []) (skip 2 q) = rw (e, read, other, here) refl in
      sym step ∙ so_far

  pub parts_end : n ≤ k → total ≡ Err p.at
  unfolding parts_at
  parts_end le = let e : n - k ≡ 0 = omega arith in sym so_far ∙ (rw e refl)

  -- the same, as a function meets it: s and u are the places that tokens which were not found left
  pub met_closes : (x : X) (q r : Place) (b : Bool) (more : List X) → k < n → part found p ≡ Ok (x, q) → b ≡ begins close q.rest → b ≡ true → r ≡ skip (length close) q → more ≡ found ++ x ∷ [] → total ≡ Ok (more, r)
  met_closes x q r b more lt read tested here behind_is longer = rw (longer, behind_is) (part_closes x q lt read (sym tested ∙ here))

  pub met_wrong : (x : X) (q s u : Place) (b d : Bool) (at : ℕ) → k < n → part found p ≡ Ok (x, q) → b ≡ begins close q.rest → b ≡ false → s ≡ q → d ≡ begins (codes ", ") s.rest → d ≡ false → u ≡ s → at ≡ u.at → total ≡ Err at
  met_wrong x q s u b d at lt read tested other place again wrong stays at_is =
      let one : begins (codes ", ") q.rest ≡ false = subst (λ (y : Place). begins (codes ", ") y.rest ≡ false) place (sym again ∙ wrong) in
      let same_at : q.at ≡ at = sym (at_is ∙ ap (λ (y : Place). y.at) (stays ∙ place)) in
      part_wrong x q lt read (sym tested ∙ other) one ∙ ap (λ (y : ℕ). Err y) same_at

  pub met_next : (x : X) (q s r : Place) (b d : Bool) (more : List X) → k < n → part found p ≡ Ok (x, q) → b ≡ begins close q.rest → b ≡ false → s ≡ q → d ≡ begins (codes ", ") s.rest → d ≡ true → r ≡ skip 2 s → more ≡ found ++ x ∷ []
      → parts_at part close (n - (k + 1)) more r ≡ total
  met_next x q s r b d more lt read tested other place again here behind_is longer =
      let one : begins (codes ", ") q.rest ≡ true = subst (λ (y : Place). begins (codes ", ") y.rest ≡ true) place (sym again ∙ here) in
      rw (longer, behind_is, place) (part_next x q lt read (sym tested ∙ other) one)

pub member_is : (inner : Reader ℕ Item) (found : List Item) (p : Place) → member_at inner found p ≡ inner p
unfolding member_at
member_is inner found p = refl

pub last_key_more : (last : List ℕ) (found : List Pair) (p : Pair) → last_key last (found ++ p ∷ []) ≡ spelling p.key
last_key_more last [] p = refl
last_key_more last (x ∷ found) p = last_key_more (spelling x.key) found p
