-- What changes of an image leave of the list in a half.
use Rattle.std.proofs.Common.{◌≡◌, ◌≢◌, ℕ, ◌+◌, ◌-◌, ◌<◌, ◌≤◌, ◌⊎◌, inl, inr, List, [], ◌∷◌, ◌++◌, length, take, drop, get_or, sym, ◌∙◌, ap, subst, arith, append_assoc, length-append, take-append-drop, add-one}
use Rattle.std.proofs.lemmas.List.{take_at, drop_at, length-take-le}
use Rattle.std.proofs.lemmas.Bool.{cases_eq}
use Rattle.std.proofs.Math.Seq.{drop-cons}
use Rattle.board_core.specs.Moments.{SameOutside, written}
use Rattle.board_core.proofs.Public.Ranges.{outside_wider, outside_written}
use Rattle.journal_core.specs.Frames.{frame, frames, IsBody, AreBodies}
use Rattle.journal_core.specs.Region.{HalfStands}
use Rattle.journal_core.proofs.Scanned.{sizes-more, frames-more}

module _ (begins half : ℕ) (image : List ℕ) (bodies : List (List ℕ)) (s : HalfStands begins half image bodies) where
  abbrev F : List ℕ
  F = frames bodies

  -- with its end gate
  abbrev end : ℕ
  end = begins + (length F + 1)

  abbrev front : List ℕ
  front = s.before ++ (F ++ s.gate ∷ [])

  length-front : length front ≡ end
  length-front = omega (arith, length-append s.before (F ++ s.gate ∷ []), length-append F (s.gate ∷ []), s.place)

  regrouped : (gate : ℕ) (behind : List ℕ) → (s.before ++ (F ++ gate ∷ [])) ++ behind ≡ s.before ++ (F ++ gate ∷ behind)
  regrouped gate behind = append_assoc s.before (F ++ gate ∷ []) behind ∙ ap (λ (l : List ℕ). s.before ++ l) (append_assoc F (gate ∷ []) behind)

  take-front : take end image ≡ front
  take-front = ap (λ (l : List ℕ). take end l) (s.whole ∙ sym (regrouped s.gate s.behind)) ∙ take_at front s.behind end length-front

  pub begins_within : begins ≤ length image
  begins_within = omega (arith, ap length s.whole, length-append s.before (F ++ s.gate ∷ s.behind), s.place)

  -- all up to the end gate is as it was
  same_front : (new : List ℕ) → take end new ≡ take end image → HalfStands begins half new bodies
  same_front new same = record {
    before = s.before;
    gate = s.gate;
    behind = drop end new;
    whole = sym (take-append-drop end new) ∙ ap (λ (l : List ℕ). l ++ drop end new) (same ∙ take-front) ∙ regrouped s.gate (drop end new);
    place = s.place;
    shut = s.shut;
    within = s.within;
    sizes = s.sizes;
  }

  -- all from the half on is as it was
  same_behind : (new : List ℕ) → length new ≡ length image → drop begins new ≡ drop begins image → HalfStands begins half new bodies
  same_behind new long same = record {
    before = take begins new;
    gate = s.gate;
    behind = s.behind;
    whole = sym (take-append-drop begins new) ∙ ap (λ (l : List ℕ). take begins new ++ l)
        (same ∙ ap (λ (l : List ℕ). drop begins l) s.whole ∙ drop_at s.before (F ++ s.gate ∷ s.behind) begins s.place);
    place = length-take-le begins new (omega (arith, long, begins_within));
    shut = s.shut;
    within = s.within;
    sizes = s.sizes;
  }

  -- a change elsewhere
  pub stands_elsewhere : (p n : ℕ) (new : List ℕ) → SameOutside p n image new → (end ≤ p) ⊎ (p + n ≤ begins) → HalfStands begins half new bodies
  stands_elsewhere p n new same (inl low) = same_front new ((outside_wider end (p + n - end) p n image new low (omega (arith, low)) same).before)
  stands_elsewhere p n new same (inr high) = same_behind new same.length_kept
      (let wider = outside_wider 0 begins p n image new (omega arith) (omega (arith, high)) same in
      let k : 0 + begins ≡ begins = omega arith in subst (λ (k : ℕ). drop k new ≡ drop k image) k wider.behind)

  -- a body with its frame, whose gate is the last to be put
  module _ (body tail : List ℕ) (tail_is : 0xa5 ∷ tail ≡ frame body ++ 0 ∷ []) (size : IsBody body) (fits : length F + (length tail + 1) ≤ half) (inside : begins + half ≤ length image) where
    abbrev gate_at : ℕ
    gate_at = begins + length F

    abbrev rest : List ℕ
    rest = drop (gate_at + 1 + length tail) image

    abbrev staged : List ℕ
    staged = written image (gate_at + 1) tail

    before_gate : take gate_at image ≡ s.before ++ F
    before_gate = ap (λ (l : List ℕ). take gate_at l) (s.whole ∙ sym (append_assoc s.before F (s.gate ∷ s.behind)))
        ∙ take_at (s.before ++ F) (s.gate ∷ s.behind) gate_at (omega (arith, length-append s.before F, s.place))

    staged_outside : SameOutside gate_at (length tail + 1) image staged
    staged_outside = outside_written gate_at (length tail + 1) (gate_at + 1) image tail (omega arith) (omega arith) (omega (arith, fits, inside))

    staged_front : take gate_at staged ≡ s.before ++ F
    staged_front = staged_outside.before ∙ before_gate

    staged_behind : drop (gate_at + 1) staged ≡ tail ++ rest
    staged_behind = ap (λ (l : List ℕ). drop (gate_at + 1) l) (append_assoc (take (gate_at + 1) image) tail rest)
        ∙ drop_at (take (gate_at + 1) image) (tail ++ rest) (gate_at + 1) (length-take-le (gate_at + 1) image (omega (arith, fits, inside)))

    length-staged : length staged ≡ length image
    length-staged = staged_outside.length_kept

    module _ (new : List ℕ) (same : SameOutside gate_at 1 staged new) where
      abbrev x : ℕ
      x = get_or new gate_at 0

      gated_whole : new ≡ (s.before ++ F) ++ x ∷ (tail ++ rest)
      gated_whole =
          let long : gate_at < length new = omega (arith, same.length_kept, length-staged, fits, inside) in
          let cons : drop gate_at new ≡ x ∷ drop (gate_at + 1) new = drop-cons new gate_at 0 long ∙ ap (λ (k : ℕ). x ∷ drop k new) (sym (add-one gate_at)) in
          sym (take-append-drop gate_at new) ∙ ap (λ (l : List ℕ). take gate_at new ++ l) cons
          ∙ ap (λ (l : List ℕ). l ++ x ∷ drop (gate_at + 1) new) (same.before ∙ staged_front)
          ∙ ap (λ (l : List ℕ). (s.before ++ F) ++ x ∷ l) (same.behind ∙ staged_behind)

      -- the gate is not open
      pub gate_shut : x ≢ 0xa5 → HalfStands begins half new bodies
      gate_shut shut = record {
        before = s.before;
        gate = x;
        behind = tail ++ rest;
        whole = gated_whole ∙ append_assoc s.before F (x ∷ (tail ++ rest));
        place = s.place;
        shut = shut;
        within = s.within;
        sizes = s.sizes;
      }

      -- the gate is open
      pub gate_open : x ≡ 0xa5 → HalfStands begins half new (bodies ++ body ∷ [])
      gate_open open_ = record {
        before = s.before;
        gate = 0;
        behind = rest;
        whole = gated_whole ∙ ap (λ (y : ℕ). (s.before ++ F) ++ y ∷ (tail ++ rest)) open_
            ∙ append_assoc s.before F ((0xa5 ∷ tail) ++ rest)
            ∙ ap (λ (l : List ℕ). s.before ++ (F ++ (l ++ rest))) tail_is
            ∙ ap (λ (l : List ℕ). s.before ++ (F ++ l)) (append_assoc (frame body) (0 ∷ []) rest)
            ∙ ap (λ (l : List ℕ). s.before ++ l) (sym (append_assoc F (frame body) (0 ∷ rest)))
            ∙ ap (λ (l : List ℕ). s.before ++ (l ++ 0 ∷ rest)) (frames-more bodies body);
        place = s.place;
        shut = λ e. cc;
        within = omega (arith, ap length (sym (frames-more bodies body)), length-append F (frame body), ap length tail_is, length-append (frame body) (0 ∷ []), fits);
        sizes = sizes-more bodies body s.sizes size;
      }

      pub gated : HalfStands begins half new bodies ⊎ HalfStands begins half new (bodies ++ body ∷ [])
      gated = elim (cases_eq x 0xa5) [ inl open_ ↦ inr (gate_open open_) | inr shut ↦ inl (gate_shut shut) ]

-- a whole list written into a half
pub written_stands : (p half : ℕ) (image : List ℕ) (bodies : List (List ℕ)) (bytes : List ℕ) → bytes ≡ frames bodies ++ 0 ∷ [] → AreBodies bodies → length bytes ≤ half → p + half ≤ length image
    → HalfStands p half (written image p bytes) bodies
written_stands p half image bodies bytes bytes_are sizes fits inside =
    let rest : List ℕ = drop (p + length bytes) image in
    record {
      before = take p image;
      gate = 0;
      behind = rest;
      whole = append_assoc (take p image) bytes rest ∙ ap (λ (l : List ℕ). take p image ++ (l ++ rest)) bytes_are ∙ ap (λ (l : List ℕ). take p image ++ l) (append_assoc (frames bodies) (0 ∷ []) rest);
      place = length-take-le p image (omega (arith, inside));
      shut = λ e. cc;
      within = omega (arith, ap length bytes_are, length-append (frames bodies) (0 ∷ []), fits);
      sizes = sizes;
    }
