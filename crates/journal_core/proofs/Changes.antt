-- What a change of the list leaves, at each moment and at its end.
use Rattle.std.proofs.Common.{◌≡◌, ℕ, ◌+◌, ◌<◌, ◌≤◌, ◌⊎◌, inl, inr, Bool, true, false, not, List, [], ◌∷◌, ◌++◌, length, get_or, map, refl, sym, ◌∙◌, ap, subst, arith}
use Rattle.std.proofs.lemmas.List.{append-nil}
use Rattle.std.proofs.lemmas.Grind.{common_steps}
use Rattle.board_core.specs.Contents.{View}
use Rattle.board_core.specs.Moments.{SameOutside, written}
use Rattle.board_core.specs.Gates.{WithinGated, WritesWithin}
use Rattle.board_core.proofs.Public.Ranges.{outside_wider, outside_written, outside_trans, before_same, changes_wider}
use Rattle.journal_core.specs.declared.region.Region.{Region}
use Rattle.journal_core.specs.Frames.{frame, frames, IsBody, AreBodies}
use Rattle.journal_core.specs.Region.{region_size, half_at, is_second, selected, HalfStands, RegionStands, Leaves}
use Rattle.journal_core.specs.Kept.{Kept, IsWithin, Keeps, Fits}
use Rattle.journal_core.specs.Scanning.{TakesIn}
use Rattle.journal_core.specs.Outcome.{StoresWithin}
use Rattle.journal_core.proofs.Scan.{half_inside, half_after}
use Rattle.journal_core.proofs.Scanned.{begins, keeps_more}
use Rattle.journal_core.proofs.Halves.{stands_elsewhere, gated, gate_open, written_stands}

-- the byte that was written
written-byte : (old : List ℕ) (at byte : ℕ) → at + 1 ≤ length old → get_or (written old at (byte ∷ [])) at 0 ≡ byte
written-byte old at byte within = grind (arith, common_steps)

-- what is written within the region leaves all outside it
pub in_region : (region : Region) {at gate most : ℕ} {bytes : List ℕ} {old new : View} → region.at ≤ gate → gate < at → at + length bytes ≤ region.at + region_size region → length bytes + 1 ≤ most
    → WritesWithin at bytes gate old new → StoresWithin region most old new
in_region region {at = at} {gate = gate} {bytes = bytes} low before high many within = record {
  changes = changes_wider region.at (region_size region) low (omega (arith, before, high)) within.changes;
  stored = omega (arith, many, within.stored);
}

-- a half that counts
pub region_stands : (region : Region) (second : Bool) (image : List ℕ) (bodies : List (List ℕ)) → selected region image ≡ second → HalfStands (half_at region second) region.half image bodies → RegionStands region image bodies
region_stands region second image bodies selector stands = subst (λ (b : Bool). HalfStands (half_at region b) region.half image bodies) (sym selector) stands

module _ (journal : Kept) (old : View) (bodies : List (List ℕ)) (fits : Fits journal old.now.disk.bytes bodies) (inside : IsWithin journal.region (length old.now.disk.bytes)) where
  abbrev region : Region
  region = journal.region

  abbrev size : ℕ
  size = region_size region

  -- the half that counts stands
  pub here : HalfStands (begins journal) region.half old.now.disk.bytes bodies
  here = subst (λ (b : Bool). HalfStands (half_at region b) region.half old.now.disk.bytes bodies) fits.selector fits.stands

  -- it lies within the image
  half_here : (second : Bool) → half_at region second + region.half ≤ length old.now.disk.bytes
  half_here second = omega (arith, half_inside region second, inside)

  after_selector : (second : Bool) → region.at + 16 ≤ half_at region second
  after_selector second = half_after region second

  -- a change behind the selector leaves it
  selector_kept : (p n : ℕ) (new : List ℕ) → region.at < p → SameOutside p n old.now.disk.bytes new → selected region new ≡ journal.second
  selector_kept p n new low same = ap (λ (k : ℕ). is_second k) (before_same p n region.at 0 old.now.disk.bytes new low same) ∙ fits.selector

  module _ (tail : List ℕ) (gate : ℕ) (gate_is : gate ≡ begins journal + journal.used) (room : journal.used + (length tail + 1) ≤ region.half) where
    gate_here : gate ≡ begins journal + length (frames bodies)
    gate_here = gate_is ∙ ap (λ (k : ℕ). begins journal + k) fits.keeps.used

    tail_outside : SameOutside region.at size old.now.disk.bytes (written old.now.disk.bytes (gate + 1) tail)
    tail_outside = outside_written region.at size (gate + 1) old.now.disk.bytes tail (omega (arith, gate_is, after_selector journal.second)) (omega (arith, gate_is, room, half_inside region journal.second))
        (omega (arith, gate_is, room, half_here journal.second))

    module _ (body : List ℕ) (tail_is : 0xa5 ∷ tail ≡ frame body ++ 0 ∷ []) (is_body : IsBody body) where
      moved : (new : List ℕ) → SameOutside gate 1 (written old.now.disk.bytes (gate + 1) tail) new → SameOutside (begins journal + length (frames bodies)) 1 (written old.now.disk.bytes (begins journal + length (frames bodies) + 1) tail) new
      moved new same = subst (λ (k : ℕ). SameOutside k 1 (written old.now.disk.bytes (k + 1) tail) new) gate_here same

      gate_selector : (new : List ℕ) → SameOutside gate 1 (written old.now.disk.bytes (gate + 1) tail) new → selected region new ≡ journal.second
      gate_selector new same = ap (λ (k : ℕ). is_second k) (before_same gate 1 region.at 0 (written old.now.disk.bytes (gate + 1) tail) new (omega (arith, gate_is, after_selector journal.second)) same)
          ∙ selector_kept (gate + 1) (length tail) (written old.now.disk.bytes (gate + 1) tail) (omega (arith, gate_is, after_selector journal.second))
          (outside_written (gate + 1) (length tail) (gate + 1) old.now.disk.bytes tail (omega arith) (omega arith) (omega (arith, gate_is, room, half_here journal.second)))

      room_here : length (frames bodies) + (length tail + 1) ≤ region.half
      room_here = omega (arith, room, fits.keeps.used)

      append_either : (sent image : List ℕ) → WithinGated (gate + 1) tail gate old sent image → Leaves region bodies (bodies ++ body ∷ []) old sent image
      append_either sent image (sent_same, inl same) = record {
        sent_same = sent_same;
        outside = outside_wider region.at size (gate + 1) (length tail) old.now.disk.bytes image (omega (arith, gate_is, after_selector journal.second)) (omega (arith, gate_is, room, half_inside region journal.second)) same;
        either = inl (region_stands region journal.second image bodies (selector_kept (gate + 1) (length tail) image (omega (arith, gate_is, after_selector journal.second)) same)
            (stands_elsewhere (begins journal) region.half old.now.disk.bytes bodies here (gate + 1) (length tail) image same (inl (omega (arith, gate_here)))));
      }
      append_either sent image (sent_same, inr same) = record {
        sent_same = sent_same;
        outside = outside_trans tail_outside (outside_wider region.at size gate 1 (written old.now.disk.bytes (gate + 1) tail) image (omega (arith, gate_is, after_selector journal.second))
            (omega (arith, gate_is, room, half_inside region journal.second)) same);
        either = elim (gated (begins journal) region.half old.now.disk.bytes bodies here body tail tail_is is_body room_here (half_here journal.second) image (moved image same)) [
          | inl stands ↦ inl (region_stands region journal.second image bodies (gate_selector image same) stands)
          | inr stands ↦ inr (region_stands region journal.second image (bodies ++ body ∷ []) (gate_selector image same) stands)
        ];
      }

      append_fits : (new : Kept) (image : List ℕ) (n : ℕ) → image ≡ written (written old.now.disk.bytes (gate + 1) tail) gate (0xa5 ∷ []) → TakesIn n journal new → length body ≡ n → Fits new image (bodies ++ body ∷ [])
      append_fits new image n is takes long =
          let fit : gate + 1 ≤ length (written old.now.disk.bytes (gate + 1) tail) = omega (arith, tail_outside.length_kept, gate_is, room, half_here journal.second) in
          let same : SameOutside gate 1 (written old.now.disk.bytes (gate + 1) tail) image = subst (λ (l : List ℕ). SameOutside gate 1 (written old.now.disk.bytes (gate + 1) tail) l) (sym is)
          (outside_written gate 1 gate (written old.now.disk.bytes (gate + 1) tail) (0xa5 ∷ []) (omega arith) (omega arith) fit) in
          let byte : get_or image gate 0 ≡ 0xa5 = ap (λ (l : List ℕ). get_or l gate 0) is ∙ written-byte (written old.now.disk.bytes (gate + 1) tail) gate 0xa5 fit in
          let stands : HalfStands (begins journal) region.half image (bodies ++ body ∷ []) = gate_open (begins journal) region.half old.now.disk.bytes bodies here body tail tail_is is_body room_here (half_here journal.second)
          image (moved image same)
          (ap (λ (k : ℕ). get_or image k 0) (sym gate_here) ∙ byte) in
          let selector : selected region image ≡ journal.second = gate_selector image same in
          let keeps = keeps_more journal new bodies body n fits.keeps long takes in
          record {
            selector = ap (λ (r : Region). selected r image) takes.is_of.region ∙ selector ∙ sym takes.is_of.second;
            stands = subst (λ (r : Region). RegionStands r image (bodies ++ body ∷ [])) (sym takes.is_of.region) (region_stands region journal.second image (bodies ++ body ∷ []) selector stands);
            keeps = keeps;
          }

    -- an append of the one body of a list
    pub append_leaves : (more : List (List ℕ)) → length more ≡ 1 → 0xa5 ∷ tail ≡ frames more ++ 0 ∷ [] → AreBodies more
        → (sent image : List ℕ) → WithinGated (gate + 1) tail gate old sent image → Leaves region bodies (bodies ++ more) old sent image
    append_leaves [] one tail_is sizes sent image within = absurd (omega (arith, one))
    append_leaves (body ∷ []) one tail_is sizes sent image within = append_either body (tail_is ∙ ap (λ (l : List ℕ). l ++ 0 ∷ []) (append-nil (frame body))) sizes.0 sent image within
    append_leaves (body ∷ other ∷ more) one tail_is sizes sent image within = absurd (omega (arith, one))

    pub append_done : (more : List (List ℕ)) → length more ≡ 1 → 0xa5 ∷ tail ≡ frames more ++ 0 ∷ [] → AreBodies more
        → (new : Kept) (image : List ℕ) (lengths : List ℕ) → image ≡ written (written old.now.disk.bytes (gate + 1) tail) gate (0xa5 ∷ []) → map length more ≡ lengths → TakesIn (get_or lengths 0 0) journal new
        → Fits new image (bodies ++ more)
    append_done [] one tail_is sizes new image lengths is lengths_are takes = absurd (omega (arith, one))
    append_done (body ∷ []) one tail_is sizes new image lengths is lengths_are takes =
        append_fits body (tail_is ∙ ap (λ (l : List ℕ). l ++ 0 ∷ []) (append-nil (frame body))) sizes.0 new image (get_or lengths 0 0) is takes (ap (λ (l : List ℕ). get_or l 0 0) lengths_are)
    append_done (body ∷ other ∷ more) one tail_is sizes new image lengths is lengths_are takes = absurd (omega (arith, one))

  -- a replacing by a whole list, into the half that does not count
  module _ (bytes : List ℕ) (news : List (List ℕ)) (bytes_are : bytes ≡ frames news ++ 0 ∷ []) (sizes : AreBodies news) (room : length bytes ≤ region.half) where
    -- where the other half begins
    abbrev other_at : ℕ
    other_at = half_at region (not journal.second)

    -- the other half lies elsewhere
    apart : (second : Bool) → (half_at region second + region.half ≤ half_at region (not second)) ⊎ (half_at region (not second) + region.half ≤ half_at region second)
    apart false = inl (omega arith)
    apart true = inr (omega arith)

    elsewhere : (begins journal + (length (frames bodies) + 1) ≤ other_at) ⊎ (other_at + length bytes ≤ begins journal)
    elsewhere = elim (apart journal.second) [ inl low ↦ inl (omega (arith, low, here.within)) | inr high ↦ inr (omega (arith, high, room)) ]

    whole_outside : SameOutside other_at (length bytes) old.now.disk.bytes (written old.now.disk.bytes other_at bytes)
    whole_outside = outside_written other_at (length bytes) other_at old.now.disk.bytes bytes (omega arith) (omega arith) (omega (arith, room, half_here (not journal.second)))

    whole_in_region : (image : List ℕ) → SameOutside other_at (length bytes) old.now.disk.bytes image → SameOutside region.at size old.now.disk.bytes image
    whole_in_region image same = outside_wider region.at size other_at (length bytes) old.now.disk.bytes image (omega (arith, after_selector (not journal.second))) (omega (arith, room, half_inside region (not journal.second))) same

    -- the old list stands still
    old_stands : (image : List ℕ) → SameOutside other_at (length bytes) old.now.disk.bytes image → HalfStands (begins journal) region.half image bodies
    old_stands image same = stands_elsewhere (begins journal) region.half old.now.disk.bytes bodies here other_at (length bytes) image same elsewhere

    -- the new one stands in the other half
    new_stands : HalfStands other_at region.half (written old.now.disk.bytes other_at bytes) news
    new_stands = written_stands other_at region.half old.now.disk.bytes news bytes bytes_are sizes room (half_here (not journal.second))

    module _ (image : List ℕ) (same : SameOutside region.at 1 (written old.now.disk.bytes other_at bytes) image) where
      selected_old : selected region image ≡ journal.second → RegionStands region image bodies
      selected_old selector = region_stands region journal.second image bodies selector
          (stands_elsewhere (begins journal) region.half (written old.now.disk.bytes other_at bytes) bodies (old_stands (written old.now.disk.bytes other_at bytes) whole_outside) region.at 1 image same
          (inr (omega (arith, after_selector journal.second))))

      selected_new : selected region image ≡ not journal.second → RegionStands region image news
      selected_new selector = region_stands region (not journal.second) image news selector
          (stands_elsewhere other_at region.half (written old.now.disk.bytes other_at bytes) news new_stands region.at 1 image same (inr (omega (arith, after_selector (not journal.second)))))

    same_or_not : (a b : Bool) → (a ≡ b) ⊎ (a ≡ not b)
    same_or_not false false = inl refl
    same_or_not false true = inr refl
    same_or_not true false = inr refl
    same_or_not true true = inl refl

    pub replace_leaves : (sent image : List ℕ) → WithinGated other_at bytes region.at old sent image → Leaves region bodies news old sent image
    replace_leaves sent image (sent_same, inl same) = record {
      sent_same = sent_same;
      outside = whole_in_region image same;
      either = inl (region_stands region journal.second image bodies (selector_kept other_at (length bytes) image (omega (arith, after_selector (not journal.second))) same) (old_stands image same));
    }
    replace_leaves sent image (sent_same, inr same) = record {
      sent_same = sent_same;
      outside = outside_trans (whole_in_region (written old.now.disk.bytes other_at bytes) whole_outside) (outside_wider region.at size region.at 1 (written old.now.disk.bytes other_at bytes) image (omega arith) (omega arith) same);
      either = elim (same_or_not (selected region image) journal.second) [ inl is_old ↦ inl (selected_old image same is_old) | inr is_new ↦ inr (selected_new image same is_new) ];
    }

    pub replace_done : (new : Kept) (image : List ℕ) (byte : ℕ) → image ≡ written (written old.now.disk.bytes other_at bytes) region.at (byte ∷ []) → is_second byte ≡ not journal.second
        → new.region ≡ region → new.second ≡ not journal.second → Keeps new news → Fits new image news
    replace_done new image byte is second region_is second_is keeps =
        let fit : region.at + 1 ≤ length (written old.now.disk.bytes other_at bytes) = omega (arith, whole_outside.length_kept, inside) in
        let same : SameOutside region.at 1 (written old.now.disk.bytes other_at bytes) image = subst (λ (l : List ℕ). SameOutside region.at 1 (written old.now.disk.bytes other_at bytes) l) (sym is)
        (outside_written region.at 1 region.at (written old.now.disk.bytes other_at bytes) (byte ∷ []) (omega arith) (omega arith) fit) in
        let selector : selected region image ≡ not journal.second = ap (λ (k : ℕ). is_second k) (ap (λ (l : List ℕ). get_or l region.at 0) is ∙ written-byte (written old.now.disk.bytes other_at bytes) region.at byte fit) ∙ second in
        record {
          selector = ap (λ (r : Region). selected r image) region_is ∙ selector ∙ sym second_is;
          stands = subst (λ (r : Region). RegionStands r image news) (sym region_is) (selected_new image same selector);
          keeps = keeps;
        }
