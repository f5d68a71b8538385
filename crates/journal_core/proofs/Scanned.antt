-- A half is looked through from its first gate on.
use Rattle.std.proofs.Common.{◌≡◌, ℕ, ◌+◌, ◌-◌, ◌<◌, ◌≤◌, ◌^◌, Bool, List, [], ◌∷◌, ◌++◌, length, take, drop, get_or, refl, sym, ◌∙◌, ap, subst, arith, append_assoc, length-append, take-append-drop}
use Rattle.std.proofs.lemmas.List.{drop_at, flat_map_more, length-take-le, length-drop}
use Rattle.journal_core.specs.declared.place.Place.{Place}
use Rattle.journal_core.specs.declared.region.Region.{Region}
use Rattle.journal_core.specs.declared.mount.Gate.TheVariants as gates
use Rattle.journal_core.specs.Frames.{frame, frames, IsBody, AreBodies}
use Rattle.journal_core.specs.Place.{places_from}
use Rattle.journal_core.specs.Region.{half_at, HalfStands}
use Rattle.journal_core.specs.Kept.{Kept, IsOf, Keeps}
use Rattle.journal_core.specs.Scanning.{IsEmpty, GateIs, behind, TakesIn}
use Rattle.journal_core.proofs.Unframing.{opening, length-frame}
use Rattle.journal_core.proofs.Fronts.{OverrunBy, front_overruns}

-- where the half that counts begins
abbrev pub begins : Kept → ℕ
begins journal = half_at journal.region journal.second

-- the journal keeps the first bodies of the half
pub record Scanned (journal : Kept) (image : List ℕ) : Type 0 where
  pub bodies : List (List ℕ)
  pub before : List ℕ
  pub more : List ℕ
  pub whole : image ≡ before ++ (frames bodies ++ more)
  pub place : length before ≡ begins journal
  pub sizes : AreBodies bodies
  pub keeps : Keeps journal bodies

pub started : (journal : Kept) (image : List ℕ) → IsEmpty journal → begins journal ≤ length image → Scanned journal image
started journal image empty within = record {
  bodies = [];
  before = take (begins journal) image;
  more = drop (begins journal) image;
  whole = sym (take-append-drop (begins journal) image);
  place = length-take-le (begins journal) image within;
  sizes = tt;
  keeps = record { places = empty.places; used = empty.used };
}

pub sizes-more : (bodies : List (List ℕ)) (body : List ℕ) → AreBodies bodies → IsBody body → AreBodies (bodies ++ body ∷ [])
sizes-more [] body sizes size = (size, tt)
sizes-more (b ∷ bodies) body sizes size = (sizes.0, sizes-more bodies body sizes.1 size)

pub frames-more : (bodies : List (List ℕ)) (body : List ℕ) → frames bodies ++ frame body ≡ frames (bodies ++ body ∷ [])
frames-more bodies body = flat_map_more frame [] bodies body

pub places-more : (at : ℕ) (bodies : List (List ℕ)) (body : List ℕ)
    → places_from at (bodies ++ body ∷ []) ≡ places_from at bodies ++ record { at = at + length (frames bodies) + 5; length = length body } ∷ []
places-more at [] body = let k : at + 5 ≡ at + 0 + 5 = omega arith in ap (λ (k : ℕ). record { at = k; length = length body } ∷ []) k
places-more at (b ∷ bodies) body =
    let k : at + 5 + length b + length (frames bodies) + 5 ≡ at + length (frames (b ∷ bodies)) + 5 = omega (arith, length-append (frame b) (frames bodies), length-frame b) in
    ap (λ (l : List Place). record { at = at + 5; length = length b } ∷ l) (places-more (at + 5 + length b) bodies body)
    ∙ ap (λ (k : ℕ). record { at = at + 5; length = length b } ∷ (places_from (at + 5 + length b) bodies ++ record { at = k; length = length body } ∷ [])) k

pub begins_same : {old new : Kept} → IsOf old new → begins new ≡ begins old
begins_same {old} {new} is_of = ap (λ (r : Region). half_at r new.second) is_of.region ∙ ap (λ (b : Bool). half_at old.region b) is_of.second

pub keeps_more : (journal new : Kept) (bodies : List (List ℕ)) (body : List ℕ) (n : ℕ) → Keeps journal bodies → length body ≡ n → TakesIn n journal new → Keeps new (bodies ++ body ∷ [])
keeps_more journal new bodies body n keeps long takes = record {
  places = takes.places ∙ ap (λ (l : List Place). l ++ record { at = begins journal + journal.used + 5; length = n } ∷ []) keeps.places
      ∙ ap (λ (k : ℕ). places_from (begins journal) bodies ++ record { at = begins journal + k + 5; length = n } ∷ []) keeps.used
      ∙ ap (λ (k : ℕ). places_from (begins journal) bodies ++ record { at = begins journal + length (frames bodies) + 5; length = k } ∷ []) (sym long)
      ∙ sym (places-more (begins journal) bodies body) ∙ ap (λ (k : ℕ). places_from k (bodies ++ body ∷ [])) (sym (begins_same takes.is_of));
  used = takes.used ∙ (let k : journal.used + 5 + n ≡ length (frames bodies) + length (frame body) = omega (arith, keeps.used, length-frame body, long) in k)
      ∙ sym (length-append (frames bodies) (frame body)) ∙ ap (λ (l : List ℕ). length l) (frames-more bodies body);
}

module _ (journal : Kept) (image : List ℕ) (s : Scanned journal image) where
  abbrev F : List ℕ
  F = frames s.bodies

  front_long : length (s.before ++ F) ≡ begins journal + journal.used
  front_long = omega (arith, length-append s.before F, s.place, s.keeps.used)

  pub behind_is : behind journal image ≡ s.more
  behind_is = ap (λ (l : List ℕ). drop (begins journal + journal.used) l) (s.whole ∙ sym (append_assoc s.before F s.more)) ∙ drop_at (s.before ++ F) s.more (begins journal + journal.used) front_long

  more_long : length image ≡ begins journal + journal.used + length s.more
  more_long = omega (arith, ap length (s.whole ∙ sym (append_assoc s.before F s.more)), length-append (s.before ++ F) s.more, front_long)

  module _ (within : begins journal + journal.region.half ≤ length image) (used_within : journal.used ≤ journal.region.half) where
    more_enough : journal.region.half - journal.used ≤ length s.more
    more_enough = omega (arith, more_long, within, used_within)

    pub taken : (new : Kept) (n : ℕ) → GateIs (journal.region.half - journal.used) (behind journal image) (gates.Body n) → TakesIn n journal new → Scanned new image
    taken new n gate takes =
        let body : List ℕ = take n (drop 5 s.more) in
        let rest : List ℕ = drop n (drop 5 s.more) in
        let enough : n ≤ length (drop 5 s.more) = omega (arith, length-drop 5 s.more, more_enough, gate.2) in
        let long : length body ≡ n = length-take-le n (drop 5 s.more) enough in
        let opens : take 5 s.more ≡ opening n = ap (λ (l : List ℕ). take 5 l) (sym behind_is) ∙ gate.0 in
        let more_is : s.more ≡ frame body ++ rest = sym (take-append-drop 5 s.more) ∙ ap (λ (l : List ℕ). l ++ drop 5 s.more) (opens ∙ ap (λ (k : ℕ). opening k) (sym long))
        ∙ ap (λ (l : List ℕ). opening (length body) ++ l) (sym (take-append-drop n (drop 5 s.more))) ∙ sym (append_assoc (opening (length body)) body rest) in
        let keeps = keeps_more journal new s.bodies body n s.keeps long takes in
        record {
          bodies = s.bodies ++ body ∷ [];
          before = s.before;
          more = rest;
          whole = s.whole ∙ ap (λ (l : List ℕ). s.before ++ (F ++ l)) more_is ∙ ap (λ (l : List ℕ). s.before ++ l) (sym (append_assoc F (frame body) rest))
              ∙ ap (λ (l : List ℕ). s.before ++ (l ++ rest)) (frames-more s.bodies body);
          place = s.place ∙ sym (begins_same takes.is_of);
          sizes = sizes-more s.bodies body s.sizes (let fits : length body < 2 ^ 32 = subst (λ (k : ℕ). k < 2 ^ 32) (sym long) gate.1 in fits);
          keeps = keeps;
        }

    more_cons : 0 < journal.region.half - journal.used → s.more ≡ get_or s.more 0 0 ∷ drop 1 s.more
    more_cons some = cons_of s.more (omega (arith, some, more_enough)) where
      cons_of : (l : List ℕ) → 0 < length l → l ≡ get_or l 0 0 ∷ drop 1 l
      cons_of [] none = absurd (omega (arith, none))
      cons_of (x ∷ l) h = refl

    pub closed : GateIs (journal.region.half - journal.used) (behind journal image) gates.Closed → HalfStands (begins journal) journal.region.half image s.bodies
    closed gate = record {
      before = s.before;
      gate = get_or s.more 0 0;
      behind = drop 1 s.more;
      whole = s.whole ∙ ap (λ (l : List ℕ). s.before ++ (F ++ l)) (more_cons gate.0);
      place = s.place;
      shut = λ e. gate.1 (ap (λ (l : List ℕ). get_or l 0 0) behind_is ∙ e);
      within = omega (arith, gate.0, s.keeps.used, used_within);
      sizes = s.sizes;
    }

  -- the half stands for no list where the next gate is open and its frame reaches past the half
  pub overrun : journal.used ≤ journal.region.half → GateIs (journal.region.half - journal.used) (behind journal image) gates.Overrun
      → (others : List (List ℕ)) → HalfStands (begins journal) journal.region.half image others → ⊥
  overrun used_within gate others stands = front_overruns (begins journal) journal.region.half image s.bodies s.before s.more s.whole s.place s.sizes
      (subst (λ (k : ℕ). OverrunBy (journal.region.half - k) s.more) s.keeps.used (subst (λ (l : List ℕ). OverrunBy (journal.region.half - journal.used) l) behind_is gate))
      (omega (arith, s.keeps.used, used_within)) others stands
