-- Laws of fronts and of ranges of bytes.
use Rattle.std.proofs.Common.{◌≡◌, ◌+◌, ◌-◌, ◌≤◌, ◌<◌, ℕ, List, [], Result, ◌++◌, length, take, drop, get_or, refl, sym, ◌∙◌, ap, subst, arith, append_assoc}
use Rattle.std.proofs.lemmas.List.{append-nil, take-take, drop-drop, get_or-take, get_or-drop, drop-take}
use Rattle.std.proofs.lemmas.Grind.{common_steps}
use Rattle.outside_core.specs.Stream.{Begins}
use Rattle.board_core.specs.Contents.{View, Disk, NothingPending}
use Rattle.board_core.specs.Moments.{SameOutside, Passes, NoMoment, WithinPut, LeftNow, Lawful, written}
use Rattle.board_core.specs.Calls.{Puts, Syncs, Loads}
use Rattle.board_core.specs.Ranges.{ChangesWithin}
use Rattle.board_core.proofs.Public.Chaining.{stays, goes_on, then_quiet, left_behind}
use Rattle.board_core.specs.ReplayLaws.{written_torn}

-- a list begins with itself, and with no bytes
pub begins_refl : (l : List ℕ) → Begins l l
begins_refl l = ([], sym (append-nil l))

pub begins_none : (l : List ℕ) → Begins [] l
begins_none l = (l, refl)

-- a front of a front is a front
pub begins_trans : (a b c : List ℕ) → Begins a b → Begins b c → Begins a c
begins_trans a b c first second = (first.0 ++ second.0, second.1 ∙ ap (λ (l : List ℕ). l ++ second.0) first.1 ∙ append_assoc a first.0 second.0)

-- the same bytes before both
pub begins_append : (front a b : List ℕ) → Begins a b → Begins (front ++ a) (front ++ b)
begins_append front a b begins = (begins.0, ap (λ (l : List ℕ). front ++ l) begins.1 ∙ sym (append_assoc front a begins.0))

-- nothing changed
pub outside_refl : (at n : ℕ) (l : List ℕ) → SameOutside at n l l
outside_refl at n l = record { length_kept = refl; before = refl; behind = refl }

-- one change behind the other, in one range
pub outside_trans : {at n : ℕ} {a b c : List ℕ} → SameOutside at n a b → SameOutside at n b c → SameOutside at n a c
outside_trans first second = record {
  length_kept = second.length_kept ∙ first.length_kept;
  before = second.before ∙ first.before;
  behind = second.behind ∙ first.behind;
}

pub outside_sym : {at n : ℕ} {a b : List ℕ} → SameOutside at n a b → SameOutside at n b a
outside_sym same = record { length_kept = sym same.length_kept; before = sym same.before; behind = sym same.behind }

take_less : (m k : ℕ) (a b : List ℕ) → m ≤ k → take k a ≡ take k b → take m a ≡ take m b
take_less m k a b le same = sym (take-take m k a le) ∙ ap (λ (l : List ℕ). take m l) same ∙ take-take m k b le

drop_more : (k m : ℕ) (a b : List ℕ) → k ≤ m → drop k a ≡ drop k b → drop m a ≡ drop m b
drop_more k m a b le same =
    let split : k + (m - k) ≡ m = omega arith in
    subst (λ (j : ℕ). drop j a ≡ drop j b) split
    (sym (drop-drop (m - k) k a) ∙ ap (λ (l : List ℕ). drop (m - k) l) same ∙ drop-drop (m - k) k b)

-- a range inside a range
pub outside_wider : (at size p n : ℕ) (old new : List ℕ) → at ≤ p → p + n ≤ at + size → SameOutside p n old new → SameOutside at size old new
outside_wider at size p n old new low high same = record {
  length_kept = same.length_kept;
  before = take_less at p new old low same.before;
  behind = drop_more (p + n) (at + size) new old high same.behind;
}

-- what is written inside a range
pub outside_written : (at size p : ℕ) (old bytes : List ℕ) → at ≤ p → p + length bytes ≤ at + size → p + length bytes ≤ length old → SameOutside at size old (written old p bytes)
outside_written at size p old bytes low high fit =
    outside_wider at size p (length bytes) old (written old p bytes) low high (written_torn old p (length bytes) bytes fit (omega arith))

-- a byte before the range is as it was
pub before_same : (at n i d : ℕ) (old new : List ℕ) → i < at → SameOutside at n old new → get_or new i d ≡ get_or old i d
before_same at n i d old new low same = sym (get_or-take at new i d low) ∙ ap (λ (l : List ℕ). get_or l i d) same.before ∙ get_or-take at old i d low

-- a byte behind the range is as it was
pub behind_byte : (at n i d : ℕ) (old new : List ℕ) → at + n ≤ i → SameOutside at n old new → get_or new i d ≡ get_or old i d
behind_byte at n i d old new low same =
    let split : at + n + (i - (at + n)) ≡ i = omega arith in
    subst (λ (k : ℕ). get_or new k d ≡ get_or old k d) split
    (sym (get_or-drop (at + n) new (i - (at + n)) d) ∙ ap (λ (l : List ℕ). get_or l (i - (at + n)) d) same.behind ∙ get_or-drop (at + n) old (i - (at + n)) d)

-- bytes behind the range are as they were
pub behind_same : (at n p count : ℕ) (old new : List ℕ) → at + n ≤ p → SameOutside at n old new → take count (drop p new) ≡ take count (drop p old)
behind_same at n p count old new low same = ap (λ (l : List ℕ). take count l) (drop_more (at + n) p new old low same.behind)

-- what was written is there
pub written_there : (old bytes : List ℕ) (at : ℕ) → at + length bytes ≤ length old → take (length bytes) (drop at (written old at bytes)) ≡ bytes
written_there old bytes at fit = grind (arith, common_steps)

-- bytes before the range are as they were
pub before_kept : (at n p count : ℕ) (old new : List ℕ) → p + count ≤ at → SameOutside at n old new → take count (drop p new) ≡ take count (drop p old)
before_kept at n p count old new low same =
    sym (drop-take p count new) ∙ ap (λ (l : List ℕ). drop p l) (take_less (p + count) at new old low same.before) ∙ drop-take p count old

-- no call changes nothing
pub changes_none : (at n : ℕ) (board : View) → ChangesWithin at n board board
changes_none at n board = record { silent = refl; outside = outside_refl at n board.now.disk.bytes; moments = stays board _ }

-- what a crash may leave behind such a call is what it might have left before, but for the range
pub changes_left : {at n : ℕ} {old new : View} → Lawful new → ChangesWithin at n old new → (sent image : List ℕ) → LeftNow new sent image → WithinPut old at n sent image
changes_left {at} {n} {old} laws changes sent image left =
    left_behind laws changes.moments (λ s i l. (i, l, outside_refl at n i)) sent image left

-- two calls, of which each changes the range alone
pub changes_both : {at n : ℕ} {old mid new : View} → Lawful mid → ChangesWithin at n old mid → ChangesWithin at n mid new → ChangesWithin at n old new
changes_both {at} {n} laws first second = record {
  silent = second.silent ∙ first.silent;
  outside = outside_trans first.outside second.outside;
  moments = goes_on first.moments second.moments (λ s i w. w) (λ s i w.
      let was = changes_left laws first s w.0 w.1 in (was.0, was.1, outside_trans was.2 w.2));
}

-- a range within the range
pub changes_wider : {p m : ℕ} {old new : View} (at n : ℕ) → at ≤ p → p + m ≤ at + n → ChangesWithin p m old new → ChangesWithin at n old new
changes_wider {p} {m} at n low high changes = record {
  silent = changes.silent;
  outside = outside_wider at n p m _ _ low high changes.outside;
  moments = goes_on (stays _ _) changes.moments (λ s i w. w) (λ s i w. (w.0, w.1, outside_wider at n p m _ _ low high w.2));
}

-- a put, whatever it answers
pub put_changes : {T E : Type 0} {at : ℕ} {bytes : List ℕ} {result : Result T E} {old new : View}
    → Puts at bytes result old new → Passes old new (WithinPut old at (length bytes)) → ChangesWithin at (length bytes) old new
put_changes puts moments = record { silent = puts.silent; outside = puts.outside; moments = moments }

-- a sync changes nothing, whatever it answers
pub sync_changes : {T E : Type 0} (at n : ℕ) {result : Result T E} {old new : View} → Syncs result old new → Passes old new NoMoment → ChangesWithin at n old new
sync_changes at n {old = old} syncs moments = record {
  silent = syncs.silent;
  outside = subst (λ (l : List ℕ). SameOutside at n old.now.disk.bytes l) (sym (ap (λ (d : Disk). d.bytes) syncs.disk)) (outside_refl at n old.now.disk.bytes);
  moments = then_quiet (stays old _) moments;
}

-- a load changes nothing, whatever it answers
pub load_changes : {T E : Type 0} (at n : ℕ) {from : ℕ} {buf : List ℕ} {result : Result T E} {old new : View}
    → Loads from buf result old new → Passes old new NoMoment → ChangesWithin at n old new
load_changes at n {old = old} loads moments = record {
  silent = loads.same.stream;
  outside = subst (λ (d : Disk). SameOutside at n old.now.disk.bytes d.bytes) (sym loads.same.disk) (outside_refl at n old.now.disk.bytes);
  moments = then_quiet (stays old _) moments;
}

-- where nothing was pending before, what is pending now lies within the range
pub pending_within : {at n : ℕ} {old new : View} → Lawful old → NothingPending old → Lawful new → ChangesWithin at n old new
    → (sent image : List ℕ) → LeftNow new sent image → SameOutside at n new.now.disk.bytes image
pending_within {at} {n} {old} {new} laws clean laws_new changes sent image left =
    let was = changes_left laws_new changes sent image left in
    outside_trans (outside_sym changes.outside) (subst (λ (l : List ℕ). SameOutside at n l image) (laws.clean_now clean sent was.0 was.1) was.2)
