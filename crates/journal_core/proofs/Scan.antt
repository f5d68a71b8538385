-- A look through a half, over a board.
use Rattle.std.proofs.Common.{◌≡◌, ℕ, ◌+◌, ◌-◌, ◌≤◌, Bool, true, false, List, length, refl, sym, ◌∙◌, ap, subst, arith, Result, Ok, Err}
use Rattle.base_types.specs.declared.failed.Failed.{Failed}
use Rattle.board_core.specs.Contents.{View, Disk, Same}
use Rattle.board_core.specs.Moments.{Passes, NoMoment, Lawful}
use Rattle.board_core.specs.Calls.{DiskCause}
use Rattle.board_core.proofs.Public.Chaining.{stays, then_quiet}
use Rattle.board_core.proofs.Public.Counts.{same_none, same_both, disk_none, disk_both, disk_worked}
use Rattle.journal_core.specs.declared.region.Region.{Region}
use Rattle.journal_core.specs.declared.mount.Gate.TheVariants as gates
use Rattle.journal_core.specs.declared.fault.JournalFault.{JournalFault}
use Rattle.journal_core.specs.declared.fault.JournalFault.TheVariants as mount
use Rattle.journal_core.specs.Region.{region_size, half_at, selected, HalfStands}
use Rattle.journal_core.specs.Kept.{Kept, IsWithin, IsOf}
use Rattle.journal_core.specs.Scanning.{IsEmpty, GateIs, behind, TakesIn, Scans}
use Rattle.journal_core.specs.Outcome.{Mounts}
use Rattle.journal_core.proofs.Scanned.{Scanned, begins, started, taken, closed, overrun}

-- The journal has taken in some bodies of the image that was there at first, by loads that worked.
pub record Going (told : Type 0) (start journal : Kept) (old new : View) : Type 0 where
  pub is_of : IsOf start journal
  pub within : journal.used ≤ journal.region.half
  pub cause : DiskCause {T = Unit {0}} {E = Failed} old new (Ok tt)
  pub same : told → Same old new
  pub moments : told → Passes old new NoMoment
  pub scanned : told → Scanned journal old.now.disk.bytes

-- both halves lie within the region
pub half_inside : (region : Region) (second : Bool) → half_at region second + region.half ≤ region.at + region_size region
half_inside region false = omega arith
half_inside region true = omega arith

-- they begin behind the selector and its free bytes
pub half_after : (region : Region) (second : Bool) → region.at + 16 ≤ half_at region second
half_after region false = omega arith
half_after region true = omega arith

module _ (told : Type 0) (start : Kept) (old : View) (inside : IsWithin start.region old.extent) (laws : told → Lawful old) where
  -- the half lies within the image
  half_within : (journal : Kept) → IsOf start journal → told → begins journal + journal.region.half ≤ length old.now.disk.bytes
  half_within journal is_of tells =
      let region : IsWithin journal.region old.extent = subst (λ (r : Region). IsWithin r old.extent) (sym is_of.region) inside in
      omega (arith, half_inside journal.region journal.second, region, (laws tells).measured)

  pub going_started : IsEmpty start → Going told start start old old
  going_started empty = record {
    is_of = record { region = refl; second = refl };
    within = omega (arith, empty.used);
    cause = disk_none old;
    same = λ tells. same_none old;
    moments = λ tells. stays old NoMoment;
    scanned = λ tells. started start old.now.disk.bytes empty (omega (arith, half_within start (record { region = refl; second = refl }) tells));
  }

  module _ (journal : Kept) (mid : View) (going : Going told start journal old mid) where
    abbrev room : ℕ
    room = journal.region.half - journal.used

    -- what stands behind the bodies so far is the same in the image that was there at first
    at_first : (tells : told) (gate : _) → GateIs room (behind journal mid.now.disk.bytes) gate → GateIs room (behind journal old.now.disk.bytes) gate
    at_first tells gate is = subst (λ (d : Disk). GateIs room (behind journal d.bytes) gate) ((going.same tells).disk) is

    pub going_on : {G : Type 0} {new : View} {gate : G} (next : Kept) (n : ℕ) → DiskCause {E = Failed} mid new (Ok gate) → (told → Same mid new) → (told → Passes mid new NoMoment)
        → (told → GateIs room (behind journal mid.now.disk.bytes) (gates.Body n)) → n + 6 ≤ room → TakesIn n journal next → Going told start next old new
    going_on next n cause same moments gate fits takes = record {
      is_of = record { region = takes.is_of.region ∙ going.is_of.region; second = takes.is_of.second ∙ going.is_of.second };
      within = subst (λ (r : Region). next.used ≤ r.half) (sym takes.is_of.region) (omega (arith, takes.used, fits, going.within));
      cause = disk_worked (disk_both going.cause cause);
      same = λ tells. same_both (going.same tells) (same tells);
      moments = λ tells. then_quiet (going.moments tells) (moments tells);
      scanned = λ tells. taken journal old.now.disk.bytes (going.scanned tells) (half_within journal going.is_of tells) going.within next n (at_first tells (gates.Body n) (gate tells)) takes;
    }

    pub going_closed : (tells : told) → GateIs room (behind journal mid.now.disk.bytes) gates.Closed → HalfStands (begins journal) journal.region.half old.now.disk.bytes (going.scanned tells).bodies
    going_closed tells gate = closed journal old.now.disk.bytes (going.scanned tells) (half_within journal going.is_of tells) going.within (at_first tells gates.Closed gate)

    -- the half is that of the journal that began
    same_half : (others : List (List ℕ)) → HalfStands (begins start) start.region.half old.now.disk.bytes others → HalfStands (begins journal) journal.region.half old.now.disk.bytes others
    same_half others stands = subst (λ (r : Region). HalfStands (half_at r journal.second) r.half old.now.disk.bytes others) (sym going.is_of.region)
        (subst (λ (b : Bool). HalfStands (half_at start.region b) start.region.half old.now.disk.bytes others) (sym going.is_of.second) stands)

    pub going_overrun : (tells : told) → GateIs room (behind journal mid.now.disk.bytes) gates.Overrun → (others : List (List ℕ)) → HalfStands (begins start) start.region.half old.now.disk.bytes others → ⊥
    going_overrun tells gate others stands = overrun journal old.now.disk.bytes (going.scanned tells) going.within (at_first tells gates.Overrun gate) others (same_half others stands)

-- a look through the half that counts is a mount
mounted_here : (region : Region) (image : List ℕ) (start : Kept) (result : Result Kept JournalFault) → start.region ≡ region → start.second ≡ selected region image → Scans start image result → Mounts region image result
mounted_here region image start (Ok journal) region_is second_is s =
    let here : journal.region ≡ region = s.0.region ∙ region_is in
    let selector : selected journal.region image ≡ journal.second = ap (λ (r : Region). selected r image) here ∙ sym second_is ∙ sym s.0.second in (
      here,
      (
        s.1.0,
        record {
          selector = selector;
          stands = subst (λ (b : Bool). HalfStands (half_at journal.region b) journal.region.half image s.1.0) (sym selector) s.1.1;
          keeps = s.1.2;
        },
      ),
    )
mounted_here region image start (Err mount.NoJournal) region_is second_is s = λ bodies stands. s bodies
    (subst (λ (r : Region). HalfStands (half_at r start.second) r.half image bodies) (sym region_is) (subst (λ (b : Bool). HalfStands (half_at region b) region.half image bodies) (sym second_is) stands))
mounted_here region image start (Err mount.DiskFault) region_is second_is s = tt
mounted_here region image start (Err mount.NoMemory) region_is second_is s = tt

-- the same where only the selector was loaded before
pub mounted : (region : Region) (image later : List ℕ) (start : Kept) (result : Result Kept JournalFault) → start.region ≡ region → start.second ≡ selected region image → later ≡ image
    → Scans start later result → Mounts region image result
mounted region image later start result region_is second_is same s = mounted_here region image start result region_is second_is (subst (λ (l : List ℕ). Scans start l result) same s)
