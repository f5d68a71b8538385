-- The moments of bytes written behind a gate.
use Rattle.std.proofs.Common.{◌≡◌, ◌+◌, ◌-◌, ◌≤◌, ◌<◌, ℕ, List, length, take, drop, get_or, sym, ◌∙◌, ap, subst, inl, inr, arith, Some, None, ◌≢◌}
use Rattle.std.proofs.lemmas.Bool.{cases_eq}
use Rattle.std.proofs.lemmas.Bool.Decides.{eqb_tells}
use Rattle.outside_core.specs.Stream.{Stream}
use Rattle.board_core.specs.Contents.{View, NothingPending}
use Rattle.board_core.specs.Moments.{SameOutside, Passes, OldOrNew, Lawful, written}
use Rattle.board_core.specs.Ranges.{ChangesWithin}
use Rattle.board_core.specs.Gates.{shown, WithinGated, WritesWithin, PendingWithin}
use Rattle.board_core.proofs.Public.Chaining.{goes_on, widened, put_moments}
use Rattle.board_core.proofs.Public.Ranges.{before_same, behind_same, written_there, changes_both, changes_wider, pending_within}

module _ (at gate : ℕ) (bytes : List ℕ) {old : View} (before : gate < at) where
  -- the bytes are put, and the gate is not
  pub bytes_within : {new : View} → ChangesWithin at (length bytes) old new → new.now.disk.stored ≤ old.now.disk.stored + length bytes → WritesWithin at bytes gate old new
  bytes_within changes stored = record {
    changes = changes_wider gate (at + length bytes - gate) (omega (arith, before)) (omega (arith, before)) changes;
    part = inl changes.outside;
    stored = omega (arith, stored);
  }

  pub bytes_moments : {new : View} → Lawful old → NothingPending old → ChangesWithin at (length bytes) old new → Passes old new (WithinGated at bytes gate old)
  bytes_moments laws clean changes = widened (put_moments laws clean changes.moments) (λ sent image w. (w.0, inl w.1))

  pub bytes_pending : {new : View} → Lawful old → NothingPending old → Lawful new → ChangesWithin at (length bytes) old new → PendingWithin at (length bytes) gate new
  bytes_pending laws clean laws_new changes sent image left = inl (pending_within laws clean laws_new changes sent image left)

  -- the bytes are durable, and then the gate is put
  module _ {mid : View} (laws_mid : Lawful mid) (clean_mid : NothingPending mid) (first : ChangesWithin at (length bytes) old mid)
      (bytes_are : mid.now.disk.bytes ≡ written old.now.disk.bytes at bytes) where
    pub gate_within : {new : View} → ChangesWithin gate 1 mid new → mid.now.disk.stored ≤ old.now.disk.stored + length bytes → new.now.disk.stored ≤ mid.now.disk.stored + 1
        → WritesWithin at bytes gate old new
    gate_within {new} second stored stored_gate = record {
      changes = changes_both laws_mid (changes_wider gate (at + length bytes - gate) (omega (arith, before)) (omega (arith, before)) first)
          (changes_wider gate (at + length bytes - gate) (omega arith) (omega (arith, before)) second);
      part = inr (subst (λ (l : List ℕ). SameOutside gate 1 l new.now.disk.bytes) bytes_are second.outside);
      stored = omega (arith, stored, stored_gate);
    }

    pub gate_moments : {new : View} → Lawful old → NothingPending old → ChangesWithin gate 1 mid new → Passes old new (WithinGated at bytes gate old)
    gate_moments laws clean second = goes_on (bytes_moments laws clean first) (put_moments laws_mid clean_mid second.moments) (λ sent image w. w)
        (λ sent image w. (w.0 ∙ ap (λ (s : Stream). s.sent) first.silent, inr (subst (λ (l : List ℕ). SameOutside gate 1 l image) bytes_are w.1)))

    pub gate_pending : {new : View} → Lawful new → ChangesWithin gate 1 mid new → PendingWithin at (length bytes) gate new
    gate_pending laws_new second sent image left = inr (pending_within laws_mid clean_mid laws_new second sent image left)

pub shown_open : (gate byte at n : ℕ) (image : List ℕ) → get_or image gate 0 ≡ byte → shown gate byte at n image ≡ Some (take n (drop at image))
shown_open gate byte at n image open_ = elim (eqb_tells (get_or image gate 0) byte) [
  | inl is ↦ rw is.0
  | inr not ↦ absurd (not.1 open_)
]

pub shown_shut : (gate byte at n : ℕ) (image : List ℕ) → get_or image gate 0 ≢ byte → shown gate byte at n image ≡ None
shown_shut gate byte at n image shut = elim (eqb_tells (get_or image gate 0) byte) [
  | inl is ↦ absurd (shut is.1)
  | inr not ↦ rw not.0
]

-- behind a gate that was shut, a crash within leaves nothing or all of the bytes
pub gated_old_or_new : (at : ℕ) (bytes : List ℕ) (gate byte : ℕ) (old : View) (sent image : List ℕ) → gate < at → at + length bytes ≤ length old.now.disk.bytes
    → get_or old.now.disk.bytes gate 0 ≢ byte → WithinGated at bytes gate old sent image
    → OldOrNew (λ l value. shown gate byte at (length bytes) l ≡ value) None (Some bytes) old sent image
gated_old_or_new at bytes gate byte old sent image before fit shut within =
    let was = old.now.disk.bytes in (
      within.0,
      elim within.1 [
        | inl same ↦ inl (shown_shut gate byte at (length bytes) image (λ open_. shut (sym (before_same at (length bytes) gate 0 was image before same) ∙ open_)))
        | inr same ↦ elim (cases_eq (get_or image gate 0) byte) [
          | inl open_ ↦ inr (shown_open gate byte at (length bytes) image open_
              ∙ ap (λ (l : List ℕ). Some l) (behind_same gate 1 at (length bytes) (written was at bytes) image (omega (arith, before)) same ∙ written_there was bytes at fit))
          | inr shut_ ↦ inl (shown_shut gate byte at (length bytes) image shut_)
        ]
      ],
    )
