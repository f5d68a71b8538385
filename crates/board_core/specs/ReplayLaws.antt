-- The laws of a replayed list of calls.
use Rattle.std.specs.Prelude.{◌≡◌, ◌+◌, ◌-◌, ◌≤◌, ◌⊎◌, ◌++◌, List, [], ◌∷◌, ℕ, zero, suc, Bool, true, false, IsTrue, length, take, drop, leb, ◌&&◌}
use Rattle.std.proofs.Common.{refl, sym, ◌∙◌, ap, inl, inr, arith, length-append, length-take}
use Rattle.std.proofs.lemmas.Bool.Decides.{nat_tests}
use Rattle.std.proofs.Math.Seq.{drop-append-add}
use Rattle.std.proofs.lemmas.List.{drop-drop, append-nil}
use Rattle.std.proofs.lemmas.Grind.{common_steps}
use Rattle.board_core.specs.Moments.{SameOutside, written}
use Rattle.board_core.specs.Replay.{State, fresh, done, step, replay, Between, Inside, LeftFrom, fits, all_fit}
use Rattle.board_core.specs.declared.call.Call.{Call}
use Rattle.board_core.specs.declared.call.Call.TheVariants.{Read, Send, Load, Put, Sync}

-- one more call is one more step
pub replay-push : (s : State) (cs : List Call) (c : Call) → replay s (cs ++ c ∷ []) ≡ step (replay s cs) c
replay-push s [] c = refl
replay-push s (d ∷ ds) c = replay-push (step s d) ds c

-- what may be left from now on stands between two calls
pub left_now : (s : State) (cs : List Call) (sent image : List ℕ) → LeftFrom s cs (length cs) sent image → Between (replay s cs) sent image
left_now s [] sent image left = left
left_now s (d ∷ ds) sent image left = left_now (step s d) ds sent image left

-- what stands between two calls may be left since any moment
pub now_left : (s : State) (cs : List Call) (t : ℕ) (sent image : List ℕ) → Between (replay s cs) sent image → LeftFrom s cs t sent image
now_left s [] t sent image now = now
now_left s (d ∷ ds) zero sent image now = inr (now_left (step s d) ds zero sent image now)
now_left s (d ∷ ds) (suc t) sent image now = now_left (step s d) ds t sent image now

-- what may be left since a moment may be left since an earlier one
pub left_earlier : (s : State) (cs : List Call) (t u : ℕ) (sent image : List ℕ) → t ≤ u → LeftFrom s cs u sent image → LeftFrom s cs t sent image
left_earlier s [] t u sent image le left = left
left_earlier s (d ∷ ds) zero zero sent image le left = left
left_earlier s (d ∷ ds) (suc t) zero sent image le left = absurd (omega arith)
left_earlier s (d ∷ ds) zero (suc u) sent image le left = inr (left_earlier (step s d) ds zero u sent image (omega arith) left)
left_earlier s (d ∷ ds) (suc t) (suc u) sent image le left = left_earlier (step s d) ds t u sent image (omega arith) left

left_pushed : (s : State) (cs : List Call) (c : Call) (t : ℕ) (sent image : List ℕ) → t ≤ length cs → LeftFrom s (cs ++ c ∷ []) t sent image
    → LeftFrom s cs t sent image ⊎ (Inside (replay s cs) c sent image ⊎ Between (step (replay s cs) c) sent image)
left_pushed s [] c zero sent image le left = inr left
left_pushed s [] c (suc t) sent image le left = absurd (omega arith)
left_pushed s (d ∷ ds) c zero sent image le left = elim left [
  | inl inside ↦ inl (inl inside)
  | inr later ↦ elim (left_pushed (step s d) ds c zero sent image (omega arith) later) [ inl was ↦ inl (inr was) | inr new ↦ inr new ]
]
left_pushed s (d ∷ ds) c (suc t) sent image le left = left_pushed (step s d) ds c t sent image (omega arith) left

-- bytes are the same outside of any place
pub torn_same : (at n : ℕ) (l : List ℕ) → SameOutside at n l l
torn_same at n l = record { length_kept = refl; before = refl; behind = refl }

-- the moment before a call is the first inside it
between_inside : (s : State) (c : Call) (sent image : List ℕ) → Between s sent image → Inside s c sent image
between_inside s (Read ok) sent image now = now
between_inside s (Send bytes ok) sent image now = (([], (bytes, refl), now.0 ∙ sym (append-nil s.sent)), now.1)
between_inside s (Load ok) sent image now = now
between_inside s (Put at bytes ok) sent image now = (now.0, (image, now.1, torn_same at (length bytes) image))
between_inside s (Sync ok) sent image now = now

left_kept : (s : State) (cs : List Call) (c : Call) (t : ℕ) (sent image : List ℕ) → t ≤ length cs → LeftFrom s cs t sent image → LeftFrom s (cs ++ c ∷ []) t sent image
left_kept s [] c zero sent image le left = inl (between_inside s c sent image left)
left_kept s [] c (suc t) sent image le left = absurd (omega arith)
left_kept s (d ∷ ds) c zero sent image le left = elim left [ inl inside ↦ inl inside | inr later ↦ inr (left_kept (step s d) ds c zero sent image (omega arith) later) ]
left_kept s (d ∷ ds) c (suc t) sent image le left = left_kept (step s d) ds c t sent image (omega arith) left

-- Time goes on by a call: each moment since `t` is one that there was, or is one within the call; and those that there were stay.
pub record Elapses (before now : ℕ) (past since : ℕ → List ℕ → List ℕ → Type 0) (within : List ℕ → List ℕ → Type 0) : Type 0 where
  pub later : before ≤ now
  pub nothing_else : (t : ℕ) (sent image : List ℕ) → t ≤ before → since t sent image → past t sent image ⊎ within sent image
  pub keeps : (t : ℕ) (sent image : List ℕ) → t ≤ before → past t sent image → since t sent image

-- one more call: what is new is what that call may leave
pub elapsed : (s : State) (cs : List Call) (c : Call) (within : List ℕ → List ℕ → Type 0)
    → ((sent image : List ℕ) → Inside (replay s cs) c sent image → Between (replay s cs) sent image ⊎ within sent image)
    → ((sent image : List ℕ) → Between (step (replay s cs) c) sent image → Between (replay s cs) sent image ⊎ within sent image)
    → Elapses (length cs) (length (cs ++ c ∷ [])) (LeftFrom s cs) (LeftFrom s (cs ++ c ∷ [])) within
elapsed s cs c within inside behind = record {
  later = omega (arith, length-append cs (c ∷ []));
  nothing_else = λ t sent image le left. elim (left_pushed s cs c t sent image le left) [
    | inl was ↦ inl was
    | inr new ↦ elim new [
      | inl i ↦ elim (inside sent image i) [ inl now ↦ inl (now_left s cs t sent image now) | inr w ↦ inr w ]
      | inr b ↦ elim (behind sent image b) [ inl now ↦ inl (now_left s cs t sent image now) | inr w ↦ inr w ]
    ]
  ];
  keeps = λ t sent image le left. left_kept s cs c t sent image le left;
}

-- what holds of each state that calls within the image lead to
pub record Sound (size : ℕ) (s : State) : Type 0 where
  pub stands : s.may s.bytes
  pub only : IsTrue s.clean → (image : List ℕ) → s.may image → image ≡ s.bytes
  pub measured : length s.bytes ≡ size

drop_front : (front back : List ℕ) (i m : ℕ) → i ≡ length front + m → drop i (front ++ back) ≡ drop m back
drop_front front back i m is = ap (λ (k : ℕ). drop k (front ++ back)) is ∙ drop-append-add front back m

-- bytes that are written change nothing outside of their place
pub written_torn : (image : List ℕ) (at n : ℕ) (bytes : List ℕ) → at + n ≤ length image → length bytes ≤ n → SameOutside at n image (written image at bytes)
written_torn image at n bytes fit short =
    let k = length bytes in
    let front : length (take at image ++ bytes) ≡ at + k = grind (arith, common_steps) in
    record {
      length_kept = grind (arith, common_steps);
      before = grind (arith, common_steps);
      behind = drop_front (take at image ++ bytes) (drop (at + k) image) (at + n) (n - k) (omega arith)
          ∙ drop-drop (n - k) (at + k) image ∙ ap (λ (j : ℕ). drop j image) (let j : at + k + (n - k) ≡ at + n = omega arith in j);
    }

-- no more bytes are done than were asked for
pub done_short : (ok : Bool) (bytes : List ℕ) → length (done ok bytes) ≤ length bytes
done_short true bytes = omega arith
done_short false bytes = simp length-take (omega arith)

-- a test that says so
pub le_of : (a b : ℕ) → leb a b ≡ true → a ≤ b
le_of a b h = grind (arith, nat_tests)

-- both tests of a pair hold
pub and_true : (a b : Bool) → (a && b) ≡ true → (a ≡ true) × (b ≡ true)
and_true true b h = (refl, h)
and_true false b h = absurd (let no : false ≡ true = h in cc)

-- a new board is sound
pub sound_fresh : (image : List ℕ) → Sound (length image) (fresh image)
sound_fresh image = record { stands = refl; only = λ clean after is. is; measured = refl }

-- a call within the image leaves a sound state sound
pub sound_step : (size : ℕ) (s : State) (c : Call) → IsTrue (fits size c) → Sound size s → Sound size (step s c)
sound_step size s (Read ok) fit sound = sound
sound_step size s (Send bytes ok) fit sound = record { stands = sound.stands; only = sound.only; measured = sound.measured }
sound_step size s (Load ok) fit sound = sound
sound_step size s (Put at bytes ok) fit sound =
    let within : at + length bytes ≤ length s.bytes = rw sound.measured (le_of (at + length bytes) size fit) in
    let torn = written_torn s.bytes at (length bytes) (done ok bytes) within (done_short ok bytes) in
    record {
      stands = (s.bytes, sound.stands, torn);
      only = λ clean. absurd (let no : false ≡ true = clean in cc);
      measured = torn.length_kept ∙ sound.measured;
    }
sound_step size s (Sync true) fit sound = record { stands = refl; only = λ clean after is. is; measured = sound.measured }
sound_step size s (Sync false) fit sound = sound

-- and so do all calls of a list
pub sound : (size : ℕ) (s : State) (cs : List Call) → IsTrue (all_fit size cs) → Sound size s → Sound size (replay s cs)
sound size s [] fit start = start
sound size s (d ∷ ds) fit start = let both = and_true (fits size d) (all_fit size ds) fit in sound size (step s d) ds both.1 (sound_step size s d both.0 start)
