-- What one more call keeps.
use Rattle.std.proofs.Common.{◌≡◌, ◌+◌, ◌≤◌, ℕ, Bool, true, false, List, [], ◌∷◌, ◌++◌, length, refl, sym, ◌∙◌, ap, arith, ◌&&◌, ◌⊎◌, inl, inr, Result, Ok, Err, OnOk, OnErr}
use Rattle.std.proofs.lemmas.Bool.{le-leb}
use Rattle.board_core.specs.Moments.{written}
use Rattle.board_core.specs.Replay.{State, fresh, done, step, replay, fits, all_fit, IsIdle}
use Rattle.board_core.specs.ReplayLaws.{replay-push}
use Rattle.board_core.specs.declared.call.Call.{Call}
use Rattle.board_core.specs.declared.call.Call.TheVariants.{Read, Send, Load, Put, Sync}

pub all_fit-push : (size : ℕ) (cs : List Call) (c : Call) → all_fit size cs ≡ true → fits size c ≡ true → all_fit size (cs ++ c ∷ []) ≡ true
all_fit-push size [] c all one = ap (λ (b : Bool). b && true) one
all_fit-push size (d ∷ ds) c all one = grind (arith, all_fit-push size ds c)

idle_fits : (size : ℕ) (c : Call) → IsIdle c → fits size c ≡ true
idle_fits size (Read ok) idle = refl
idle_fits size (Send bytes ok) idle = refl
idle_fits size (Load ok) idle = refl
idle_fits size (Put at bytes ok) idle = absurd idle
idle_fits size (Sync ok) idle = refl

idle_bytes : (s : State) (c : Call) → IsIdle c → (step s c).bytes ≡ s.bytes
idle_bytes s (Read ok) idle = refl
idle_bytes s (Send bytes ok) idle = refl
idle_bytes s (Load ok) idle = refl
idle_bytes s (Put at bytes ok) idle = absurd idle
idle_bytes s (Sync true) idle = refl
idle_bytes s (Sync false) idle = refl

-- the state behind one more call
pub next : (first : List ℕ) (cs cs2 : List Call) (c : Call) → cs2 ≡ cs ++ c ∷ [] → replay (fresh first) cs2 ≡ step (replay (fresh first) cs) c
next first cs cs2 c are = ap (λ (l : List Call). replay (fresh first) l) are ∙ replay-push (fresh first) cs c

pub idle_followed : (first image : List ℕ) (cs cs2 : List Call) (c : Call) → IsIdle c → cs2 ≡ cs ++ c ∷ [] → image ≡ (replay (fresh first) cs).bytes
    → image ≡ (replay (fresh first) cs2).bytes
idle_followed first image cs cs2 c idle are was =
    was ∙ sym (idle_bytes (replay (fresh first) cs) c idle) ∙ ap (λ (s : State). s.bytes) (sym (next first cs cs2 c are))

pub idle_all_fit : (size : ℕ) (cs cs2 : List Call) (c : Call) → IsIdle c → cs2 ≡ cs ++ c ∷ [] → all_fit size cs ≡ true → all_fit size cs2 ≡ true
idle_all_fit size cs cs2 c idle are all = ap (λ (l : List Call). all_fit size l) are ∙ all_fit-push size cs c all (idle_fits size c idle)

pub put_followed : (first image image2 : List ℕ) (cs cs2 : List Call) (at : ℕ) (bytes : List ℕ) (ok : Bool) → cs2 ≡ cs ++ Put at bytes ok ∷ []
    → image ≡ (replay (fresh first) cs).bytes → image2 ≡ written image at (done ok bytes) → image2 ≡ (replay (fresh first) cs2).bytes
put_followed first image image2 cs cs2 at bytes ok are was is =
    is ∙ ap (λ (l : List ℕ). written l at (done ok bytes)) was
    ∙ ap (λ (s : State). s.bytes) (sym (next first cs cs2 (Put at bytes ok) are))

pub put_all_fit : (size : ℕ) (cs cs2 : List Call) (at : ℕ) (bytes : List ℕ) (ok : Bool) → cs2 ≡ cs ++ Put at bytes ok ∷ [] → at + length bytes ≤ size
    → all_fit size cs ≡ true → all_fit size cs2 ≡ true
put_all_fit size cs cs2 at bytes ok are fit all = ap (λ (l : List Call). all_fit size l) are ∙ all_fit-push size cs (Put at bytes ok) all (le-leb (at + length bytes) size fit)

-- what is so on success and what is so on failure
pub either : {T E A B : Type 0} (r : Result T E) → OnOk r A → OnErr r B → A ⊎ B
either (Ok x) a b = inl a
either (Err e) a b = inr b

pub idle_kept : (first image : List ℕ) (cs cs2 : List Call) (c : Call) → IsIdle c → (cs2 ≡ cs ++ c ∷ []) ⊎ (cs2 ≡ cs) → image ≡ (replay (fresh first) cs).bytes
    → all_fit (length first) cs ≡ true → (image ≡ (replay (fresh first) cs2).bytes) × (all_fit (length first) cs2 ≡ true)
idle_kept first image cs cs2 c idle (inl are) was all = (idle_followed first image cs cs2 c idle are was, idle_all_fit (length first) cs cs2 c idle are all)
idle_kept first image cs cs2 c idle (inr same) was all = (was ∙ ap (λ (l : List Call). (replay (fresh first) l).bytes) (sym same), ap (λ (l : List Call). all_fit (length first) l) same ∙ all)
