-- The laws of the history of a board in memory.
use Rattle.std.specs.Prelude.{ℕ, List, length}
use Rattle.std.proofs.Common.{refl}
use Rattle.board_core.specs.Contents.{Faults}
use Rattle.board_core.specs.Moments.{Lawful}
use Rattle.board_core.specs.Replay.{fresh}
use Rattle.board_core.specs.ReplayLaws.{Sound, sound, sound_fresh, left_now, now_left, left_earlier}
use Rattle.board_core.specs.History.{state_of, seen}
use Rattle.board_core.specs.declared.history.History.{History}

-- the calls of a history lead to a sound state
pub sound_here : (h : History) → Sound (length h.first) (state_of h)
sound_here h = sound (length h.first) (fresh h.first) h.calls h.puts_fit (sound_fresh h.first)

-- a board with a history keeps the laws
pub lawful : (faults : Faults) (taken : ℕ) (rest : List ℕ) (h : History) → Lawful (seen faults taken rest h)
lawful faults taken rest h = record {
  stands = now_left (fresh h.first) h.calls (length h.calls) _ _ (refl, (sound_here h).stands);
  sent_now = λ sent image left. (left_now (fresh h.first) h.calls sent image left).0;
  clean_now = λ clean sent image left. (sound_here h).only clean image (left_now (fresh h.first) h.calls sent image left).1;
  earlier = λ t u sent image le left. left_earlier (fresh h.first) h.calls t u sent image le left;
  measured = (sound_here h).measured;
}
