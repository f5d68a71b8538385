-- What one look for a frame gives.
use Rattle.std.specs.Prelude.{◌≡◌, ◌+◌, ◌<◌, ◌≤◌, ◌++◌, List, [], ℕ, length}
use Rattle.frames.specs.Frames.{Frame, frame_bytes}
use Rattle.frames.specs.Reading.{Head, IsFrame, IsCut, IsPart}
use Rattle.outside_core.specs.Stream.{Stream, Took}
use Rattle.frames.specs.declared.next.Next.{Next}
use Rattle.frames.specs.declared.next.Next.TheVariants.{Got, Whole, Long, Cut, Spent, ReadFault, NoMemory}

-- a frame came whole
pub record Came (limit : ℕ) (frame : Frame) (before behind : List ℕ) : Type 0 where
  pub within : IsFrame limit frame
  pub front : before ≡ frame_bytes frame ++ behind

-- nothing, or less than a frame, came
pub record PartCame (limit : ℕ) (before behind : List ℕ) : Type 0 where
  pub bytes : List ℕ
  pub front : before ≡ bytes ++ behind
  pub part : IsPart limit bytes

-- a head came that says too much, and nothing behind it
pub record LongCame (limit : ℕ) (before behind : List ℕ) : Type 0 where
  pub head : Head before
  pub above : limit < head.size
  pub stays : behind ≡ head.behind

-- by what came: the input before and behind it, where so many bytes are taken by then
abbrev pub Nexts : ℕ → ℕ → ℕ → List ℕ → List ℕ → Next → Type 0
Nexts limit most taken before behind (Got kind body) = Came limit (record { kind = kind; body = body }) before behind
Nexts limit most taken before behind Whole = (before ≡ []) × (behind ≡ []) × (taken < most)
Nexts limit most taken before behind Cut = IsCut limit before × (behind ≡ []) × (taken < most)
Nexts limit most taken before behind Long = LongCame limit before behind
Nexts limit most taken before behind Spent = PartCame limit before behind × (most ≤ taken)
Nexts limit most taken before behind ReadFault = PartCame limit before behind
Nexts limit most taken before behind NoMemory = PartCame limit before behind

-- of so many bytes some came, and not all
pub record Fewer (size : ℕ) (old new : Stream) : Type 0 where
  pub bytes : List ℕ
  pub took : Took bytes old new
  pub fewer : length bytes < size

-- the same for a body of so many bytes, behind a head of this kind
abbrev pub Bodies : ℕ → ℕ → ℕ → ℕ → Stream → Stream → Next → Type 0
Bodies most kind size taken old new (Got got body) = (got ≡ kind) × (length body ≡ size) × Took body old new
Bodies most kind size taken old new Whole = ⊥
Bodies most kind size taken old new Cut = Fewer size old new × (new.rest ≡ []) × (taken < most)
Bodies most kind size taken old new Long = ⊥
Bodies most kind size taken old new Spent = Fewer size old new × (most ≤ taken)
Bodies most kind size taken old new ReadFault = Fewer size old new
Bodies most kind size taken old new NoMemory = Fewer size old new

-- a read failed
abbrev pub IsReadFault : Next → Type 0
IsReadFault (Got kind body) = ⊥
IsReadFault Whole = ⊥
IsReadFault Cut = ⊥
IsReadFault Long = ⊥
IsReadFault Spent = ⊥
IsReadFault ReadFault = Unit {0}
IsReadFault NoMemory = ⊥

-- a frame, and a head, has five bytes at least
abbrev pub Grows : ℕ → ℕ → Next → Type 0
Grows old new (Got kind body) = old + 5 ≤ new
Grows old new Whole = Unit {0}
Grows old new Cut = Unit {0}
Grows old new Long = old + 5 ≤ new
Grows old new Spent = Unit {0}
Grows old new ReadFault = Unit {0}
Grows old new NoMemory = Unit {0}
