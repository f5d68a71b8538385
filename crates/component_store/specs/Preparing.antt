-- What a commit needs before it begins, and that it was made for the store as it stands.
use Rattle.std.specs.Prelude.{◌≡◌, ◌+◌, ◌≤◌, ℕ, List, [], ◌∷◌, ◌++◌, length, vec_len, vec_capacity, Option, Some, None}
use Rattle.journal_core.specs.Frames.{frames}
use Rattle.journal_core.specs.Kept.{Kept}
use Rattle.commit_records.specs.Changes.{ChangeIs, IsProperChange}
use Rattle.device_state.specs.declared.change.Change.{Change}
use Rattle.device_state.specs.declared.rows.ManifestRow.{ManifestRow}
use Rattle.device_state.specs.declared.heads.RowHead.{RowHead}
use Rattle.device_state.specs.State.{State, changed, put_rows, rows_weight}
use Rattle.device_state.specs.Heads.{heads}
use Rattle.device_state.specs.Valid.{IsSound, IsValid}
use Rattle.device_image.specs.declared.held.Held.{Held}
use Rattle.device_image.specs.Held.{state_of, head_of}
use Rattle.device_image.specs.Stands.{Leads}
use Rattle.component_store.specs.declared.prepared.Framing.{Framing}
use Rattle.component_store.specs.declared.prepared.Framing.TheVariants.{Append, Replace}
use Rattle.component_store.specs.declared.prepared.Prepared.{Prepared}
use Rattle.component_store.specs.Keeping.{Log}

-- A change that may be prepared: it is one that can be written, a device may be in the state that it makes but for the
-- weight, and its leaf is not below that of the present.
pub record MayFollow (change : Change) (s : State) : Type 0 where
  pub proper : IsProperChange change
  pub sound : IsSound (changed change s)
  pub leaf : s.leaf ≤ change.leaf

-- the bodies that are framed
abbrev pub framed_in : Framing → List (List ℕ)
framed_in (Append bodies) = bodies
framed_in (Replace bodies) = bodies

-- how many bytes they take with their gates and lengths
abbrev pub size_of : Framing → ℕ
size_of framing = length (frames (framed_in framing))

-- the bodies of the journal behind the commit
abbrev pub list_behind : Framing → List (List ℕ) → List (List ℕ)
list_behind (Append bodies) old = old ++ bodies
list_behind (Replace bodies) old = bodies

-- so many bytes of the half are taken where the bodies begin
abbrev pub used_before : Framing → Kept → ℕ
used_before (Append bodies) journal = journal.used
used_before (Replace bodies) journal = 0

-- one body is appended
abbrev pub IsOneBody : Framing → Type 0
IsOneBody (Append bodies) = length bodies ≡ 1
IsOneBody (Replace bodies) = Unit {0}

-- the bodies and a closed gate behind them fit into the half, and there are places for them
pub record HasRoomFor (journal : Kept) (framing : Framing) : Type 0 where
  pub fits : used_before framing journal + size_of framing + 1 ≤ journal.region.half
  pub places : length (framed_in framing) ≤ journal.spare
  pub one : IsOneBody framing

-- one body that is the change, or bodies that lead from the head to the changed state
abbrev pub IsFramed : Held → Change → Framing → Type 0
IsFramed held change (Append bodies) = (body : List ℕ) × (bodies ≡ body ∷ []) × ChangeIs change body
IsFramed held change (Replace bodies) = Leads (head_of held) bodies (changed change (state_of held))

-- the bodies say the change, and the journal has room for them
pub record FramedFor (held : Held) (change : Change) (framing : Framing) : Type 0 where
  pub framed : IsFramed held change framing
  pub room : HasRoomFor held.journal framing

-- the heads of the rows behind a change; where it has no rows, they may be left out
abbrev pub HeadsFor : List ManifestRow → List ManifestRow → Option (List RowHead) → Type 0
HeadsFor rows more (Some row_heads) = row_heads ≡ heads (put_rows more rows)
HeadsFor rows more None = more ≡ []

-- these heads, or else the ones so far
abbrev pub renewed : List RowHead → Option (List RowHead) → List RowHead
renewed old (Some behind) = behind
renewed old None = old

-- the change was prepared for this store as it stands
pub record IsReady (log : Log) (p : Prepared) : Type 0 where
  pub valid : IsValid (changed p.change (state_of log.held))
  pub leaf : log.held.leaf ≤ p.change.leaf
  pub rows_fit : vec_len log.held.rows + length p.change.rows ≤ vec_capacity log.held.rows
  pub heads_are : HeadsFor log.held.rows.items p.change.rows p.heads
  pub weight_is : p.weight ≡ rows_weight (put_rows p.change.rows log.held.rows.items)
  pub framed : FramedFor log.held p.change p.framing
