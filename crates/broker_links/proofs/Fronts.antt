-- A write that fails has written a front of its bytes.
use Rattle.std.proofs.Common.{◌≡◌, ◌/◌, ◌∙◌, ℕ, Bool, false, List, [], length, take, drop, sym, ap, refl, inl, inr, take-append-drop}
use Rattle.std.proofs.lemmas.List.{append-nil}
use Rattle.outside_core.specs.Stream.{Stream, Begins, sends_on}
use Rattle.broker_links.specs.Traffic.{Traffic, Writes, stream_of}

half_begins : (bytes : List ℕ) → Begins (take (length bytes / 2) bytes) bytes
half_begins bytes = (drop (length bytes / 2) bytes, sym (take-append-drop (length bytes / 2) bytes))

-- nothing more is sent
sends_nothing : (t : Traffic) → stream_of t ≡ sends_on [] (stream_of t)
sends_nothing t = ap (λ (s : List ℕ). let it : Stream = record { taken = t.taken; rest = drop t.taken t.input; sent = s } in it) (sym (append-nil t.sent))

-- what the bytes' stream has more behind a write that fails
pub front_at : {works result : Bool} {bytes : List ℕ} {old new : Traffic} {stream : Stream} → Writes works bytes result old new → result ≡ false → stream ≡ stream_of old → (front : List ℕ) × Begins front bytes × (stream_of new ≡ sends_on front stream)
front_at {works} {result} {bytes} {old} {new} {stream} writes failed is = elim (writes.err failed) [
  | inl same ↦ ([], (bytes, refl), ap stream_of same ∙ sends_nothing old ∙ ap (sends_on []) (sym is))
  | inr half ↦ (take (length bytes / 2) bytes, half_begins bytes, ap stream_of half ∙ ap (sends_on (take (length bytes / 2) bytes)) (sym is))
]
