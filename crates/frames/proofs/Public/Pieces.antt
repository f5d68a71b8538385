-- Bytes that come off an input piece by piece.
use Rattle.std.proofs.Common.{◌≡◌, ◌+◌, ◌++◌, ℕ, List, [], length, refl, sym, ◌∙◌, ap, arith, length-append, append_assoc}
use Rattle.outside_core.specs.Stream.{Stream, Took}
use Rattle.frames.specs.Filling.{TookSome}

pub took_none : (c : Stream) → Took [] c c
took_none c = record { front = refl; taken = omega arith; sent = refl }

pub took_both : {a b : List ℕ} {old mid new : Stream} → Took a old mid → Took b mid new → Took (a ++ b) old new
took_both {a} {b} {old} {mid} {new} first second = record {
  front = first.front ∙ ap (λ (l : List ℕ). a ++ l) second.front ∙ sym (append_assoc a b new.rest);
  taken = omega (arith, first.taken, second.taken, length-append a b);
  sent = second.sent ∙ first.sent;
}

pub took_some : {a : List ℕ} {old new : Stream} (before behind : ℕ) → Took a old new → behind ≡ before + length a → TookSome before behind old new
took_some {a} before behind t is = record { bytes = a; took = t; counted = is }

pub took_more : {old mid new : Stream} (before between behind : ℕ) → TookSome before between old mid → TookSome between behind mid new → TookSome before behind old new
took_more before between behind first second = record {
  bytes = first.bytes ++ second.bytes;
  took = took_both first.took second.took;
  counted = omega (arith, first.counted, second.counted, length-append first.bytes second.bytes);
}
