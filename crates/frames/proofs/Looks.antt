-- One look for a frame.
use Rattle.std.proofs.Common.{◌≡◌, ◌^◌, ◌≤◌, ◌<◌, ℕ, List, [], ◌∷◌, ◌++◌, length, get_or, refl, sym, ◌∙◌, ap, subst, inr, arith, length-append, append_assoc}
use Rattle.std.proofs.lemmas.List.{append-nil, take_all}
use Rattle.std.specs.Int.{to_be_bytes, w32}
use Rattle.std.proofs.Common.{take}
use Rattle.frames.specs.Frames.{four_bytes}
use Rattle.frames.specs.Reading.{IsCut}
use Rattle.outside_core.specs.Stream.{Stream, Took}
use Rattle.frames.specs.Nexts.{Came, PartCame, LongCame, Fewer, Bodies, Nexts}
use Rattle.frames.specs.declared.next.Next.{Next}
use Rattle.frames.specs.declared.next.Next.TheVariants.{Got, Whole, Long, Cut, Spent, ReadFault, NoMemory}
use Rattle.frames.proofs.Public.Pieces.{took_both}

-- five bytes, one by one
pub five : (l : List ℕ) → length l ≡ 5 → l ≡ get_or l 0 0 ∷ get_or l 1 0 ∷ get_or l 2 0 ∷ get_or l 3 0 ∷ get_or l 4 0 ∷ []
five [] is = absurd (omega arith)
five (a ∷ []) is = absurd (omega arith)
five (a ∷ b ∷ []) is = absurd (omega arith)
five (a ∷ b ∷ c ∷ []) is = absurd (omega arith)
five (a ∷ b ∷ c ∷ d ∷ []) is = absurd (omega arith)
five (a ∷ b ∷ c ∷ d ∷ e ∷ []) is = refl
five (a ∷ b ∷ c ∷ d ∷ e ∷ f ∷ l) is = absurd (omega arith)

pub took_all : {old new : Stream} (l : List ℕ) → Took (take (length l) l) old new → Took l old new
took_all {old} {new} l t = subst (λ (k : List ℕ). Took k old new) (take_all (length l) l (omega arith)) t

-- the length whose bytes are these
pub said : (n : ℕ) (bytes : List ℕ) → to_be_bytes w32 n ≡ bytes → four_bytes n ≡ bytes
unfolding four_bytes
said n bytes is = is

-- behind a head that is whole and says this length
module _ (limit most size : ℕ) (head : List ℕ) (old mid : Stream) (size_fits : size < 2 ^ 32) (five_long : length head ≡ 5) (spelt : four_bytes size ≡ get_or head 1 0 ∷ get_or head 2 0 ∷ get_or head 3 0 ∷ get_or head 4 0 ∷ [])
    (first : Took head old mid) where
  says : head ≡ get_or head 0 0 ∷ four_bytes size
  says = five head five_long ∙ ap (λ (l : List ℕ). get_or head 0 0 ∷ l) (sym spelt)

  whole_head : old.rest ≡ (get_or head 0 0 ∷ four_bytes size) ++ mid.rest
  whole_head = first.front ∙ ap (λ (l : List ℕ). l ++ mid.rest) says

  pub long_came : limit < size → LongCame limit old.rest mid.rest
  long_came above = record {
    head = record { kind = get_or head 0 0; size = size; behind = mid.rest; spelled = whole_head; size_fits = size_fits };
    above = above;
    stays = refl;
  }

  came : (body : List ℕ) (new : Stream) → length body ≡ size → size ≤ limit → Took body mid new → Came limit (record { kind = get_or head 0 0; body = body }) old.rest new.rest
  came body new long within second = record {
    within = omega (arith, long, within);
    front = whole_head ∙ ap (λ (n : ℕ). (get_or head 0 0 ∷ four_bytes n) ++ mid.rest) (sym long) ∙ ap (λ (l : List ℕ). (get_or head 0 0 ∷ four_bytes (length body)) ++ l) second.front
        ∙ sym (append_assoc (get_or head 0 0 ∷ four_bytes (length body)) body new.rest);
  }

  cut : (bytes : List ℕ) → length bytes < size → size ≤ limit → IsCut limit (head ++ bytes)
  cut bytes fewer within = (
    omega (arith, length-append head bytes, ap length says),
    inr (record { kind = get_or head 0 0; size = size; behind = bytes; spelled = ap (λ (l : List ℕ). l ++ bytes) says; size_fits = size_fits }, within, fewer),
  )

  part_came : (new : Stream) → size ≤ limit → Fewer size mid new → PartCame limit old.rest new.rest
  part_came new within part = record { bytes = head ++ part.bytes; front = (took_both first part.took).front; part = inr (cut part.bytes part.fewer within) }

  all_cut : (new : Stream) → size ≤ limit → Fewer size mid new → new.rest ≡ [] → IsCut limit old.rest
  all_cut new within part ended =
      subst (λ (l : List ℕ). IsCut limit l) (sym ((took_both first part.took).front ∙ ap (λ (l : List ℕ). (head ++ part.bytes) ++ l) ended ∙ append-nil (head ++ part.bytes))) (cut part.bytes part.fewer within)

  pub behind_head : (taken : ℕ) (new : Stream) (next : Next) → size ≤ limit → Bodies most (get_or head 0 0) size taken mid new next → Nexts limit most taken old.rest new.rest next
  behind_head taken new (Got kind body) within is = rw is.0 (came body new is.1 within is.2)
  behind_head taken new Whole within is = absurd is
  behind_head taken new Long within is = absurd is
  behind_head taken new Cut within is = (all_cut new within is.0 is.1, is.1, is.2)
  behind_head taken new Spent within is = (part_came new within is.0, is.1)
  behind_head taken new ReadFault within is = part_came new within is
  behind_head taken new NoMemory within is = part_came new within is
