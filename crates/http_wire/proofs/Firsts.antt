-- What an input begins with: a head and what is judged of it, bytes in which no head ends, or less than a head. It begins with one of them, and what follows from it is one answer.
use Rattle.std.proofs.Common.{◌≡◌, ◌+◌, ℕ, zero, suc, List, [], ◌∷◌, ◌++◌, length, drop, refl, sym, ap, ◌∙◌, subst, inl, inr, ◌⊎◌, arith, append_assoc, append-nil, length-append}
use Rattle.std.proofs.lemmas.Bool.Decides.{Decides-eqb}
use Rattle.std.proofs.lemmas.List.{append_cancel_left, length_push}
use Rattle.std.proofs.lemmas.Slice.Eq.{ends_is}
use Rattle.std.specs.Prelude.{nat_eq, ◌-◌, Bool, true, false}
use Rattle.std.specs.Cmp.Lexicographic.{pointwise}
use Rattle.outside_core.specs.Stream.{Stream, Took}
use Rattle.http_wire.specs.Ends.{Ends, EndsInEmptyLine, HasNoEnd}
use Rattle.http_wire.specs.Parts.{IsHead, IsHeadless, IsPartHead}
use Rattle.http_wire.proofs.Heads.{none_ends, no_end_more, head_ends}
use Rattle.http_wire.proofs.Fronts.{heads_same, not_headless, not_part, behind_same, one_stream}

-- how an input begins
pub data First (V : Type 0) (J : List ℕ → V → Type 0) (input : List ℕ) : Type 0 where
  headed : (v : V) (head behind : List ℕ) → IsHead head → J head v → head ++ behind ≡ input → First V J input
  headless : (bytes behind : List ℕ) → IsHeadless bytes → bytes ++ behind ≡ input → First V J input
  part : IsPartHead input → First V J input

-- what follows from it, by what is judged of a head
abbrev pub outcome_of : {V O : Type 0} {J : List ℕ → V → Type 0} {input : List ℕ} → (V → List ℕ → O) → (List ℕ → O) → O → First V J input → O
outcome_of act none cut (headed v head behind is j e) = act v behind
outcome_of act none cut (headless bytes behind is e) = none behind
outcome_of act none cut (part is) = cut

-- one thing is judged of a head
abbrev pub JudgesOnce : (V : Type 0) → (List ℕ → V → Type 0) → Type 0
JudgesOnce V J = (head : List ℕ) (v u : V) → J head v → J head u → v ≡ u

one_outcome : {V O : Type 0} {J : List ℕ → V → Type 0} {input : List ℕ} (act : V → List ℕ → O) (none : List ℕ → O) (cut : O) → JudgesOnce V J
    → (f g : First V J input) → outcome_of act none cut f ≡ outcome_of act none cut g
one_outcome {J} act none cut once (headed v head behind is j e) (headed u other rest it k e') =
    let same = heads_same head behind other rest is.ends it.ends (e ∙ sym e') in
    let left : behind ≡ rest = append_cancel_left other behind rest (ap (λ (l : List ℕ). l ++ behind) (sym same) ∙ e ∙ sym e') in
    λ i. act (once other v u (subst (λ (l : List ℕ). J l v) same j) k i) (left i)
one_outcome act none cut once (headed v head behind is j e) (headless bytes rest it e') = absurd (not_headless head behind bytes rest is it (e ∙ sym e'))
one_outcome act none cut once (headed v head behind is j e) (part it) = absurd (not_part head behind _ is it.endless e)
one_outcome act none cut once (headless bytes rest it e') (headed v head behind is j e) = absurd (not_headless head behind bytes rest is it (e ∙ sym e'))
one_outcome act none cut once (headless bytes behind is e) (headless other rest it e') =
    ap none (behind_same bytes behind other rest (omega (arith, is.size, it.size)) (e ∙ sym e'))
one_outcome act none cut once (headless bytes behind is e) (part it) = absurd (omega (arith, is.size, it.size, ap length e, length-append bytes behind))
one_outcome act none cut once (part it) (headed v head behind is j e) = absurd (not_part head behind _ is it.endless e)
one_outcome act none cut once (part it) (headless bytes behind is e) = absurd (omega (arith, is.size, it.size, ap length e, length-append bytes behind))
one_outcome act none cut once (part it) (part is) = refl

-- what came off an input, by how it begins
pub record Came (V R : Type 0) (J : List ℕ → V → Type 0) (act : V → List ℕ → R × List ℕ) (none cut : R) (old new : Stream) (result : R) : Type 0 where
  pub first : First V J old.rest
  pub is : outcome_of act (λ (behind : List ℕ). (none, behind)) (cut, []) first ≡ (result, new.rest)
  pub bytes : List ℕ
  pub took : Took bytes old new

-- it is one answer, and leaves one rest
pub one_answer : {V R : Type 0} (J : List ℕ → V → Type 0) (act : V → List ℕ → R × List ℕ) (none cut : R) → JudgesOnce V J
    → {old new other : Stream} {a b : R} → Came V R J act none cut old new a → Came V R J act none cut old other b → (a ≡ b) × (new ≡ other)
one_answer J act none cut once {old} {new} {other} {a} {b} f g =
    let same : (a, new.rest) ≡ (b, other.rest) = sym f.is ∙ one_outcome act (λ (behind : List ℕ). (none, behind)) (cut, []) once f.first g.first ∙ g.is in
    ((λ i. (same i).0), one_stream f.took g.took (λ i. (same i).1))

-- ---- each input begins with one of them

ends_or_not : (bytes end : List ℕ) → Ends bytes end ⊎ ¬ (Ends bytes end)
ends_or_not bytes end = by (pointwise nat_eq end (drop (length bytes - length end) bytes)) refl
  where
    by : (b : Bool) → b ≡ pointwise nat_eq end (drop (length bytes - length end) bytes) → Ends bytes end ⊎ ¬ (Ends bytes end)
    by true e = inl (_, (ends_is Decides-eqb bytes end true e).0 refl)
    by false e = inr (λ x. let no : false ≡ true = (ends_is Decides-eqb bytes end false e).1 x.0 x.1 in cc)

empty_line_or_not : (bytes : List ℕ) → EndsInEmptyLine bytes ⊎ ¬ (EndsInEmptyLine bytes)
empty_line_or_not bytes = elim (ends_or_not bytes (10 ∷ 10 ∷ [])) as (λ _. EndsInEmptyLine bytes ⊎ ¬ (EndsInEmptyLine bytes)) [
  | inl x ↦ inl (inl x)
  | inr n ↦ elim (ends_or_not bytes (10 ∷ 13 ∷ 10 ∷ [])) as (λ _. EndsInEmptyLine bytes ⊎ ¬ (EndsInEmptyLine bytes)) [
    | inl y ↦ inl (inr y)
    | inr m ↦ inr (λ e. elim e [ inl x ↦ n x | inr y ↦ m y ])
  ]
]

-- something is judged of each head
abbrev pub JudgesEach : (V : Type 0) → (List ℕ → V → Type 0) → Type 0
JudgesEach V J = (head : List ℕ) → (v : V) × J head v

-- from bytes in which no head ends on, with so many still to be looked at
first_from : {V : Type 0} (J : List ℕ → V → Type 0) → JudgesEach V J → (n : ℕ) (bytes rest : List ℕ) → length bytes + n ≡ 8192 → HasNoEnd bytes → First V J (bytes ++ rest)
first_from J each zero bytes rest size endless = headless bytes rest (record { size = omega (arith, size); endless = endless }) refl
first_from {V} J each (suc n) bytes [] size endless =
    subst (First V J) (sym (append-nil bytes)) (part (record { size = omega (arith, size); endless = endless }))
first_from {V} J each (suc n) bytes (b ∷ rest) size endless =
    let grown = bytes ++ b ∷ [] in
    let whole : grown ++ rest ≡ bytes ++ b ∷ rest = append_assoc bytes (b ∷ []) rest in
    let long : length grown ≡ length bytes + 1 = length_push bytes b in
    subst (First V J) whole (elim (empty_line_or_not grown) as (λ _. First V J (grown ++ rest)) [
      | inl ends ↦
          let judged = each grown in
          headed judged.0 grown rest (record { ends = head_ends bytes b endless ends; within = omega (arith, size, long) }) judged.1 refl
      | inr going ↦ first_from J each n grown rest (omega (arith, size, long)) (no_end_more bytes b endless going)
    ])

pub first_of : {V : Type 0} (J : List ℕ → V → Type 0) → JudgesEach V J → (input : List ℕ) → First V J input
first_of J each input = first_from J each 8192 [] input refl none_ends

-- the stream behind a front of the input
abbrev pub behind : (bytes rest : List ℕ) → Stream → Stream
behind bytes rest old = record { taken = old.taken + length bytes; rest = rest; sent = old.sent }

pub takes : (bytes rest : List ℕ) (old : Stream) → bytes ++ rest ≡ old.rest → Took bytes old (behind bytes rest old)
takes bytes rest old e = record { front = sym e; taken = refl; sent = refl }
