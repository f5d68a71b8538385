-- The lines of a message, one behind the other.
use Rattle.std.proofs.Common.{◌≡◌, ℕ, List, [], ◌∷◌, ◌++◌, ◌≤◌, length, refl, sym, ap, ◌∙◌, arith, append_assoc, append-nil, Result, Ok, Err, OnOk}
use Rattle.std.specs.List.{flat_map}
use Rattle.outside_core.specs.Stream.{Stream, Sends, sends_on}
use Rattle.http_wire.specs.Writing.{line_bytes, field_line, media_lines, Wrote}
use Rattle.std.specs.Prelude.{codes}
use Rattle.http_wire.specs.declared.write.SendWire.TheVariants.{LinkFault}

-- what is so at Ok is widened
pub on_ok : {A E : Type 0} {P Q : Type 0} → (P → Q) → (r : Result A E) → OnOk r P → OnOk r Q
on_ok f (Ok a) p = f p
on_ok f (Err e) p = p

flat_map-append : (xs ys : List (List ℕ)) → flat_map line_bytes (xs ++ ys) ≡ flat_map line_bytes xs ++ flat_map line_bytes ys
flat_map-append [] ys = refl
flat_map-append (x ∷ xs) ys = ap (λ (l : List ℕ). line_bytes x ++ l) (flat_map-append xs ys) ∙ sym (append_assoc (line_bytes x) (flat_map line_bytes xs) (flat_map line_bytes ys))

-- one line, and two
pub one_line : (old a : List ℕ) → old ++ line_bytes a ≡ old ++ flat_map line_bytes (a ∷ [])
one_line old a = ap (λ (l : List ℕ). old ++ l) (sym (append-nil (line_bytes a)))

pub two_lines : (old a b : List ℕ) → old ++ line_bytes a ++ line_bytes b ≡ old ++ flat_map line_bytes (a ∷ b ∷ [])
two_lines old a b = append_assoc old (line_bytes a) (line_bytes b) ∙ ap (λ (l : List ℕ). old ++ (line_bytes a ++ l)) (sym (append-nil (line_bytes b)))

pub more_lines : (old : List ℕ) (xs ys : List (List ℕ)) → old ++ flat_map line_bytes xs ++ flat_map line_bytes ys ≡ old ++ flat_map line_bytes (xs ++ ys)
more_lines old xs ys = append_assoc old (flat_map line_bytes xs) (flat_map line_bytes ys) ∙ ap (λ (l : List ℕ). old ++ l) (sym (flat_map-append xs ys))

-- two lines, a third, more, and a last
pub post_lines : (old a b c d new1 new2 new3 new4 : List ℕ) (more : List (List ℕ))
    → new1 ≡ old ++ line_bytes a ++ line_bytes b → new2 ≡ new1 ++ line_bytes c → new3 ≡ new2 ++ flat_map line_bytes more → new4 ≡ new3 ++ line_bytes d
    → new4 ≡ old ++ flat_map line_bytes ((a ∷ b ∷ c ∷ []) ++ more ++ (d ∷ []))
post_lines old a b c d new1 new2 new3 new4 more e1 e2 e3 e4 =
    let two = e1 ∙ two_lines old a b in
    let three : new2 ≡ old ++ flat_map line_bytes (a ∷ b ∷ c ∷ []) =
    e2 ∙ ap (λ (l : List ℕ). l ++ line_bytes c) two ∙ one_line (old ++ flat_map line_bytes (a ∷ b ∷ [])) c ∙ more_lines old (a ∷ b ∷ []) (c ∷ []) in
    let rest : new3 ≡ old ++ flat_map line_bytes ((a ∷ b ∷ c ∷ []) ++ more) =
    e3 ∙ ap (λ (l : List ℕ). l ++ flat_map line_bytes more) three ∙ more_lines old (a ∷ b ∷ c ∷ []) more in
    e4 ∙ ap (λ (l : List ℕ). l ++ line_bytes d) rest ∙ one_line (old ++ flat_map line_bytes ((a ∷ b ∷ c ∷ []) ++ more)) d ∙ more_lines old ((a ∷ b ∷ c ∷ []) ++ more) (d ∷ [])

-- a line, more, and more
pub response_lines : (old a new1 new2 new3 : List ℕ) (more rest : List (List ℕ))
    → new1 ≡ old ++ line_bytes a → new2 ≡ new1 ++ flat_map line_bytes more → new3 ≡ new2 ++ flat_map line_bytes rest
    → new3 ≡ old ++ flat_map line_bytes ((a ∷ []) ++ more ++ rest)
response_lines old a new1 new2 new3 more rest e1 e2 e3 =
    let first : new1 ≡ old ++ flat_map line_bytes (a ∷ []) = e1 ∙ one_line old a in
    let second : new2 ≡ old ++ flat_map line_bytes ((a ∷ []) ++ more) = e2 ∙ ap (λ (l : List ℕ). l ++ flat_map line_bytes more) first ∙ more_lines old (a ∷ []) more in
    e3 ∙ ap (λ (l : List ℕ). l ++ flat_map line_bytes rest) second ∙ more_lines old ((a ∷ []) ++ more) rest

-- a front of the head is a front of the head and the body
pub wrote_front : {E : Type 0} (head body : List ℕ) (old new : Stream) (e : E) → Sends {T = Unit {0}} head (Err e) old new → Wrote (head ++ body) old new (Err LinkFault)
wrote_front head body old new e s = (s.0, (s.1.0 ++ body, ap (λ (l : List ℕ). l ++ body) s.1.1 ∙ append_assoc s.0 s.1.0 body), s.2)

sent_both : (head more : List ℕ) (old mid new : Stream) → mid ≡ sends_on head old → new ≡ sends_on more mid → new ≡ sends_on (head ++ more) old
sent_both head more old mid new first second =
    second ∙ ap (λ (s : Stream). sends_on more s) first
    ∙ ap (λ (l : List ℕ). let s : Stream = record old { sent = l } in s) (append_assoc old.sent head more)

-- the head, and then the body or a front of it
pub wrote_both : (head body : List ℕ) (old mid new : Stream) → mid ≡ sends_on head old → new ≡ sends_on body mid → Wrote (head ++ body) old new (Ok tt)
wrote_both head body old mid new first second = sent_both head body old mid new first second

pub wrote_more : {E : Type 0} (head body : List ℕ) (old mid new : Stream) (e : E) → mid ≡ sends_on head old → Sends {T = Unit {0}} body (Err e) mid new → Wrote (head ++ body) old new (Err LinkFault)
wrote_more head body old mid new e first s = (
  head ++ s.0,
  (s.1.0, ap (λ (l : List ℕ). head ++ l) s.1.1 ∙ sym (append_assoc head s.0 s.1.0)),
  sent_both head s.0 old mid new first s.2,
)

-- nothing was sent
pub sent_none : (old : Stream) → old ≡ sends_on [] old
sent_none old = ap (λ (l : List ℕ). let s : Stream = record old { sent = l } in s) (sym (append-nil old.sent))

-- five pieces
pub five_pieces : (old a b c d e new1 new2 new3 new4 new5 : List ℕ)
    → new1 ≡ old ++ a → new2 ≡ new1 ++ b → new3 ≡ new2 ++ c → new4 ≡ new3 ++ d → new5 ≡ new4 ++ e
    → new5 ≡ old ++ (a ++ b ++ c ++ d ++ e)
five_pieces old a b c d e new1 new2 new3 new4 new5 e1 e2 e3 e4 e5 =
    e5 ∙ ap (λ (l : List ℕ). l ++ e) (e4 ∙ ap (λ (l : List ℕ). l ++ d) (e3 ∙ ap (λ (l : List ℕ). l ++ c) (e2 ∙ ap (λ (l : List ℕ). l ++ b) e1)))
    ∙ regroup old a b c d e
  where
    regroup : (o a b c d e : List ℕ) → o ++ a ++ b ++ c ++ d ++ e ≡ o ++ (a ++ b ++ c ++ d ++ e)
    regroup o a b c d e = simp append_assoc

-- a body that is there has a line on its media type
pub media_line : (old media body : List ℕ) → 1 ≤ length body → old ++ line_bytes (field_line (codes "Content-Type") media) ≡ old ++ flat_map line_bytes (media_lines media body)
media_line old media [] some = absurd (omega (arith, some))
media_line old media (byte ∷ more) some = one_line old (field_line (codes "Content-Type") media)
