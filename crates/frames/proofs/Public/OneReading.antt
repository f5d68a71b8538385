-- An input has one list of frames and one end.
use Rattle.std.proofs.Common.{◌≡◌, ◌⊎◌, ◌^◌, ◌≤◌, ◌<◌, ℕ, zero, suc, take, drop, length-drop, List, [], ◌∷◌, ◌++◌, length, refl, sym, ◌∙◌, ap, subst, inl, inr, arith, length-append, append_assoc}
use Rattle.std.proofs.lemmas.List.Elements.{recursion_from_All, All-from_recursion}
use Rattle.std.proofs.lemmas.Bool.{cases_lt}
use Rattle.std.proofs.lemmas.List.{take-append-drop, length-take-le}
use Rattle.std.proofs.lemmas.Nat.{be_bytes_4, from_be_bytes-to_be_bytes_4}
use Rattle.base_types.specs.Bytes.{IsBytes}
use Rattle.base_types.proofs.Public.Bytes.{IsBytes-drop, IsBytes-take, IsBytes-rest}
use Rattle.std.specs.Int.{from_be_bytes, w32}
use Rattle.std.specs.List.{flat_map, AllByRecursion}
use Rattle.frames.specs.Frames.{Frame, frame_bytes, four_bytes}
use Rattle.frames.specs.Reading.{IsFrame, Head, IsLong, IsCut, IsPart, End, EndsAs, Events, OneReading}
use Rattle.frames.specs.Reading.End.{Whole, Long, Cut, Spent}
use Rattle.frames.proofs.Public.Sizes.{length-four_bytes}

four_bytes_cancel : (m n : ℕ) → m < 2 ^ 32 → n < 2 ^ 32 → four_bytes m ≡ four_bytes n → m ≡ n
unfolding four_bytes
four_bytes_cancel m n m_fits n_fits same = sym (from_be_bytes-to_be_bytes_4 m m_fits) ∙ ap (λ (l : List ℕ). from_be_bytes w32 l) same ∙ from_be_bytes-to_be_bytes_4 n n_fits

-- fronts of one length are one front
same_front : (xs ys more rest : List ℕ) → length xs ≡ length ys → xs ++ more ≡ ys ++ rest → (xs ≡ ys) × (more ≡ rest)
same_front [] [] more rest long same = (refl, same)
same_front [] (y ∷ ys) more rest long same = absurd (omega arith)
same_front (x ∷ xs) [] more rest long same = absurd (omega arith)
same_front (x ∷ xs) (y ∷ ys) more rest long same =
    let first : x ≡ y = cc same in
    let tails : xs ++ more ≡ ys ++ rest = cc same in
    let fewer : length xs ≡ length ys = omega arith in
    let both = same_front xs ys more rest fewer tails in
    (let front : xs ≡ ys = both.0 in cc, both.1)

-- what stands behind a head
behind_five : (kind size : ℕ) (behind : List ℕ) → drop 5 ((kind ∷ four_bytes size) ++ behind) ≡ behind
unfolding four_bytes
behind_five kind size behind = refl

none_of : (bytes : List ℕ) → length bytes ≤ 0 → bytes ≡ []
none_of [] none = refl
none_of (b ∷ bytes) none = absurd (omega arith)

-- four bytes are those of their number
spelled_by : (bytes : List ℕ) → length bytes ≡ 4 → IsBytes bytes → four_bytes (from_be_bytes w32 bytes) ≡ bytes
unfolding four_bytes
spelled_by bytes long are = be_bytes_4 bytes _ long are refl

-- five bytes begin with a head
head_of : (bytes : List ℕ) → 5 ≤ length bytes → IsBytes bytes → Head bytes
head_of [] five are = absurd (omega arith)
head_of (kind ∷ more) five are =
    let long : length (take 4 more) ≡ 4 = length-take-le 4 more (omega arith) in
    let fits : IsBytes (take 4 more) = IsBytes-take 4 more (IsBytes-rest kind more are) in
    record {
      kind = kind;
      size = from_be_bytes w32 (take 4 more);
      behind = drop 4 more;
      spelled = ap (λ (l : List ℕ). kind ∷ l) (sym (take-append-drop 4 more)) ∙ ap (λ (l : List ℕ). kind ∷ l ++ drop 4 more) (sym (spelled_by (take 4 more) long fits));
      size_fits = omega (arith, fits 0, fits 1, fits 2, fits 3);
    }

pub record SameHead (kind size : ℕ) (behind : List ℕ) (kind2 size2 : ℕ) (behind2 : List ℕ) : Type 0 where
  pub kinds : kind ≡ kind2
  pub sizes : size ≡ size2
  pub rests : behind ≡ behind2

same_head : (kind size : ℕ) (behind : List ℕ) (kind2 size2 : ℕ) (behind2 : List ℕ) → size < 2 ^ 32 → size2 < 2 ^ 32
    → (kind ∷ four_bytes size) ++ behind ≡ (kind2 ∷ four_bytes size2) ++ behind2 → SameHead kind size behind kind2 size2 behind2
same_head kind size behind kind2 size2 behind2 fits fits2 same =
    let tails : four_bytes size ++ behind ≡ four_bytes size2 ++ behind2 = cc same in
    let both = same_front (four_bytes size) (four_bytes size2) behind behind2 (length-four_bytes size ∙ sym (length-four_bytes size2)) tails in
    record { kinds = cc same; sizes = four_bytes_cancel size size2 fits fits2 both.0; rests = both.1 }

-- a frame in front of more, with its head apart
head_apart : (f : Frame) (more : List ℕ) → frame_bytes f ++ more ≡ (f.kind ∷ four_bytes (length f.body)) ++ (f.body ++ more)
head_apart f more = append_assoc (f.kind ∷ four_bytes (length f.body)) f.body more

frame_is : (kind kind2 : ℕ) (body body2 : List ℕ) → kind ≡ kind2 → body ≡ body2 → (let one : Frame = record { kind = kind; body = body } in one) ≡ record { kind = kind2; body = body2 }
frame_is kind kind2 body body2 kinds bodies = cc

module _ (limit : ℕ) (limit_fits : limit < 2 ^ 32) where
  same_frame : (f g : Frame) (more rest : List ℕ) → IsFrame limit f → IsFrame limit g → frame_bytes f ++ more ≡ frame_bytes g ++ rest → (f ≡ g) × (more ≡ rest)
  same_frame f g more rest within within2 same =
      let heads = same_head f.kind (length f.body) (f.body ++ more) g.kind (length g.body) (g.body ++ rest) (omega arith) (omega arith) (sym (head_apart f more) ∙ same ∙ head_apart g rest) in
      let both = same_front f.body g.body more rest heads.sizes heads.rests in
      (frame_is f.kind g.kind f.body g.body heads.kinds both.0, both.1)

  -- the bytes begin with no frame
  abbrev NoFrame : List ℕ → Type 0
  NoFrame bytes = (f : Frame) (more : List ℕ) → IsFrame limit f → bytes ≡ frame_bytes f ++ more → ⊥

  same_frames : (frames others : List Frame) (rest end : List ℕ) → AllByRecursion (IsFrame limit) frames → AllByRecursion (IsFrame limit) others → NoFrame rest → NoFrame end
      → flat_map frame_bytes frames ++ rest ≡ flat_map frame_bytes others ++ end → (frames ≡ others) × (rest ≡ end)
  same_frames [] [] rest end each each2 none none2 same = (refl, same)
  same_frames [] (g ∷ gs) rest end each each2 none none2 same = absurd (none g (flat_map frame_bytes gs ++ end) each2.0 (same ∙ append_assoc (frame_bytes g) (flat_map frame_bytes gs) end))
  same_frames (f ∷ fs) [] rest end each each2 none none2 same = absurd (none2 f (flat_map frame_bytes fs ++ rest) each.0 (sym same ∙ append_assoc (frame_bytes f) (flat_map frame_bytes fs) rest))
  same_frames (f ∷ fs) (g ∷ gs) rest end each each2 none none2 same =
      let first = same_frame f g (flat_map frame_bytes fs ++ rest) (flat_map frame_bytes gs ++ end) each.0 each2.0
      (sym (append_assoc (frame_bytes f) (flat_map frame_bytes fs) rest) ∙ same ∙ append_assoc (frame_bytes g) (flat_map frame_bytes gs) end) in
      let more = same_frames fs gs rest end each.1 each2.1 none none2 first.1 in
      (let one : f ≡ g = first.0 in let rest_same : fs ≡ gs = more.0 in cc, more.1)

  -- a head says one length
  one_size : (bytes : List ℕ) (head other : Head bytes) → SameHead head.kind head.size head.behind other.kind other.size other.behind
  one_size bytes head other = same_head head.kind head.size head.behind other.kind other.size other.behind head.size_fits other.size_fits (sym head.spelled ∙ other.spelled)

  abbrev frame_head : (bytes : List ℕ) (f : Frame) (more : List ℕ) → IsFrame limit f → bytes ≡ frame_bytes f ++ more → Head bytes
  frame_head bytes f more within is = record { kind = f.kind; size = length f.body; behind = f.body ++ more; spelled = is ∙ head_apart f more; size_fits = omega arith }

  five_bytes : (bytes : List ℕ) (head : Head bytes) → 5 ≤ length bytes
  five_bytes bytes head = omega (arith, ap length head.spelled, length-append (four_bytes head.size) head.behind, length-four_bytes head.size)

  cut_no_frame : (bytes : List ℕ) → IsCut limit bytes → NoFrame bytes
  cut_no_frame bytes (some, inl short) f more within is = let five = five_bytes bytes (frame_head bytes f more within is) in absurd (omega arith)
  cut_no_frame bytes (some, inr part) f more within is =
      let same = one_size bytes part.0 (frame_head bytes f more within is) in
      absurd (omega (arith, part.2, same.sizes, ap length same.rests, length-append f.body more))

  empty_no_frame : (bytes : List ℕ) → bytes ≡ [] → NoFrame bytes
  empty_no_frame bytes none f more within is = let five = five_bytes bytes (frame_head bytes f more within is) in absurd (omega (arith, ap length none))

  part_no_frame : (bytes : List ℕ) → IsPart limit bytes → NoFrame bytes
  part_no_frame bytes (inl none) = empty_no_frame bytes none
  part_no_frame bytes (inr cut) = cut_no_frame bytes cut

  long_no_frame : (bytes : List ℕ) → IsLong limit bytes → NoFrame bytes
  long_no_frame bytes (head, above) f more within is =
      let same = one_size bytes head (frame_head bytes f more within is) in absurd (omega (arith, same.sizes))

  long_no_part : (bytes : List ℕ) → IsLong limit bytes → IsPart limit bytes → ⊥
  long_no_part bytes (head, above) (inl none) = let five = five_bytes bytes head in omega (arith, ap length none)
  long_no_part bytes (head, above) (inr (some, inl short)) = let five = five_bytes bytes head in omega arith
  long_no_part bytes (head, above) (inr (some, inr part)) = let same = one_size bytes head part.0 in omega (arith, same.sizes, part.1)

  end_no_frame : (most total : ℕ) (rest : List ℕ) (end : End) → EndsAs limit most total rest end → NoFrame rest
  end_no_frame most total rest Whole is = empty_no_frame rest is.0
  end_no_frame most total rest Long is = long_no_frame rest is
  end_no_frame most total rest Cut is = cut_no_frame rest is.0
  end_no_frame most total rest Spent is = part_no_frame rest is.0

  one_end : (most total : ℕ) (rest : List ℕ) (end other : End) → EndsAs limit most total rest end → EndsAs limit most total rest other → end ≡ other
  one_end most total rest Whole Whole is too = refl
  one_end most total rest Whole Long is too = absurd (long_no_part rest too (inl is.0))
  one_end most total rest Whole Cut is too = absurd (omega (arith, ap length is.0, too.0.0))
  one_end most total rest Whole Spent is too = absurd (omega (arith, is.1, too.1))
  one_end most total rest Long Whole is too = absurd (long_no_part rest is (inl too.0))
  one_end most total rest Long Long is too = refl
  one_end most total rest Long Cut is too = absurd (long_no_part rest is (inr too.0))
  one_end most total rest Long Spent is too = absurd (long_no_part rest is too.0)
  one_end most total rest Cut Whole is too = absurd (omega (arith, ap length too.0, is.0.0))
  one_end most total rest Cut Long is too = absurd (long_no_part rest too (inr is.0))
  one_end most total rest Cut Cut is too = refl
  one_end most total rest Cut Spent is too = absurd (omega (arith, is.1, too.1))
  one_end most total rest Spent Whole is too = absurd (omega (arith, is.1, too.1))
  one_end most total rest Spent Long is too = absurd (long_no_part rest too is.0)
  one_end most total rest Spent Cut is too = absurd (omega (arith, is.1, too.1))
  one_end most total rest Spent Spent is too = refl

  -- one reading at most
  pub at_most_one : (most : ℕ) (input : List ℕ) (frames others : List Frame) (end other : End) → Events limit most input frames end → Events limit most input others other → (frames ≡ others) × (end ≡ other)
  at_most_one most input frames others end other is too =
      let both = same_frames frames others is.rest too.rest (recursion_from_All (IsFrame limit) frames is.splits.each) (recursion_from_All (IsFrame limit) others too.splits.each)
      (end_no_frame most (length input) is.rest end is.ends) (end_no_frame most (length input) too.rest other too.ends) (sym is.splits.whole ∙ too.splits.whole) in
      (both.0, one_end most (length input) too.rest end other (subst (λ (l : List ℕ). EndsAs limit most (length input) l end) both.1 is.ends) too.ends)

  -- what stands behind the frames of bytes: a part of a frame, or a head that says too much
  abbrev IsRest : List ℕ → Type 0
  IsRest bytes = IsPart limit bytes ⊎ IsLong limit bytes

  -- frames off the front of some bytes, until none stands there
  record Split (bytes : List ℕ) : Type 0 where
    frames : List Frame
    rest : List ℕ
    whole : bytes ≡ flat_map frame_bytes frames ++ rest
    each : AllByRecursion (IsFrame limit) frames
    ends : IsRest rest

  short_rest : (bytes : List ℕ) → length bytes < 5 → IsRest bytes
  short_rest [] short = inl (inl refl)
  short_rest (b ∷ bytes) short = inl (inr (omega arith, inl short))

  no_frames : (bytes : List ℕ) → IsRest bytes → Split bytes
  no_frames bytes ends = record { frames = []; rest = bytes; whole = refl; each = tt; ends = ends }

  -- a frame in front of what splits
  frame_more : (bytes : List ℕ) (f : Frame) (more : List ℕ) → IsFrame limit f → bytes ≡ frame_bytes f ++ more → Split more → Split bytes
  frame_more bytes f more within is s = record {
    frames = f ∷ s.frames;
    rest = s.rest;
    whole = is ∙ ap (λ (l : List ℕ). frame_bytes f ++ l) s.whole ∙ sym (append_assoc (frame_bytes f) (flat_map frame_bytes s.frames) s.rest);
    each = (within, s.each);
    ends = s.ends;
  }

  -- the frame of a head whose body is there
  framed : (bytes : List ℕ) (head : Head bytes) → head.size ≤ length head.behind → bytes ≡ frame_bytes (record { kind = head.kind; body = take head.size head.behind }) ++ drop head.size head.behind
  framed bytes head enough =
      let size : length (take head.size head.behind) ≡ head.size = length-take-le head.size head.behind enough in
      head.spelled ∙ ap (λ (l : List ℕ). (head.kind ∷ four_bytes head.size) ++ l) (sym (take-append-drop head.size head.behind))
      ∙ sym (append_assoc (head.kind ∷ four_bytes head.size) (take head.size head.behind) (drop head.size head.behind))
      ∙ ap (λ (n : ℕ). ((head.kind ∷ four_bytes n) ++ take head.size head.behind) ++ drop head.size head.behind) (sym size)

  -- what stands behind a head: the frame and what splits behind it, a cut body, or too long a one
  by_head : (n : ℕ) (bytes : List ℕ) → length bytes ≤ suc n → IsBytes bytes → ((more : List ℕ) → length more ≤ n → IsBytes more → Split more) → Head bytes → Split bytes
  by_head n bytes fits are splits head =
      elim (cases_lt limit head.size) [
        | inl above ↦ no_frames bytes (inr (head, above))
        | inr within ↦ elim (cases_lt (length head.behind) head.size) [
          | inl fewer ↦ no_frames bytes (inl (inr (let five = five_bytes bytes head in omega arith, inr (head, within, fewer))))
          | inr enough ↦
              let size : length (take head.size head.behind) ≡ head.size = length-take-le head.size head.behind enough in
              let shorter : length (drop head.size head.behind) ≤ n =
              omega (arith, ap length head.spelled, length-append (four_bytes head.size) head.behind, length-four_bytes head.size, length-drop head.size head.behind) in
              let behind_is : drop 5 bytes ≡ head.behind = ap (λ (l : List ℕ). drop 5 l) head.spelled ∙ behind_five head.kind head.size head.behind in
              let left : IsBytes (drop head.size head.behind) = IsBytes-drop head.size head.behind (subst IsBytes behind_is (IsBytes-drop 5 bytes are)) in
              frame_more bytes (record { kind = head.kind; body = take head.size head.behind }) (drop head.size head.behind) (omega (arith, size, within)) (framed bytes head enough)
              (splits (drop head.size head.behind) shorter left)
        ]
      ]

  split : (n : ℕ) (bytes : List ℕ) → length bytes ≤ n → IsBytes bytes → Split bytes
  split zero bytes fits are = no_frames bytes (inl (inl (none_of bytes (omega arith))))
  split (suc n) bytes fits are = elim (cases_lt (length bytes) 5) [
    | inl short ↦ no_frames bytes (short_rest bytes short)
    | inr five ↦ by_head n bytes fits are (split n) (head_of bytes five are)
  ]

  -- how it ends, by whether more may be taken
  ends_by : (most total : ℕ) (rest : List ℕ) → IsRest rest → (end : End) × EndsAs limit most total rest end
  ends_by most total rest (inr long) = (Long, long)
  ends_by most total rest (inl part) = elim (cases_lt total most) [
    | inr reached ↦ (Spent, (part, reached))
    | inl below ↦ elim part [ inl none ↦ (Whole, (none, below)) | inr cut ↦ (Cut, (cut, below)) ]
  ]

  pub one_reading : (most : ℕ) → OneReading limit most
  one_reading most input are =
      let s = split (length (take most input)) (take most input) (omega arith) (IsBytes-take most input are) in
      let e = ends_by most (length input) s.rest s.ends in
      let events : Events limit most input s.frames e.0 = record { rest = s.rest; splits = record { whole = s.whole; each = All-from_recursion (IsFrame limit) s.frames s.each }; ends = e.1 } in
      record { frames = s.frames; end = e.0; events = events; alone = λ others other too. at_most_one most input others s.frames other e.0 too events }
