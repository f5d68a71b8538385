-- Framed bodies that begin the same bytes begin alike, so a half stands for one list.
use Rattle.std.proofs.Common.{◌≡◌, ◌≢◌, ℕ, ◌<◌, ◌^◌, List, [], ◌∷◌, ◌++◌, length, take, drop, refl, sym, ◌∙◌, ap}
use Rattle.std.proofs.lemmas.List.{take_at, drop_at}
use Rattle.std.proofs.lemmas.Nat.{from_be_bytes-to_be_bytes_4}
use Rattle.std.specs.Int.{from_be_bytes, w32}
use Rattle.journal_core.specs.Frames.{frames, IsBody, AreBodies}
use Rattle.journal_core.proofs.Unframing.{opening, length-opening, behind_frame, drop-opening}

-- the others go on where the bodies end
pub record GoesOn (bodies others : List (List ℕ)) (more : List ℕ) (gate : ℕ) (behind : List ℕ) : Type 0 where
  pub rest : List (List ℕ)
  pub others_are : others ≡ bodies ++ rest
  pub more_is : more ≡ frames rest ++ gate ∷ behind
  pub sizes : AreBodies rest

-- the length says which opening it is
opening_one : (m n : ℕ) → m < 2 ^ 32 → n < 2 ^ 32 → opening m ≡ opening n → m ≡ n
opening_one m n m_fits n_fits same =
    sym (from_be_bytes-to_be_bytes_4 m m_fits) ∙ ap (λ (l : List ℕ). from_be_bytes w32 (drop 1 l)) same ∙ from_be_bytes-to_be_bytes_4 n n_fits

pub record SameFront (body other : List ℕ) (more behind : List ℕ) : Type 0 where
  pub bodies_are : body ≡ other
  pub rest_is : more ≡ behind

-- two frames that begin the same bytes
same_front : (body other more behind : List ℕ) → IsBody body → IsBody other → opening (length body) ++ (body ++ more) ≡ opening (length other) ++ (other ++ behind) → SameFront body other more behind
same_front body other more behind fits other_fits same =
    let openings : opening (length body) ≡ opening (length other) =
    sym (take_at (opening (length body)) (body ++ more) 5 (length-opening (length body))) ∙ ap (λ (l : List ℕ). take 5 l) same ∙ take_at (opening (length other)) (other ++ behind) 5 (length-opening (length other)) in
    let lengths : length body ≡ length other = opening_one (length body) (length other) fits other_fits openings in
    let inner : body ++ more ≡ other ++ behind = sym (drop-opening (length body) (body ++ more)) ∙ ap (λ (l : List ℕ). drop 5 l) same ∙ drop-opening (length other) (other ++ behind) in
    record {
      bodies_are = sym (take_at body more (length body) refl) ∙ ap (λ (l : List ℕ). take (length body) l) inner ∙ take_at other behind (length body) (sym lengths);
      rest_is = sym (drop_at body more (length body) refl) ∙ ap (λ (l : List ℕ). drop (length body) l) inner ∙ drop_at other behind (length body) (sym lengths);
    }

pub goes_on : (bodies others : List (List ℕ)) (more : List ℕ) (gate : ℕ) (behind : List ℕ) → AreBodies bodies → AreBodies others → gate ≢ 0xa5
    → frames bodies ++ more ≡ frames others ++ gate ∷ behind → GoesOn bodies others more gate behind
goes_on [] others more gate behind sizes other_sizes shut same = record { rest = others; others_are = refl; more_is = same; sizes = other_sizes }
goes_on (body ∷ bodies) [] more gate behind sizes other_sizes shut same =
    let first : 0xa5 ≡ gate = cc (sym (behind_frame body bodies more) ∙ same) in
    absurd (shut (sym first))
goes_on (body ∷ bodies) (other ∷ others) more gate behind sizes other_sizes shut same =
    let front = same_front body other (frames bodies ++ more) (frames others ++ gate ∷ behind) sizes.0 other_sizes.0
    (sym (behind_frame body bodies more) ∙ same ∙ behind_frame other others (gate ∷ behind)) in
    let inner = goes_on bodies others more gate behind sizes.1 other_sizes.1 shut front.rest_is in
    record {
      rest = inner.rest;
      others_are = ap (λ (b : List ℕ). b ∷ others) (sym front.bodies_are) ∙ ap (λ (bs : List (List ℕ)). body ∷ bs) inner.others_are;
      more_is = inner.more_is;
      sizes = inner.sizes;
    }
