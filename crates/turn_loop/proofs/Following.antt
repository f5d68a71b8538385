-- Frames that a machine followed, one more.
use Rattle.std.proofs.Common.{◌≡◌, ◌++◌, List, [], ◌∷◌, length, refl, subst, arith}
use Rattle.frames.specs.Frames.{Frame}
use Rattle.turn_loop.specs.Follows.{Follows}

module _ {S : Type 0} (turn : S → Frame → S → Frame → Type 0) where
  -- one turn more
  pub follows_push : (s : S) (frames : List Frame) (between : S) (replies : List Frame) (frame : Frame) (becomes : S) (reply : Frame)
      → Follows turn s frames between replies → turn between frame becomes reply → Follows turn s (frames ++ frame ∷ []) becomes (replies ++ reply ∷ [])
  follows_push s [] between [] frame becomes reply is next = (becomes, subst (λ (m : S). turn m frame becomes reply) is next, refl)
  follows_push s [] between (r ∷ rs) frame becomes reply is next = absurd is
  follows_push s (f ∷ fs) between [] frame becomes reply is next = absurd is
  follows_push s (f ∷ fs) between (r ∷ rs) frame becomes reply is next = (is.0, is.1, follows_push is.0 fs between rs frame becomes reply is.2 next)

  -- each frame has its reply
  pub as_many : (s : S) (frames : List Frame) (t : S) (replies : List Frame) → Follows turn s frames t replies → length frames ≡ length replies
  as_many s [] t [] is = refl
  as_many s [] t (r ∷ rs) is = absurd is
  as_many s (f ∷ fs) t [] is = absurd is
  as_many s (f ∷ fs) t (r ∷ rs) is = let more = as_many is.0 fs t rs is.2 in omega arith
