-- What a machine makes of frames, one behind the other.
use Rattle.std.specs.Prelude.{◌≡◌, List, [], ◌∷◌}
use Rattle.frames.specs.Frames.{Frame}

-- From a state these frames lead to a state, and to these replies: one a frame, in order. A turn leads from a state and a
-- frame to a state and a reply.
abbrev pub Follows : {S : Type 0} → (S → Frame → S → Frame → Type 0) → S → List Frame → S → List Frame → Type 0
Follows turn s [] t [] = t ≡ s
Follows turn s [] t (reply ∷ replies) = ⊥
Follows turn s (frame ∷ frames) t [] = ⊥
Follows {S} turn s (frame ∷ frames) t (reply ∷ replies) = (between : S) × turn s frame between reply × Follows turn between frames t replies
