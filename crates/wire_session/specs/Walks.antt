-- Replies to whole requests after which a connection goes on.
use Rattle.std.specs.Prelude.{◌≡◌, ℕ, false, List, [], ◌∷◌, take, drop}
use Rattle.http_text.specs.Taken.{Takes}
use Rattle.http_text.specs.declared.taken.Taken.TheVariants.{Whole}
use Rattle.lc_world.specs.Sides.Side.{Side}
use Rattle.wire_session.specs.SessionOut.{IsAnswered}

-- a whole request that does not close is at the front of the bytes, and is answered so; this side and this rest are left
pub record GoesOn (side : Side) (bytes reply : List ℕ) (next : Side) (rest : List ℕ) : Type 0 where
  pub count : ℕ
  pub whole : Takes bytes (Whole count)
  pub answered : IsAnswered side (take count bytes) reply next false
  pub rest_is : rest ≡ drop count bytes

-- as many whole requests as there are replies are answered, one after the other
abbrev pub Walks : List (List ℕ) → Side → List ℕ → Side → List ℕ → Type 0
Walks [] side bytes next rest = (next ≡ side) × (rest ≡ bytes)
Walks (reply ∷ replies) side bytes next rest =
    (middle : Side) × (behind : List ℕ) × GoesOn side bytes reply middle behind × Walks replies middle behind next rest
