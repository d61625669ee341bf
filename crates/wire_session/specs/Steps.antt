-- How a session goes on by what is at the front of its bytes.
use Rattle.std.specs.Prelude.{◌≡◌, ℕ, ◌+◌, ◌<◌, ◌≤◌, Bool, true, ◌||◌, ◌==◌, List, ◌++◌, drop, Option, Some, None, if◌then◌else◌}
use Rattle.lc_world.specs.Sides.Side.{Side}
use Rattle.wire_session.specs.SessionOut.{IsAnswered}
use Rattle.wire_session.specs.Stands.{HasAnswered, IsOutput, IsWaiting}
use Rattle.wire_session.specs.declared.fed.Fed.{Fed}
use Rattle.wire_session.specs.declared.fed.Fed.TheVariants as after
use Rattle.wire_session.specs.declared.next.Next.{Next}
use Rattle.wire_session.specs.declared.next.Next.TheVariants.{Answered, Waits, Ends}

-- after a reply the session ends where its request closes, or where it was the hundredth
abbrev pub next_after : Bool → ℕ → ℕ → Next
next_after closes count long = if closes || (count == 100) then Ends else Answered long

-- nothing that was pending is lost or changed
abbrev pub KeepsFront : List ℕ → List ℕ → Type 0
KeepsFront before after = (more : List ℕ) × (after ≡ before ++ more)

-- the side replied to a request, which closes or not, and the reply was added to the output
pub record IsReplied (side : Side) (request output : List ℕ) (next : Side) (closes : Bool) (after : List ℕ) : Type 0 where
  pub reply : List ℕ
  pub answered : IsAnswered side request reply next closes
  pub after_is : after ≡ output ++ reply

-- a request that was answered is within the bytes
abbrev pub IsWithin : ℕ → Next → Type 0
IsWithin all (Answered long) = long ≤ all
IsWithin all Waits = Unit {0}
IsWithin all Ends = Unit {0}

-- where the session goes on there are fewer than 100 replies
abbrev pub Counts : ℕ → ℕ → Next → Type 0
Counts before after (Answered long) = (after ≡ before + 1) × (after < 100)
Counts before after Waits = after ≡ before
Counts before after Ends = Unit {0}

-- what is left after the request that was answered, or it waits for more, or it has ended
abbrev pub IsLeft : Next → Side → List ℕ → List ℕ → ℕ → Side → List ℕ → ℕ → Type 0
IsLeft (Answered long) start fed text count side bytes most = HasAnswered start fed text count side (drop long bytes)
IsLeft Waits start fed text count side bytes most = IsWaiting start fed text count side bytes most
IsLeft Ends start fed text count side bytes most = IsOutput start fed text count side true

-- it waits after the requests that were answered, or it has ended
abbrev pub IsHeard : Option ℕ → Side → List ℕ → List ℕ → ℕ → Side → List ℕ → ℕ → Type 0
IsHeard (Some used) start fed text count side bytes most = IsWaiting start fed text count side (drop used bytes) most
IsHeard None start fed text count side bytes most = IsOutput start fed text count side true

-- the requests that were answered are within the bytes, and there are fewer than 100 replies
abbrev pub IsOpenWithin : ℕ → ℕ → Option ℕ → Type 0
IsOpenWithin all count (Some used) = (used ≤ all) × (count < 100)
IsOpenWithin all count None = Unit {0}

-- it waits with this rest, or it has ended
abbrev pub IsAsFed : Fed → Side → List ℕ → List ℕ → ℕ → Side → List ℕ → ℕ → Type 0
IsAsFed after.More start fed text count side rest most = IsWaiting start fed text count side rest most
IsAsFed after.Ended start fed text count side rest most = IsOutput start fed text count side true

-- where it waits there are fewer than 100 replies
abbrev pub IsStillOpen : ℕ → Fed → Type 0
IsStillOpen count after.More = count < 100
IsStillOpen count after.Ended = Unit {0}
