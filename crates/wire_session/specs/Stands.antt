-- What a session stands for: the side at its start, all bytes that it received, however they were cut, and the replies to them.
use Rattle.std.specs.Prelude.{◌≡◌, ℕ, ◌<◌, ◌⊎◌, Bool, true, false, List, [], ◌++◌, length, take}
use Rattle.std.specs.List.{concat}
use Rattle.http_text.specs.Taken.{Takes, WaitsFor}
use Rattle.http_text.specs.declared.taken.Taken.TheVariants.{Whole, NotYet}
use Rattle.lc_world.specs.Sides.Reply.{IsNextSide}
use Rattle.lc_world.specs.Sides.Side.{Side}
use Rattle.wire_session.specs.SessionOut.{Said, SessionOut}
use Rattle.wire_session.specs.Walks.{Walks}
use Rattle.wire_session.specs.declared.phase.Phase.{Phase}
use Rattle.wire_session.specs.declared.phase.Phase.TheVariants.{Open, Ended, Spent}

-- What a session has: the bytes that are to be sent, the number of its replies, and whether it goes on. The bytes of less than a whole
-- request, and how many of these there have to be before it is worth looking at them again.
pub record Held : Type 0 where
  pub pending : List ℕ
  pub requests : ℕ
  pub phase : Phase
  pub waiting : List ℕ
  pub waits_for : ℕ

-- a session that was fed nothing
abbrev pub fresh : Held
fresh = record { pending = []; requests = 0; phase = Open; waiting = []; waits_for = 0 }

-- Of the bytes that were fed, whole requests at the front were answered by so many replies of this text, fewer than 100. None of
-- them closes; this side and this rest are left.
pub record HasAnswered (start : Side) (fed text : List ℕ) (count : ℕ) (side : Side) (rest : List ℕ) : Type 0 where
  pub replies : List (List ℕ)
  pub walks : Walks replies start fed side rest
  pub text_is : text ≡ concat replies
  pub count_is : count ≡ length replies
  pub fewer : count < 100

-- the rest is less than a whole request, at least until so many bytes of it have come
pub record IsWaiting (start : Side) (fed text : List ℕ) (count : ℕ) (side : Side) (rest : List ℕ) (most : ℕ) : Type 0 where
  pub answered : HasAnswered start fed text count side rest
  pub waits : Takes rest NotYet
  pub waits_for : WaitsFor rest most

-- The text is what a session says to the bytes, in so many replies, which leave this side; the connection ends or not.
pub record IsOutput (start : Side) (fed text : List ℕ) (count : ℕ) (side : Side) (ended : Bool) : Type 0 where
  pub said : Said
  pub says : SessionOut start fed said
  pub ended_is : said.ended ≡ ended
  pub text_is : text ≡ concat said.replies
  pub count_is : count ≡ length said.replies
  pub side_is : side ≡ said.side

-- the side that the whole request at the front of the bytes leaves
abbrev pub IsLeftByFirst : Side → List ℕ → Side → Type 0
IsLeftByFirst side bytes next = (count : ℕ) × Takes bytes (Whole count) × IsNextSide side (take count bytes) next

-- Memory ran out after so many replies of this text. The side is the one that their requests left, or the one that the next
-- request left after them.
pub record IsCutShort (start : Side) (fed text : List ℕ) (count : ℕ) (side : Side) : Type 0 where
  pub before : Side
  pub rest : List ℕ
  pub answered : HasAnswered start fed text count before rest
  pub left : (side ≡ before) ⊎ IsLeftByFirst before rest side

-- what it stands for, by whether it goes on
abbrev pub StandsIn : Phase → Held → Side → List ℕ → List ℕ → Side → Type 0
StandsIn Open held start fed text side = IsWaiting start fed text held.requests side held.waiting held.waits_for
StandsIn Ended held start fed text side = IsOutput start fed text held.requests side true
StandsIn Spent held start fed text side = IsCutShort start fed text held.requests side

-- The session was fed these bytes from the start on. Of its replies this was sent and the rest is pending. This side is left.
unfoldable pub Stands : Held → Side → List ℕ → List ℕ → Side → Type 0
Stands held start fed sent side = StandsIn held.phase held start fed (sent ++ held.pending) side

-- what the replies are, by whether the session goes on
abbrev pub MeansIn : Phase → Held → Side → List ℕ → List ℕ → Side → Type 0
MeansIn Open held start fed text side = IsOutput start fed text held.requests side false
MeansIn Ended held start fed text side = IsOutput start fed text held.requests side true
MeansIn Spent held start fed text side = IsCutShort start fed text held.requests side

-- what was sent and what is pending are what a session says to all bytes that it was fed, unless memory ran out
abbrev pub Means : Held → Side → List ℕ → List ℕ → Side → Type 0
Means held start fed sent side = MeansIn held.phase held start fed (sent ++ held.pending) side

-- whatever a session stands for, its replies are those
abbrev pub StandsMeans : Type 0
StandsMeans = (held : Held) (start : Side) (fed sent : List ℕ) (side : Side) → Stands held start fed sent side → Means held start fed sent side
