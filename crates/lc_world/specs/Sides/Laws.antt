-- The laws of sides: one timetable a version, one reply and one next side a request, and what was sent once is sent again.
use Rattle.std.specs.Prelude.{◌≡◌, ℕ, true, List}
use Rattle.lc_model.specs.declared.connection.Connection.{Connection}
use Rattle.lc_world.specs.Sides.Reply.{HasReply, IsNextSide, IsReply}
use Rattle.lc_world.specs.Sides.Response.{IsDocument}
use Rattle.lc_world.specs.Sides.Side.{IsLater, IsTimetableAt, IsValidSide, Side, has_version}
use Rattle.lc_world.specs.declared.sides.response.Response.{Response}

-- a version has one timetable
abbrev pub OneTimetable : Type 0
OneTimetable = (side : Side) (version : ℕ) (a b : List Connection) → IsTimetableAt side version a → IsTimetableAt side version b → a ≡ b

-- a request has one reply
abbrev pub OneReply : Type 0
OneReply = (side : Side) (bytes a b : List ℕ) → IsReply side bytes a → IsReply side bytes b → a ≡ b

-- and leaves one side
abbrev pub OneNextSide : Type 0
OneNextSide = (side : Side) (bytes : List ℕ) (a b : Side) → IsNextSide side bytes a → IsNextSide side bytes b → a ≡ b

-- which is a later one
abbrev pub NextIsLater : Type 0
NextIsLater = (side : Side) (bytes : List ℕ) (next : Side) → IsNextSide side bytes next → IsLater side next

-- and a valid one
abbrev pub NextIsValid : Type 0
NextIsValid = (side : Side) (bytes : List ℕ) (next : Side) → IsValidSide side → IsNextSide side bytes next → IsValidSide next

-- a side is a later one of itself, and a later one of a later one is a later one
abbrev pub LaterGoesOn : Type 0
LaterGoesOn = (a b c : Side) → IsLater a a × (IsLater a b → IsLater b c → IsLater a c)

-- a version has the same timetable at every later side
abbrev pub TimetablesStay : Type 0
TimetablesStay =
    (before after : Side) (version : ℕ) (list : List Connection) → IsValidSide after → IsLater before after → has_version before version ≡ true
    → IsTimetableAt before version list → IsTimetableAt after version list

-- each page and each stops document that was sent is sent again at every later side
abbrev pub MementosStay : Type 0
MementosStay =
    (before after : Side) (bytes : List ℕ) (response : Response) (text : List ℕ) → IsValidSide after → IsLater before after
    → IsDocument response → HasReply before bytes response text → HasReply after bytes response text
