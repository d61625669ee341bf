-- The laws of what a session says: it is one, more bytes only add to it, and near values are refused.
use Rattle.std.specs.Prelude.{◌≡◌, ◌≢◌, ℕ, ◌≤◌, true, List, [], ◌∷◌, ◌++◌, drop, length}
use Rattle.std.specs.List.{concat}
use Rattle.http_text.specs.Request.{IsWhole, IsWholeRequest}
use Rattle.http_text.specs.declared.request.Request.{Request}
use Rattle.lc_world.specs.Sides.Response.{status_of_update}
use Rattle.lc_world.specs.Sides.Side.{Side}
use Rattle.wire_session.specs.SessionOut.{Said, SessionOut}
use Rattle.wire_session.specs.Stands.{IsCutShort}

-- what is said to bytes is one
abbrev pub OneOutput : Type 0
OneOutput = (side : Side) (bytes : List ℕ) (a b : Said) → SessionOut side bytes a → SessionOut side bytes b → a ≡ b

-- the replies are these, and perhaps more after them
abbrev pub BeginsWith : List (List ℕ) → List (List ℕ) → Type 0
BeginsWith replies first = (more : List (List ℕ)) × (replies ≡ first ++ more)

-- what is said to more bytes begins with what is said to fewer
abbrev pub OutputGrows : Type 0
OutputGrows =
    (side : Side) (bytes more : List ℕ) (a b : Said) → SessionOut side bytes a → SessionOut side (bytes ++ more) b → BeginsWith b.replies a.replies

-- The replies that a session holds where memory runs out are the first ones of what it says.
abbrev pub CutShortIsFront : Type 0
CutShortIsFront =
    (start : Side) (fed text : List ℕ) (count : ℕ) (side : Side) (said : Said) → IsCutShort start fed text count side → SessionOut start fed said
    → (replies : List (List ℕ)) × (text ≡ concat replies) × (count ≡ length replies) × BeginsWith said.replies replies

-- an end stays: bytes after it change nothing
abbrev pub EndsStay : Type 0
EndsStay = (side : Side) (bytes more : List ℕ) (said : Said) → SessionOut side bytes said → said.ended ≡ true → SessionOut side (bytes ++ more) said

-- there are at most 100 replies
abbrev pub AtMostHundred : Type 0
AtMostHundred = (side : Side) (bytes : List ℕ) (said : Said) → SessionOut side bytes said → length said.replies ≤ 100

-- no reply comes once more at the end
abbrev pub NoneTwice : Type 0
NoneTwice =
    (side : Side) (bytes : List ℕ) (said : Said) (reply : List ℕ) → SessionOut side bytes said
    → ¬ SessionOut side bytes (record said { replies = said.replies ++ reply ∷ [] })

-- a whole request without its last bytes has no reply
abbrev pub NoneTooEarly : Type 0
NoneTooEarly =
    (side : Side) (bytes lost : List ℕ) (said : Said) → IsWhole (bytes ++ lost) → lost ≢ [] → SessionOut side bytes said → said.replies ≡ []

-- No whole request is replied to with 413: its head says how long its body is, and is refused where that is too long.
abbrev pub NoneTooLong : Type 0
NoneTooLong =
    (side : Side) (bytes : List ℕ) (request : Request) (update : _) → IsWholeRequest bytes request → status_of_update side request (drop request.body_from bytes) update ≢ 413
