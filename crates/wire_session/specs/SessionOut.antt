-- What a session says to the bytes of one connection: the replies to the whole requests at their front. Each is from the side
-- that the one before left. The last is to a request that closes (RFC 9112, section 9.6), to a refused head, or the hundredth.
use Rattle.std.specs.Prelude.{◌≡◌, ℕ, zero, suc, Bool, true, false, List, [], ◌∷◌, take, drop}
use Rattle.http_text.specs.ReplyText.{reply_text_of}
use Rattle.http_text.specs.Request.{IsWholeRequest}
use Rattle.http_text.specs.Taken.{Takes}
use Rattle.http_text.specs.declared.request.Request.{Request}
use Rattle.http_text.specs.declared.taken.Taken.{Taken}
use Rattle.http_text.specs.declared.taken.Taken.TheVariants.{Whole, NotYet, Refused}
use Rattle.lc_world.specs.Sides.Reply.{IsNextSide, IsReply, bare_parts}
use Rattle.lc_world.specs.Sides.Side.{Side}

-- the replies in their order, the side that they leave, and whether the connection ends: nothing more is said, whatever bytes follow
pub record Said : Type 0 where
  pub replies : List (List ℕ)
  pub side : Side
  pub ended : Bool

-- no reply, and the connection ends or not
abbrev pub silent : Side → Bool → Said
silent side ended = record { replies = []; side = side; ended = ended }

-- one reply, and then what is said
abbrev pub with_reply : List ℕ → Said → Said
with_reply reply said = record said { replies = reply ∷ said.replies }

-- the reply to a refused head: its status, and that the connection ends
abbrev pub refusal_text : ℕ → List ℕ
refusal_text status = reply_text_of (bare_parts true status)

-- The bytes are one whole request, which closes the connection or not; the side replies this to it and leaves the next one.
pub record IsAnswered (side : Side) (bytes reply : List ℕ) (next : Side) (closes : Bool) : Type 0 where
  pub reply_is : IsReply side bytes reply
  pub next_is : IsNextSide side bytes next
  pub request : Request
  pub request_is : IsWholeRequest bytes request
  pub closes_is : closes ≡ request.close

-- what is said after a request: nothing where it closes, else what is said to the rest
abbrev pub IsSaidAfter : (Side → List ℕ → Said → Type 0) → Bool → Side → List ℕ → Said → Type 0
IsSaidAfter Goes true side rest said = said ≡ silent side true
IsSaidAfter Goes false side rest said = Goes side rest said

-- the first request has so many bytes, and is answered; then the rest is
pub record IsSaidFirst (Goes : Side → List ℕ → Said → Type 0) (side : Side) (count : ℕ) (bytes : List ℕ) (said : Said) : Type 0 where
  pub reply : List ℕ
  pub next : Side
  pub closes : Bool
  pub answered : IsAnswered side (take count bytes) reply next closes
  pub after : Said
  pub after_is : IsSaidAfter Goes closes next (drop count bytes) after
  pub is : said ≡ with_reply reply after

-- what is said by what is at the front of the bytes
abbrev pub IsSaidBy : (Side → List ℕ → Said → Type 0) → Taken → Side → List ℕ → Said → Type 0
IsSaidBy Goes (Whole count) side bytes said = IsSaidFirst Goes side count bytes said
IsSaidBy Goes NotYet side bytes said = said ≡ silent side false
IsSaidBy Goes (Refused status) side bytes said = said ≡ with_reply (refusal_text status) (silent side true)

-- what is said to the bytes where at most so many replies are sent
unfoldable pub Says : ℕ → Side → List ℕ → Said → Type 0
Says zero side bytes said = said ≡ silent side true
Says (suc more) side bytes said = (taken : Taken) × Takes bytes taken × IsSaidBy (Says more) taken side bytes said

-- what a session says to the bytes, from this side on: at most 100 replies
abbrev pub SessionOut : Side → List ℕ → Said → Type 0
SessionOut side bytes said = Says 100 side bytes said
