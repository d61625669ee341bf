-- What a link is seen to be: a way to ask a publisher, which answers from its side.
use Rattle.std.specs.Prelude.{◌≡◌, ◌⊎◌, ℕ, List, [], ◌∷◌, ◌++◌, codes, Option, Some, None, option_map, Result, Ok, Err, OnOk}
use Rattle.connection_uri.specs.Base.{BaseParts}
use Rattle.http_text.specs.Request.{IsWholeRequest}
use Rattle.http_text.specs.declared.request.Request.{Request}
use Rattle.lc_world.specs.Sides.Reply.{IsReply}
use Rattle.lc_world.specs.Sides.Short.{StandsUnder}
use Rattle.lc_world.specs.Sides.Side.{IsLater, Side}
use Rattle.lc_world.specs.declared.entry.Entry.{Entry}
use Rattle.lc_world.specs.declared.entry.RecordedReply.{RecordedReply}
use Rattle.lc_world.specs.declared.entry.RecordedReply.TheVariants as recorded_replies
use Rattle.lc_world.specs.declared.link.LinkFail.{LinkFail}
use Rattle.lc_world.specs.declared.link.LinkFail.TheVariants.{Failed, NoMemory}

-- The side at the other end and the exchanges, where the link records them. Under which bases it is honest, as far as
-- its side does not say it, and under which its side also stays as it is. Whether it leaves an answer that is handed on as it is.
-- Whether a GET leaves its side as it is, whatever it replies. How often it has failed.
pub record LinkSeen : Type 1 where
  pub side : Option Side
  pub recorded : Option (List Entry)
  pub honest : BaseParts → Type 0
  pub quiet : BaseParts → Type 0
  pub clear : Type 0
  pub still : Type 0
  pub faults : ℕ

-- a link that records this side and of which this is said is honest under the base with a side that is under it
pub record IsHonest (recorded : Option Side) (said : Type 0) (base : BaseParts) (side : Side) : Type 0 where
  pub tells : recorded ≡ Some side
  pub stands : StandsUnder base side
  pub honest : said

-- the link is honest under the base, with this side at its other end
abbrev pub IsHonestWith : LinkSeen → BaseParts → Side → Type 0
IsHonestWith link base side = IsHonest link.side (link.honest base) base side

-- and it is quiet: what is got by it leaves its side as it was
pub record IsQuiet (recorded : Option Side) (said said_quiet : Type 0) (base : BaseParts) (side : Side) : Type 0 where
  pub as_honest : IsHonest recorded said base side
  pub quiet : said_quiet

-- the link is quiet, with this side at its other end
abbrev pub IsQuietWith : LinkSeen → BaseParts → Side → Type 0
IsQuietWith link base side = IsQuiet link.side (link.honest base) (link.quiet base) base side

-- the bytes are one whole request, and a GET (RFC 9110, section 9.3.1)
pub record IsGet (bytes : List ℕ) : Type 0 where
  pub request : Request
  pub whole : IsWholeRequest bytes request
  pub method_is : request.method ≡ codes "GET"

-- What an honest link with this side has become, by what it records now, what is said of it, and whether it was quiet. It is honest
-- with a later side, which has given the reply if there is one. If it was quiet, it is honest with the same side, and still quiet.
pub record StaysHonest {T : Type 0} (base : BaseParts) (before : Side) (was_quiet : Type 0) (recorded : Option Side) (said said_quiet : Type 0)
    (request reply : List ℕ) (result : Result T LinkFail) : Type 0 where
  pub side : Side
  pub honest : IsHonest recorded said base side
  pub later : IsLater before side
  pub replied : OnOk result (IsReply side request reply)
  pub same : was_quiet → side ≡ before
  pub quiet : was_quiet → said_quiet

-- what an exchange makes of a link that was honest with this side
abbrev pub Exchanges : {T : Type 0} → LinkSeen → LinkSeen → BaseParts → Side → List ℕ → List ℕ → Result T LinkFail → Type 0
Exchanges before after base side request reply result =
    StaysHonest base side (before.quiet base) after.side (after.honest base) (after.quiet base) request reply result

-- what is recorded of the reply that came, or that there was none
abbrev pub recorded_of : Option (List ℕ) → RecordedReply
recorded_of None = recorded_replies.Failed
recorded_of (Some reply) = recorded_replies.Reply reply

-- One exchange more is recorded, where exchanges are recorded: with the reply that came, or that it failed, unless the link hides replies.
pub record TellsMore (before after : Option (List Entry)) (authority request : List ℕ) (given : Option (List ℕ)) : Type 0 where
  pub reply : RecordedReply
  pub is_given : (reply ≡ recorded_replies.Hidden) ⊎ (reply ≡ recorded_of given)
  pub is : after ≡ option_map (λ (recorded : List Entry). recorded ++ record { authority = authority; request = request; reply = reply } ∷ []) before

-- an exchange is recorded by how it ended; after running out of memory it may not be
abbrev pub Tells : {T : Type 0} → Option (List Entry) → Option (List Entry) → List ℕ → List ℕ → List ℕ → Result T LinkFail → Type 0
Tells before after authority request reply (Ok _) = TellsMore before after authority request (Some reply)
Tells before after authority request reply (Err Failed) = TellsMore before after authority request None
Tells before after authority request reply (Err NoMemory) = (after ≡ before) ⊎ TellsMore before after authority request None
