-- One exchange that a client makes over a link.
use Rattle.std.specs.Prelude.{◌≡◌, ℕ, List, [], Option, Some, None, Result, Ok, Err, IsErrOf}
use Rattle.connection_uri.specs.Base.{BaseParts}
use Rattle.lc_world.specs.Sides.Side.{Side}
use Rattle.lc_io.specs.Counts.{HasCause}
use Rattle.lc_world.specs.Link.{Exchanges, IsGet, IsHonestWith, LinkSeen, Tells}
use Rattle.lc_world.specs.declared.link.LinkFail.{LinkFail}
use Rattle.lc_world.specs.declared.link.LinkFail.TheVariants.{Failed}
use Rattle.page_client.specs.Client.{shown}
use Rattle.page_client.specs.Request.{Asks, known_at, target_of}
use Rattle.page_client.specs.Shown.{Shown, ended, want_of}
use Rattle.page_client.specs.declared.client.Client.{Client}
use Rattle.page_client.specs.declared.outcome.Outcome.TheVariants.{LinkFault}

-- what was got: a reply, or none where the exchange failed
abbrev pub Got : Type 0
Got = Option (List ℕ)

-- the link's result
abbrev pub result_of : Got → Result (Unit {0}) LinkFail
result_of (Some reply) = Ok tt
result_of None = Err Failed

-- and the bytes that it left
abbrev pub bytes_of : Got → List ℕ
bytes_of (Some reply) = reply
bytes_of None = []

-- The client asked for what it wants, once, and the link gave this: what is promised of an exchange holds of it.
pub record IsExchange (base : BaseParts) (s : Shown) (before after : LinkSeen) (got : Got) : Type 0 where
  pub request : List ℕ
  pub asks : Asks base (target_of base s.query (want_of s.phase)) (known_at s.query (want_of s.phase)) request
  pub honest : (under : BaseParts) (side : Side) → IsGet request → IsHonestWith before under side → Exchanges before after under side request (bytes_of got) (result_of got)
  pub clear : before.clear → after.clear
  pub still : before.still → after.still
  pub side : before.still → IsGet request → after.side ≡ before.side
  pub recorded : Tells before.recorded after.recorded base.authority request (bytes_of got) (result_of got)
  pub faults : HasCause before.faults after.faults (IsErrOf (result_of got) Failed)

-- where it failed the client has ended, with both counts of the link
abbrev pub AfterExchange : Client → Client → ℕ → ℕ → Got → Type 0
AfterExchange old new before after (Some reply) = new ≡ old
AfterExchange old new before after None = shown new ≡ ended (LinkFault before after) (shown old)

-- the exchange was made, and the client is as it leaves it
pub record IsAsked (base : BaseParts) (old new : Client) (before after : LinkSeen) (got : Got) : Type 0 where
  pub exchange : IsExchange base (shown old) before after got
  pub client : AfterExchange old new before.faults after.faults got
