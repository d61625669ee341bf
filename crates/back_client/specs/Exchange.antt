-- One exchange over a link.
use Rattle.std.specs.Prelude.{◌≡◌, ℕ, List, Option, IsErrOf}
use Rattle.connection_uri.specs.Base.{BaseParts}
use Rattle.lc_world.specs.Sides.Side.{Side}
use Rattle.lc_io.specs.Counts.{HasCause}
use Rattle.lc_world.specs.Link.{Exchanges, IsGet, IsHonestWith, LinkSeen, Tells}
use Rattle.lc_world.specs.declared.link.LinkFail.TheVariants.{Failed}
use Rattle.page_client.specs.Request.{Asks}
use Rattle.convoy.specs.Exchange.{Got, bytes_of, result_of}

-- The target was asked for once, and the link gave this: what is promised of an exchange holds of it.
pub record IsExchange (base : BaseParts) (target : List ℕ) (known : Option ℕ) (before after : LinkSeen) (got : Got) : Type 0 where
  pub request : List ℕ
  pub asks : Asks base target known request
  pub honest : (under : BaseParts) (side : Side) → IsGet request → IsHonestWith before under side → Exchanges before after under side request (bytes_of got) (result_of got)
  pub clear : before.clear → after.clear
  pub still : before.still → after.still
  pub side : before.still → IsGet request → after.side ≡ before.side
  pub recorded : Tells before.recorded after.recorded base.authority request (bytes_of got) (result_of got)
  pub faults : HasCause before.faults after.faults (IsErrOf (result_of got) Failed)
