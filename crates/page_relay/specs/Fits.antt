-- When what a relay keeps agrees with the side at the other end of its link.
use Rattle.std.specs.Prelude.{List, Option}
use Rattle.std.specs.List.{All}
use Rattle.std.specs.Option.{IfSome}
use Rattle.lc_world.specs.Sides.Reply.{HasReply}
use Rattle.lc_world.specs.Sides.Response.{IsDocument}
use Rattle.lc_world.specs.Sides.Side.{Side}
use Rattle.lc_world.specs.declared.sides.response.Response.{Response}
use Rattle.page_relay.specs.Kept.{Kept}

-- the kept reply is that of the side to its request, and a document that never changes: a page at its version, or the stops document
pub record IsReplyOf (side : Side) (kept : Kept) : Type 0 where
  pub response : Response
  pub document : IsDocument response
  pub has : HasReply side kept.0.request response kept.1

-- each kept reply is that of the side
abbrev pub RelayFits : List Kept → Side → Type 0
RelayFits kept side = All (IsReplyOf side) kept

-- A relay is honest under a base where the link below is and what it keeps agrees with the side. The base under which it keeps does not matter:
-- of the replies to GETs only documents have the status 200.
pub record RelaysHonestly (below : Type 0) (side : Option Side) (kept : List Kept) : Type 0 where
  pub below_honest : below
  pub fits : IfSome side (RelayFits kept)
