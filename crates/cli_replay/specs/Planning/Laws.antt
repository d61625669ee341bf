-- That `relay` promises what `plan` does, and what its second count is. X is the type of the link handed in, and `seen` what is promised of it.
use Rattle.std.specs.Prelude.{◌≡◌, ◌-◌, ◌^◌, ℕ, min, List, Some, length}
use Rattle.cli_ask.specs.declared.end.ClientEnd.{ClientEnd}
use Rattle.connection_uri.specs.Base.{BaseParts}
use Rattle.cli_replay.specs.PlanLaws.Planned.{ArePlanned}
use Rattle.cli_replay.specs.PlanLaws.Replied.{TellsAlong}
use Rattle.cli_replay.specs.declared.replay_laws.event.Event.{Event}
use Rattle.lc_world.specs.Link.{IsHonestWith, LinkSeen}
use Rattle.lc_world.specs.declared.entry.Entry.{Entry}
use Rattle.lc_world.specs.Sides.Side.{Side}
use Rattle.cli_replay.specs.Planning.Relayed.{IsRelayed, relay_after, relay_over}

-- The clients planned over the relay as they do over each honest link, and each of them ended rightly. The link is honest with the last side of the
-- plan. Each reply that the relay gave is that of the publisher's side at its exchange.
pub record ArePlannedOver (base : BaseParts) (first : Side) (all : List Event) (cache entries : ℕ) (before after : LinkSeen) (text : List ℕ) (ends : List ClientEnd) (x : IsRelayed base all cache entries before after text ends) : Type 0 where
  pub planned : ArePlanned base first all cache (relay_over base entries before) (relay_after base entries before x.own x.kept after) ends x.planned.caused.met
  pub honest : IsHonestWith after base planned.last
  pub replies : TellsAlong first (relay_over base entries before) (relay_after base entries before x.own x.kept after)

-- over each honest link
abbrev pub RelaysPlanRight : {X : Type 0} → (X → LinkSeen) → Type 0
RelaysPlanRight {X} seen =
    (base : BaseParts) (first : Side) (all : List Event) (cache entries : ℕ) (before after : X) (text : List ℕ) (ends : List ClientEnd)
    → (x : IsRelayed base all cache entries (seen before) (seen after) text ends) → IsHonestWith (seen before) base first
    → ArePlannedOver base first all cache entries (seen before) (seen after) text ends x

-- Over a link that records exchanges the second count is by how many it has recorded more.
abbrev pub CountsAreGrowth : {X : Type 0} → (X → LinkSeen) → Type 0
CountsAreGrowth {X} seen =
    (base : BaseParts) (all : List Event) (cache entries : ℕ) (before after : X) (text : List ℕ) (ends : List ClientEnd) (made now : List Entry)
    → (x : IsRelayed base all cache entries (seen before) (seen after) text ends) → (seen before).recorded ≡ Some made → (seen after).recorded ≡ Some now
    → x.forwarded ≡ min (length now - length made) (2 ^ 64 - 1)
