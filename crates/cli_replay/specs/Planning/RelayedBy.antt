-- Clients that plan over a relay, whatever was asked of it before. X is the type of the link below, and `seen` what is promised of it.
use Rattle.std.specs.Prelude.{◌≡◌, ℕ, true, List, ◌++◌}
use Rattle.cli_ask.specs.declared.end.ClientEnd.{ClientEnd}
use Rattle.connection_uri.specs.Base.{BaseParts}
use Rattle.cli_replay.specs.PlanLaws.Planned.{IsPlanned}
use Rattle.cli_replay.specs.declared.replay_laws.event.Event.{Event}
use Rattle.lc_world.specs.GoneOn.{IsLeftByGets}
use Rattle.lc_world.specs.Link.{LinkSeen}
use Rattle.page_relay.specs.Relay.{HasRelayedOf, RelayState, relay_seen}
use Rattle.cli_replay.specs.Planning.Relayed.{counts_line_of}

-- GETs left the relay with this link below it
pub record IsLeftBelow {X : Type 0} (seen : X → LinkSeen) (before : RelayState X) (link : X) : Type 0 where
  pub after : RelayState X
  pub below : link ≡ after.exchanger.inner
  pub has : HasRelayedOf seen after
  pub left : IsLeftByGets (relay_seen seen before) (relay_seen seen after)

-- The clients planned over the relay, which is left so. Its counts are exact, and the text is the clients' blocks with the line of these counts.
pub record IsRelayedBy {X : Type 0} (seen : X → LinkSeen) (base : BaseParts) (all : List Event) (cache : ℕ) (before : RelayState X) (link : X) (text : List ℕ) (ends : List ClientEnd) : Type 0 where
  pub left : IsLeftBelow seen before link
  pub blocks : List ℕ
  pub planned : IsPlanned base all cache (relay_seen seen before) (relay_seen seen left.after) blocks ends
  pub exact : left.after.exact ≡ true
  pub text_is : text ≡ blocks ++ counts_line_of left.after.relayed left.after.exchanger.forwarded
