-- Events that happened over a link. X is the type of the link, and `seen` what is promised of it.
use Rattle.std.specs.Prelude.{ℕ, List, [], length}
use Rattle.cli_ask.specs.declared.end.ClientEnd.{ClientEnd}
use Rattle.connection_uri.specs.Base.{BaseParts}
use Rattle.convoy.specs.Finish.{Rounds}
use Rattle.convoy.specs.State.{ConvoyState, begun}
use Rattle.cli_replay.specs.ReplayLaws.Played.{HaveEndedSo, Plays}
use Rattle.cli_replay.specs.declared.replay_laws.event.Event.{Event}
use Rattle.lc_world.specs.Link.{LinkSeen}

-- The events happened to clients under the base with a cache of so many pages, and then each client was turned until it ended so.
pub record HaveHappened {X : Type 0} (seen : X → LinkSeen) (base : BaseParts) (all : List Event) (cache : ℕ) (before after : X) (ends : List ClientEnd) : Type 0 where
  pub turned : ConvoyState
  pub ended : ConvoyState
  pub between : X
  pub plays : Plays seen all (begun base cache) turned before between []
  pub rounds : Rounds seen (length turned.members) turned ended between after
  pub have_ended : HaveEndedSo ended.members ends
