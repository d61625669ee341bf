-- How a client of the fewest rides ended that asked alone, by the side of the publisher that answered.
use Rattle.std.specs.Prelude.{List, Option, Some}
use Rattle.cli_ask.specs.Client.{EndsRight}
use Rattle.cli_ask.specs.declared.end.ClientEnd.{ClientEnd}
use Rattle.connection_uri.specs.Base.{BaseParts}
use Rattle.rounds_client.specs.Ends.Version.{FewestAt}
use Rattle.convoy.specs.ClientLaws.Stated.{version_at}
use Rattle.lc_model.specs.declared.query.Query.{Query}
use Rattle.lc_world.specs.declared.entry.Entry.{Entry}
use Rattle.page_client.specs.declared.outcome.Outcome.{Outcome}
use Rattle.page_client.specs.declared.outcome.Outcome.TheVariants as outcomes
use Rattle.lc_world.specs.Sides.Side.{Side}
use Rattle.rounds_client.specs.declared.ending.FewestEnd.{FewestEnd}

-- how such a client ended, as any client
abbrev pub client_of : FewestEnd → ClientEnd
client_of end = record { version = end.version; outcome = end.outcome; exchanges = end.exchanges }

-- a journey that was found is one of the fewest rides of all best journeys at the version that the question means
abbrev pub HasFewestRides : Side → Query → Outcome → Type 0
HasFewestRides side query (outcomes.Found journey) = FewestAt side (version_at side query.known) query (Some journey)
HasFewestRides side query outcomes.NoJourney = Unit {0}
HasFewestRides side query (outcomes.Refused fault) = Unit {0}
HasFewestRides side query (outcomes.LinkFault before after) = Unit {0}
HasFewestRides side query (outcomes.PeerWrong reply fault) = Unit {0}

-- It ended rightly, as any client of the question does. A journey that it found has the fewest rides.
pub record EndsRightFewest (side : Side) (base : BaseParts) (query : Query) (recorded now_recorded : Option (List Entry)) (end : ClientEnd) : Type 0 where
  pub right : EndsRight side base query recorded now_recorded end
  pub fewest : HasFewestRides side query end.outcome
