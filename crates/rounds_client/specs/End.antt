-- How a client that asks for the fewest rides ends.
use Rattle.std.specs.Prelude.{◌≡◌, ◌<◌, ℕ, List, [], Some, None, length}
use Rattle.lc_model.specs.Journey.{arrives_at}
use Rattle.lc_model.specs.declared.moment.TheConstants.{MOMENTS_END}
use Rattle.lc_model.specs.declared.query.Query.{Query}
use Rattle.connection_uri.specs.Base.{BaseParts}
use Rattle.lc_world.specs.Link.{LinkSeen}
use Rattle.page_client.specs.Client.{shown}
use Rattle.page_client.specs.Shown.{Begins}
use Rattle.page_client.specs.declared.client.Client.{Client}
use Rattle.page_client.specs.declared.outcome.Outcome.{Outcome}
use Rattle.page_client.specs.declared.outcome.Outcome.TheVariants as outcomes
use Rattle.rounds_client.specs.Course.{AnswersFewest, LeadsTo, Point}
use Rattle.rounds_client.specs.Given.{Was}
use Rattle.rounds_client.specs.declared.ending.FewestEnd.{FewestEnd}

-- How a client ended that has its outcome: where it found a best journey, one of the fewest rides over what it was given is answered, and
-- else its own outcome.
pub record IsEndOf (query : Query) (client : Client) (given : Was) (count : ℕ) (end : FewestEnd) : Type 0 where
  pub outcome : Outcome
  pub ended : (shown client).outcome ≡ Some outcome
  pub version : end.version ≡ (shown client).version
  pub exchanges : end.exchanges ≡ count
  pub answer : AnswersFewest query given outcome end.outcome

-- the client made exchange after exchange from here up to its outcome, and ended so
pub record EndsFrom {X : Type 0} (seen : X → LinkSeen) (base : BaseParts) (query : Query) (start : Client) (given : Was) (before after : X) (end : FewestEnd) : Type 0 where
  pub points : List (Point X)
  pub last : Client
  pub had : Was
  pub leads : LeadsTo seen base points (record { client = start; given = given; link = before }) (record { client = last; given = had; link = after })
  pub ends : IsEndOf query last had (length points) end

-- A client of the question began, and made exchange after exchange up to its outcome, without a cache. The version is its own, and each
-- exchange is counted. Where it found a best journey, one of the fewest rides over what it was given is answered, and else its own outcome.
pub record EndsSo {X : Type 0} (seen : X → LinkSeen) (base : BaseParts) (query : Query) (before after : X) (end : FewestEnd) : Type 0 where
  pub start : Client
  pub begins : Begins query (shown start)
  pub points : List (Point X)
  pub last : Point X
  pub leads : LeadsTo seen base points (record { client = start; given = record { doc = None; pages = [] }; link = before }) last
  pub link : last.link ≡ after
  pub outcome : Outcome
  pub ended : (shown last.client).outcome ≡ Some outcome
  pub version : end.version ≡ (shown last.client).version
  pub exchanges : end.exchanges ≡ length points
  pub answer : AnswersFewest query last.given outcome end.outcome

-- a journey that was found arrives at a moment, which has a text
abbrev pub ArrivesAtAMoment : Outcome → Type 0
ArrivesAtAMoment (outcomes.Found journey) = arrives_at journey < MOMENTS_END
ArrivesAtAMoment outcomes.NoJourney = Unit {0}
ArrivesAtAMoment (outcomes.Refused fault) = Unit {0}
ArrivesAtAMoment (outcomes.LinkFault before after) = Unit {0}
ArrivesAtAMoment (outcomes.PeerWrong reply fault) = Unit {0}
