-- Clients that plan over one link, whose side may grow between their exchanges: how each of them ends, and what is printed.
use Rattle.std.specs.Prelude.{◌≡◌, ◌↔◌, ◌≤◌, ℕ, ◌+◌, List, [], ◌∷◌, Option, Some, None, length, slice_get}
use Rattle.std.specs.List.{All}
use Rattle.cli_ask.specs.Client.{shown_of}
use Rattle.cli_ask.specs.declared.end.ClientEnd.{ClientEnd}
use Rattle.connection_uri.specs.Base.{BaseParts}
use Rattle.convoy.specs.ClientLaws.Fits.{HasEnded}
use Rattle.convoy.specs.Agreement.Leaves.{LeavesHonest}
use Rattle.convoy.specs.Agreement.Names.{AskByNames, Round, failures_in}
use Rattle.convoy.specs.Agreement.Requests.{TellsRequests}
use Rattle.cli_replay.specs.PlanLaws.Replied.{TellsAlong}
use Rattle.cli_replay.specs.PlanLaws.Sides.{AreLater, sides_of, version_after}
use Rattle.cli_replay.specs.ReplayLaws.Caused.{AreCaused}
use Rattle.cli_replay.specs.ReplayLaws.Events.{questions_in}
use Rattle.cli_replay.specs.ReplayLaws.History.{AreMetIn}
use Rattle.cli_replay.specs.ReplayLaws.Replayed.{clients_text_of}
use Rattle.cli_replay.specs.ReplayLaws.Right.{FailsWith}
use Rattle.cli_replay.specs.ReplayLaws.Turns.{EndByFailure, TakeOneEach, asked_in, failed_in, given_in, order_of, requests_in, rounds_of}
use Rattle.cli_replay.specs.declared.replay_laws.event.Event.{Event}
use Rattle.cli_replay.specs.declared.replay_laws.event.Event.TheVariants as events
use Rattle.convoy.specs.Replies.Met.{Met}
use Rattle.lc_io.specs.Counts.{RoseBy}
use Rattle.lc_model.specs.declared.query.Query.{Query}
use Rattle.lc_world.specs.Link.{IsHonestWith, LinkSeen}
use Rattle.page_client.specs.declared.outcome.Outcome.{Outcome}
use Rattle.page_client.specs.declared.outcome.Outcome.TheVariants as outcomes
use Rattle.page_client.specs.declared.want.Want.{Want}
use Rattle.page_client.specs.declared.want.Want.TheVariants as wants
use Rattle.lc_world.specs.Sides.Side.{Side}

-- a client asks or has its turn
abbrev pub IsNoMessage : Event → Type 0
IsNoMessage (events.Ask query) = Unit {0}
IsNoMessage (events.Message message) = ⊥
IsNoMessage (events.Turn client) = Unit {0}

-- no event is a message: the publisher at the other end of the link gets its messages from others
abbrev pub NoneIsMessage : List Event → Type 0
NoneIsMessage all = All IsNoMessage all

-- after a fault of the link there is no version exactly where the exchange that failed was with the time gate
abbrev pub VersionFitsFault : Outcome → List Want → Option ℕ → Type 0
VersionFitsFault (outcomes.Found journey) failed version = Unit {0}
VersionFitsFault outcomes.NoJourney failed version = Unit {0}
VersionFitsFault (outcomes.Refused fault) failed version = Unit {0}
VersionFitsFault (outcomes.LinkFault before after) failed version = (version ≡ None) ↔ (failed ≡ wants.Gate ∷ [])
VersionFitsFault (outcomes.PeerWrong reply fault) failed version = Unit {0}

-- The client of the question had these turns, at these sides, and ended as said by the last side. It received exactly its wants, one in each turn,
-- and none after an exchange that failed. It found a best journey by the timetable of its version, or none where there is none. The version is
-- the one that the side of its own time gate exchange names. Each exchange of its own is counted.
pub record EndsAt (last : Side) (query : Query) (rounds : List Round) (sides : List Side) (end : ClientEnd) : Type 0 where
  pub ended : HasEnded last (shown_of query end) (given_in rounds) (Some end.outcome)
  pub version : end.version ≡ version_after query.known rounds sides None
  pub exchanges : end.exchanges ≡ length (asked_in rounds)
  pub each : TakeOneEach rounds
  pub at_last : EndByFailure rounds
  pub failed : FailsWith last query end.version (given_in rounds) (failed_in rounds) end.outcome
  pub fits_fault : VersionFitsFault end.outcome (failed_in rounds) end.version

-- One side for each turn, from that of the link handed in to the last one. Over a quiet link each is that of the link handed in.
pub record AreSidesOf (all : List Event) (quiet : Type 0) (first : Side) (sides : List Side) (last : Side) : Type 0 where
  pub one_each : length sides ≡ length (order_of all)
  pub later : AreLater first sides last
  pub one_side : quiet → All (λ (side : Side). side ≡ first) sides

-- One round for each turn, in which all this was received. The names of the cached pages determine what was asked for. The link records these
-- requests, where it records exchanges, and its count of faults increased with each exchange that failed.
pub record AreRoundsOf (base : BaseParts) (all : List Event) (cache : ℕ) (before after : LinkSeen) (rounds : List Round) (met : List Met) : Type 0 where
  pub one_each : length rounds ≡ length (order_of all)
  pub by_names : AskByNames cache [] rounds
  pub requests : TellsRequests before.recorded after.recorded base.authority (requests_in base (questions_in all) (order_of all) rounds)
  pub increased : RoseBy (failures_in rounds) before.faults after.faults
  pub met_in : AreMetIn (order_of all) rounds met

-- The events happened over a link that was honest with the first side, and leave it honest with the last one. Each client ended rightly by
-- what it received in its own turns, and by the last side.
pub record ArePlanned (base : BaseParts) (first : Side) (all : List Event) (cache : ℕ) (before after : LinkSeen) (ends : List ClientEnd) (met : List Met) : Type 0 where
  pub last : Side
  pub leaves : LeavesHonest base first last before after
  pub sides : List Side
  pub sides_are : AreSidesOf all (before.quiet base) first sides last
  pub rounds : List Round
  pub rounds_are : AreRoundsOf base all cache before after rounds met
  pub clients : (place : ℕ) (query : Query) (end : ClientEnd) → slice_get (questions_in all) place ≡ Some query → slice_get ends place ≡ Some end
      → EndsAt last query (rounds_of (place + 1) (order_of all) rounds) (sides_of (place + 1) (order_of all) sides) end

-- The text is the clients' blocks. Over any link each client ended by the replies to its own exchanges. Over an honest link, also one whose
-- side grows, each ended rightly. There each reply that is recorded is that of the publisher's side at its exchange.
pub record IsPlanned (base : BaseParts) (all : List Event) (cache : ℕ) (before after : LinkSeen) (text : List ℕ) (ends : List ClientEnd) : Type 0 where
  pub text_is : text ≡ clients_text_of 1 ends
  pub one_each : length ends ≡ length (questions_in all)
  pub caused : AreCaused base all cache before.recorded after.recorded before.faults after.faults ends
  pub clear : before.clear → after.clear
  pub not_fallen : before.faults ≤ after.faults
  pub right : (first : Side) → IsHonestWith before base first → ArePlanned base first all cache before after ends caused.met
  pub replies : (first : Side) → IsHonestWith before base first → TellsAlong first before after
