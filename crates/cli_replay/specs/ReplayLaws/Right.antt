-- How the clients of an event sequence end rightly by the publisher's side, where the replies come as it gave them.
use Rattle.std.specs.Prelude.{◌≡◌, ℕ, ◌+◌, List, [], ◌∷◌, ◌++◌, Option, Some, length, slice_get}
use Rattle.convoy.specs.ClientLaws.Fits.{HasEnded}
use Rattle.convoy.specs.ClientLaws.Wants.{AreWants}
use Rattle.convoy.specs.Replies.Met.{Met}
use Rattle.cli_words.specs.declared.command.Publishing.{Publishing}
use Rattle.convoy.specs.Agreement.Names.{AskByNames, Round, failures_in}
use Rattle.convoy.specs.Agreement.Requests.{TellsRequests}
use Rattle.lc_io.specs.Counts.{RoseBy}
use Rattle.lc_model.specs.declared.query.Query.{Query}
use Rattle.lc_world.specs.declared.entry.Entry.{Entry}
use Rattle.page_client.specs.declared.outcome.Outcome.{Outcome}
use Rattle.page_client.specs.declared.outcome.Outcome.TheVariants as outcomes
use Rattle.page_client.specs.declared.want.Want.{Want}
use Rattle.page_client.specs.declared.want.Want.TheVariants as wants
use Rattle.lc_world.specs.Sides.Side.{Side}
use Rattle.timetable.specs.declared.timetable.Timetable.{Timetable}
use Rattle.version_store.specs.Store.{Stored}
use Rattle.cli_ask.specs.Client.{shown_of}
use Rattle.cli_ask.specs.Publishing.{side_with, store_of}
use Rattle.cli_ask.specs.declared.end.ClientEnd.{ClientEnd}
use Rattle.cli_replay.specs.ReplayLaws.Events.{questions_in}
use Rattle.cli_replay.specs.ReplayLaws.History.{AreMetIn}
use Rattle.cli_replay.specs.ReplayLaws.Replied.{TellsOwn}
use Rattle.cli_replay.specs.ReplayLaws.Turns.{EndByFailure, TakeOneEach, asked_in, failed_in, given_in, order_of, requests_in, rounds_of}
use Rattle.cli_replay.specs.ReplayLaws.Versions.{HasHeard, IsMeant}
use Rattle.cli_replay.specs.declared.replay_laws.event.Event.{Event}

-- one exchange failed: that for what comes after all that was received, at the time gate where that is nothing
pub record FailsAtNext (side : Side) (query : Query) (version : Option ℕ) (given failed : List Want) : Type 0 where
  pub want : Want
  pub one : failed ≡ want ∷ []
  pub gate : given ≡ [] → want ≡ wants.Gate
  pub next : (at : ℕ) (all : List Want) → version ≡ Some at → AreWants side at query all → (more : List Want) × (all ≡ given ++ want ∷ more)

-- what was asked for in vain by a client that ended so
abbrev pub FailsWith : Side → Query → Option ℕ → List Want → List Want → Outcome → Type 0
FailsWith side query version given failed (outcomes.Found journey) = failed ≡ []
FailsWith side query version given failed outcomes.NoJourney = failed ≡ []
FailsWith side query version given failed (outcomes.Refused fault) = failed ≡ []
FailsWith side query version given failed (outcomes.LinkFault before after) = FailsAtNext side query version given failed
FailsWith side query version given failed (outcomes.PeerWrong reply fault) = failed ≡ []

-- The client of the question ended in these turns. It received exactly its wants, and has a best journey by the timetable of its version, or
-- no journey where there is none. The version is the one that it meant when it first asked. It received one want a turn, and none after an
-- exchange that failed. Each exchange of its own is counted.
pub record EndsSo (made : Timetable) (publishing : Publishing) (all : List Event) (side : Side) (client : ℕ) (query : Query) (rounds : List Round) (end : ClientEnd) : Type 0 where
  pub ended : HasEnded side (shown_of query end) (given_in rounds) (Some end.outcome)
  pub meant : IsMeant made publishing all client query (given_in rounds) end.version
  pub exchanges : end.exchanges ≡ length (asked_in rounds)
  pub each : TakeOneEach rounds
  pub at_last : EndByFailure rounds
  pub failed : FailsWith side query end.version (given_in rounds) (failed_in rounds) end.outcome

-- The event sequence was played rightly. The lines are those of its messages. In each turn the names of the cached pages determine what was asked
-- for. The link records it where it records exchanges, with the publisher's own replies. Its count of faults increased by the exchanges that
-- failed. It is what the clients received, and each client ended rightly.
pub record ArePlayedRight (made : Timetable) (publishing : Publishing) (all : List Event) (cache : ℕ) (recorded now_recorded : Option (List Entry)) (faults now_faults : ℕ)
    (lines : List ℕ) (ends : List ClientEnd) (met : List Met) : Type 0 where
  pub store : Stored
  pub heard : HasHeard all (store_of made publishing.base_moment) store lines
  pub rounds : List Round
  pub one_each : length rounds ≡ length (order_of all)
  pub by_names : AskByNames cache [] rounds
  pub tells : TellsRequests recorded now_recorded publishing.base.authority (requests_in publishing.base (questions_in all) (order_of all) rounds)
  pub replied : TellsOwn made publishing all rounds recorded now_recorded
  pub rose : RoseBy (failures_in rounds) faults now_faults
  pub met_in : AreMetIn (order_of all) rounds met
  pub clients : (place : ℕ) (query : Query) (end : ClientEnd) → slice_get (questions_in all) place ≡ Some query → slice_get ends place ≡ Some end
      → EndsSo made publishing all (side_with made publishing store) (place + 1) query (rounds_of (place + 1) (order_of all) rounds) end
