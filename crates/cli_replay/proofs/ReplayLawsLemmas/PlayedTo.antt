-- How far an event sequence was played rightly: what holds after the events that are done.
use Rattle.std.proofs.Common.{◌≡◌, ◌⊎◌, ℕ, ◌+◌, List, [], ◌++◌, Option, Some, None, length}
use Rattle.std.specs.List.{All, slice_get}
use Rattle.std.specs.Option.{IsSome}
use Rattle.cli_words.specs.declared.command.Publishing.{Publishing}
use Rattle.convoy.specs.State.{ConvoyState}
use Rattle.convoy.specs.declared.member.Member.{Member}
use Rattle.convoy.specs.Agreement.Agreement.{FitsConvoy}
use Rattle.convoy.specs.Agreement.Names.{AskByNames, Round, failures_in, names_behind, names_of}
use Rattle.convoy.specs.Agreement.Requests.{TellsRequests}
use Rattle.lc_io.specs.Counts.{RoseBy}
use Rattle.lc_model.specs.declared.query.Query.{Query}
use Rattle.lc_world.specs.Link.{IsQuietWith, LinkSeen}
use Rattle.page_client.specs.Client.{shown}
use Rattle.page_client.specs.declared.outcome.Outcome.{Outcome}
use Rattle.page_client.specs.declared.want.Want.{Want}
use Rattle.lc_world.specs.Sides.Side.{Side}
use Rattle.timetable.specs.declared.timetable.Timetable.{Timetable}
use Rattle.version_store.specs.Store.{Stored}
use Rattle.cli_ask.specs.Publishing.{side_with, store_of}
use Rattle.cli_replay.specs.ReplayLaws.Events.{questions_in, turns_in}
use Rattle.cli_replay.specs.ReplayLaws.Right.{FailsWith}
use Rattle.cli_replay.specs.ReplayLaws.Turns.{EndByFailure, IsIdle, IsOne, asked_in, failed_in, given_in, requests_in, rounds_of}
use Rattle.cli_replay.specs.ReplayLaws.Versions.{HasHeard, IsMeant}
use Rattle.cli_replay.specs.declared.replay_laws.event.Event.{Event}

-- what a client asked for in vain so far
abbrev pub HasFailedSo : Side → Query → Option ℕ → List Want → List Want → Option Outcome → Type 0
HasFailedSo side query version given failed None = failed ≡ []
HasFailedSo side query version given failed (Some outcome) = FailsWith side query version given failed outcome

-- it received one want in each turn up to its end, and none after it, nor after an exchange that failed
pub record HasMet (rounds : List Round) (outcome : Option Outcome) : Type 0 where
  pub ones : List Round
  pub idle : List Round
  pub are : rounds ≡ ones ++ idle
  pub each : All IsOne ones
  pub none : All IsIdle idle
  pub ended : (idle ≡ []) ⊎ IsSome outcome
  pub at_last : EndByFailure rounds

-- the client of the question, with this number, after these turns of its own
pub record IsMemberSo (made : Timetable) (publishing : Publishing) (done : List Event) (side : Side) (client : ℕ) (query : Query) (member : Member) (given : List Want) (rounds : List Round) : Type 0 where
  pub question : (shown member.client).query ≡ query
  pub given_is : given ≡ given_in rounds
  pub meant : IsMeant made publishing done client query (given_in rounds) (shown member.client).version
  pub count : member.exchanges ≡ length (asked_in rounds)
  pub met : HasMet rounds (shown member.client).outcome
  pub failed : HasFailedSo side query (shown member.client).version (given_in rounds) (failed_in rounds) (shown member.client).outcome

-- the convoy and the link after what is done, in these rounds
pub record IsPlayedTo (made : Timetable) (publishing : Publishing) (cache : ℕ) (done : List Event) (convoy : ConvoyState) (start now : LinkSeen) (lines : List ℕ) (rounds : List Round) : Type 0 where
  pub store : Stored
  pub heard : HasHeard done (store_of made publishing.base_moment) store lines
  pub quiet : IsQuietWith now publishing.base (side_with made publishing store)
  pub base : convoy.base ≡ publishing.base
  pub capacity : convoy.kept.capacity ≡ cache
  pub given : List (List Want)
  pub fits : FitsConvoy (side_with made publishing store) convoy given
  pub clients : length convoy.members ≡ length (questions_in done)
  pub one_each : length rounds ≡ length (turns_in done)
  pub by_names : AskByNames cache [] rounds
  pub names : names_of convoy.kept.pages ≡ names_behind cache [] rounds
  pub tells : TellsRequests start.recorded now.recorded publishing.base.authority (requests_in publishing.base (questions_in done) (turns_in done) rounds)
  pub rose : RoseBy (failures_in rounds) start.faults now.faults
  pub members : (place : ℕ) (query : Query) (member : Member) (own : List Want) → slice_get (questions_in done) place ≡ Some query
      → slice_get convoy.members place ≡ Some member → slice_get given place ≡ Some own
      → IsMemberSo made publishing done (side_with made publishing store) (place + 1) query member own (rounds_of (place + 1) (turns_in done) rounds)
