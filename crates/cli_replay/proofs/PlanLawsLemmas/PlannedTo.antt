-- How far clients planned rightly: what holds after the turns that are done.
use Rattle.std.proofs.Common.{◌≡◌, ℕ, ◌+◌, List, [], Option, Some, None, length}
use Rattle.std.specs.List.{All, slice_get}
use Rattle.connection_uri.specs.Base.{BaseParts}
use Rattle.convoy.specs.State.{ConvoyState}
use Rattle.convoy.specs.declared.member.Member.{Member}
use Rattle.convoy.specs.Agreement.Agreement.{FitsConvoy}
use Rattle.convoy.specs.Agreement.Leaves.{LeavesHonest}
use Rattle.convoy.specs.Agreement.Names.{AskByNames, Round, failures_in, names_behind, names_of}
use Rattle.convoy.specs.Agreement.Requests.{TellsRequests}
use Rattle.cli_replay.specs.PlanLaws.Sides.{AreLater, sides_of, version_after}
use Rattle.cli_replay.proofs.ReplayLawsLemmas.PlayedTo.{HasFailedSo}
use Rattle.cli_replay.specs.ReplayLaws.Turns.{asked_in, failed_in, given_in, requests_in, rounds_of}
use Rattle.lc_io.specs.Counts.{RoseBy}
use Rattle.lc_model.specs.declared.query.Query.{Query}
use Rattle.lc_world.specs.Link.{LinkSeen}
use Rattle.page_client.specs.Client.{shown}
use Rattle.page_client.specs.declared.outcome.Outcome.{Outcome}
use Rattle.page_client.specs.declared.want.Want.{Want}
use Rattle.lc_world.specs.Sides.Side.{Side}

-- The client of the question, after these turns of its own, at these sides. `Turns` is what is said of its turns and its outcome.
pub record IsMemberAt (Turns : List Round → Option Outcome → Type 0) (side : Side) (query : Query) (member : Member) (own : List Want) (rounds : List Round) (sides : List Side) : Type 0 where
  pub question : (shown member.client).query ≡ query
  pub given_is : own ≡ given_in rounds
  pub version : (shown member.client).version ≡ version_after query.known rounds sides None
  pub count : member.exchanges ≡ length (asked_in rounds)
  pub turns : Turns rounds (shown member.client).outcome
  pub failed : HasFailedSo side query (shown member.client).version (given_in rounds) (failed_in rounds) (shown member.client).outcome

-- the convoy and the link after turns in this order, which were these rounds, at these sides
pub record IsPlannedTo (Turns : ℕ → List Round → Option Outcome → Type 0) (base : BaseParts) (first : Side) (cache : ℕ) (questions : List Query) (order : List ℕ) (convoy : ConvoyState)
    (start now : LinkSeen) (rounds : List Round) (sides : List Side) : Type 0 where
  pub last : Side
  pub leaves : LeavesHonest base first last start now
  pub later : AreLater first sides last
  pub one_side : start.quiet base → All (λ (side : Side). side ≡ first) sides
  pub base_is : convoy.base ≡ base
  pub capacity : convoy.kept.capacity ≡ cache
  pub given : List (List Want)
  pub fits : FitsConvoy last convoy given
  pub clients : length convoy.members ≡ length questions
  pub one_each : length rounds ≡ length order
  pub sides_each : length sides ≡ length order
  pub by_names : AskByNames cache [] rounds
  pub names : names_of convoy.kept.pages ≡ names_behind cache [] rounds
  pub requests : TellsRequests start.recorded now.recorded base.authority (requests_in base questions order rounds)
  pub increased : RoseBy (failures_in rounds) start.faults now.faults
  pub members : (place : ℕ) (query : Query) (member : Member) (own : List Want) → slice_get questions place ≡ Some query → slice_get convoy.members place ≡ Some member
      → slice_get given place ≡ Some own
      → IsMemberAt (Turns place) last query member own (rounds_of (place + 1) order rounds) (sides_of (place + 1) order sides)
