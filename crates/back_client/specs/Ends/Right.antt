-- How a question for the latest departure ends rightly over an honest link. X is the type of the link, and `seen` what is promised of it.
use Rattle.std.specs.Prelude.{◌≡◌, ℕ, true, List, [], ◌∷◌, length, Option, Some, None}
use Rattle.lc_model.specs.Stop.{HasStop}
use Rattle.lc_model.specs.declared.journey.Journey.{Journey}
use Rattle.lc_model.specs.declared.page.PageName.{PageName}
use Rattle.connection_uri.specs.Base.{BaseParts}
use Rattle.lc_world.specs.Link.{LinkSeen}
use Rattle.page_client.specs.Shown.{IsRefusal}
use Rattle.page_client.specs.declared.fault.QueryFault.{QueryFault}
use Rattle.page_client.specs.declared.fault.QueryFault.TheVariants.{HorizonRange, SameStop, UnknownFrom, UnknownTo}
use Rattle.page_client.specs.declared.outcome.Outcome.{Outcome}
use Rattle.page_client.specs.declared.outcome.Outcome.TheVariants as outcomes
use Rattle.lc_world.specs.Sides.Side.{Side, has_version}
use Rattle.convoy.specs.ClientLaws.Stated.{version_at}
use Rattle.convoy.specs.ClientLaws.Wants.{HasEnds}
use Rattle.convoy.specs.Agreement.Leaves.{LeavesHonest, RoseWithin}
use Rattle.convoy.specs.Agreement.Requests.{TellsRequests}
use Rattle.back_scan.specs.Forward.{forward_query}
use Rattle.back_scan.specs.declared.arrive_query.ArriveQuery.{ArriveQuery}
use Rattle.back_client.specs.declared.outcome.ArriveEnd.{ArriveEnd}
use Rattle.back_client.specs.Ends.Latest.{LatestAt, NeededBackAt}
use Rattle.back_client.specs.Ends.Requests.{IsFront, gate_request, requests_of}

-- The version is the one that the known moment means at the side which the exchange with the time gate left. Up to there nothing else was
-- asked for.
pub record IsNamedByGate {X : Type 0} (seen : X → LinkSeen) (base : BaseParts) (asked : ArriveQuery) (side at left : Side) (before after : X) (version : ℕ) : Type 0 where
  pub link : X
  pub first : LeavesHonest base side at (seen before) (seen link)
  pub recorded : TellsRequests (seen before).recorded (seen link).recorded base.authority (gate_request base asked ∷ [])
  pub is : version ≡ version_at at asked.known
  pub behind : LeavesHonest base at left (seen link) (seen after)

-- A version, if there is one, was named so at this side. Without one the side is the one that is left.
abbrev pub IsNamed : {X : Type 0} → (X → LinkSeen) → BaseParts → ArriveQuery → Side → Side → Side → X → X → Option ℕ → Type 0
IsNamed seen base asked side at left before after None = at ≡ left
IsNamed seen base asked side at left before after (Some version) = IsNamedByGate seen base asked side at left before after version

-- The question was answered at the version of the side: this is a latest journey, or there is none. The time gate, the stops document and the
-- needed pages were asked for.
pub record HasLatest (base : BaseParts) (side : Side) (asked : ArriveQuery) (version : Option ℕ) (requests : List (List ℕ)) (answer : Option Journey) : Type 0 where
  pub accepted : IsRefusal (forward_query asked) None
  pub ends : HasEnds side.doc (forward_query asked)
  pub number : ℕ
  pub at_version : version ≡ Some number
  pub of_side : has_version side number ≡ true
  pub is_latest : LatestAt side number (forward_query asked) answer
  pub names : List PageName
  pub are_needed : NeededBackAt side number (forward_query asked) names
  pub requests_are : requests ≡ requests_of base asked names

-- the question was refused at once, and nothing was asked for
pub record IsRefusedAtOnce (asked : ArriveQuery) (version : Option ℕ) (requests : List (List ℕ)) (fault : QueryFault) : Type 0 where
  pub deserved : IsRefusal (forward_query asked) (Some fault)
  pub no_version : version ≡ None
  pub requests_are : requests ≡ []

-- or since the stops document lacks the stop where it begins
pub record LacksFrom (base : BaseParts) (side : Side) (asked : ArriveQuery) (version : Option ℕ) (requests : List (List ℕ)) : Type 0 where
  pub accepted : IsRefusal (forward_query asked) None
  pub number : ℕ
  pub at_version : version ≡ Some number
  pub no_from : HasStop side.doc.stops asked.from → ⊥
  pub requests_are : requests ≡ requests_of base asked []

-- or the one where it ends
pub record LacksTo (base : BaseParts) (side : Side) (asked : ArriveQuery) (version : Option ℕ) (requests : List (List ℕ)) : Type 0 where
  pub accepted : IsRefusal (forward_query asked) None
  pub number : ℕ
  pub at_version : version ≡ Some number
  pub from : HasStop side.doc.stops asked.from
  pub no_to : HasStop side.doc.stops asked.to → ⊥
  pub requests_are : requests ≡ requests_of base asked []

-- a refusal was deserved
abbrev pub IsRefused : BaseParts → Side → ArriveQuery → Option ℕ → List (List ℕ) → QueryFault → Type 0
IsRefused base side asked version requests HorizonRange = IsRefusedAtOnce asked version requests HorizonRange
IsRefused base side asked version requests SameStop = IsRefusedAtOnce asked version requests SameStop
IsRefused base side asked version requests UnknownFrom = LacksFrom base side asked version requests
IsRefused base side asked version requests UnknownTo = LacksTo base side asked version requests

-- the last exchange failed, and the count of the link increased from the one to the other
pub record HasFailed (base : BaseParts) (side : Side) (asked : ArriveQuery) (version : Option ℕ) (requests : List (List ℕ)) (before after low high : ℕ) : Type 0 where
  pub accepted : IsRefusal (forward_query asked) None
  pub front : IsFront base side asked requests version
  pub rose : RoseWithin before after low high

-- The outcome is right at the side where the version was named. It is an answer of a latest departure, or a deserved refusal, or comes from
-- a failure of the link. No reply failed a test.
abbrev pub EndsAt : BaseParts → Side → ArriveQuery → Option ℕ → List (List ℕ) → ℕ → ℕ → Outcome → Type 0
EndsAt base side asked version requests before after (outcomes.Found journey) = HasLatest base side asked version requests (Some journey)
EndsAt base side asked version requests before after outcomes.NoJourney = HasLatest base side asked version requests None
EndsAt base side asked version requests before after (outcomes.Refused fault) = IsRefused base side asked version requests fault
EndsAt base side asked version requests before after (outcomes.LinkFault low high) = HasFailed base side asked version requests before after low high
EndsAt base side asked version requests before after (outcomes.PeerWrong reply fault) = ⊥

-- What a right end is where the link was honest with this side. The link is honest with the side that is left, and recorded these requests,
-- and nothing else. Each exchange is counted. The outcome is right at the side that the exchange with the time gate left.
pub record IsRight {X : Type 0} (seen : X → LinkSeen) (base : BaseParts) (asked : ArriveQuery) (side : Side) (before after : X) (end : ArriveEnd) : Type 0 where
  pub left : Side
  pub honest : LeavesHonest base side left (seen before) (seen after)
  pub requests : List (List ℕ)
  pub recorded : TellsRequests (seen before).recorded (seen after).recorded base.authority requests
  pub count : end.exchanges ≡ length requests
  pub at : Side
  pub named : IsNamed seen base asked side at left before after end.version
  pub ends : EndsAt base at asked end.version requests (seen before).faults (seen after).faults end.outcome

-- an end with an answer: of the latest departure at the version that the time gate named, after the needed pages and two exchanges more
pub record EndsWithLatest {X : Type 0} (seen : X → LinkSeen) (base : BaseParts) (asked : ArriveQuery) (side : Side) (before after : X) (end : ArriveEnd) (answer : Option Journey) : Type 0 where
  pub left : Side
  pub honest : LeavesHonest base side left (seen before) (seen after)
  pub at : Side
  pub version : ℕ
  pub version_is : end.version ≡ Some version
  pub named : IsNamedByGate seen base asked side at left before after version
  pub is_latest : LatestAt at version (forward_query asked) answer
  pub names : List PageName
  pub are_needed : NeededBackAt at version (forward_query asked) names
  pub recorded : TellsRequests (seen before).recorded (seen after).recorded base.authority (requests_of base asked names)
  pub count : end.exchanges ≡ length (requests_of base asked names)
