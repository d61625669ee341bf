-- How a client of the fewest rides ends rightly over an honest link. X is the type of the link, and `seen` what is promised of it.
use Rattle.std.specs.Prelude.{◌≡◌, ℕ, true, List, [], ◌∷◌, ◌++◌, length, Option, Some, None}
use Rattle.lc_model.specs.Stop.{HasStop}
use Rattle.lc_model.specs.declared.journey.Journey.{Journey}
use Rattle.lc_model.specs.declared.page.PageName.{PageName}
use Rattle.lc_model.specs.declared.query.Query.{Query}
use Rattle.connection_uri.specs.Base.{BaseParts}
use Rattle.lc_world.specs.Link.{LinkSeen}
use Rattle.page_client.specs.Shown.{IsRefusal}
use Rattle.page_client.specs.declared.fault.QueryFault.{QueryFault}
use Rattle.page_client.specs.declared.fault.QueryFault.TheVariants.{HorizonRange, SameStop, UnknownFrom, UnknownTo}
use Rattle.page_client.specs.declared.outcome.Outcome.{Outcome}
use Rattle.page_client.specs.declared.outcome.Outcome.TheVariants as outcomes
use Rattle.page_client.specs.declared.want.Want.{Want}
use Rattle.page_client.specs.declared.want.Want.TheVariants as wants
use Rattle.lc_world.specs.Sides.Side.{Side, has_version}
use Rattle.convoy.specs.ClientLaws.Stated.{version_at}
use Rattle.convoy.specs.ClientLaws.Answered.{NeededAt}
use Rattle.convoy.specs.ClientLaws.Wants.{AreWants, HasEnds, wants_of}
use Rattle.convoy.specs.Agreement.Leaves.{LeavesHonest, RoseWithin}
use Rattle.convoy.specs.Agreement.Requests.{TellsAsked}
use Rattle.rounds_client.specs.Ends.Version.{FewestAt}
use Rattle.rounds_client.specs.declared.ending.FewestEnd.{FewestEnd}

-- The version is the one that the known moment means at the side which the exchange with the time gate left. Up to there nothing else was
-- asked for.
pub record IsNamedByGate {X : Type 0} (seen : X → LinkSeen) (base : BaseParts) (query : Query) (side left : Side) (before after : X) (version : ℕ) : Type 0 where
  pub link : X
  pub at : Side
  pub first : LeavesHonest base side at (seen before) (seen link)
  pub recorded : TellsAsked (seen before).recorded (seen link).recorded base query (wants.Gate ∷ [])
  pub is : version ≡ version_at at query.known
  pub behind : LeavesHonest base at left (seen link) (seen after)

-- a version, if there is one, was named so
abbrev pub IsNamed : {X : Type 0} → (X → LinkSeen) → BaseParts → Query → Side → Side → X → X → Option ℕ → Type 0
IsNamed seen base query side left before after None = Unit {0}
IsNamed seen base query side left before after (Some version) = IsNamedByGate seen base query side left before after version

-- The question was answered at the version: of all best journeys this is one of the fewest rides, or there is no journey. The time gate, the
-- stops document and the needed pages were asked for.
pub record HasFewest (side : Side) (query : Query) (version : Option ℕ) (asked : List Want) (answer : Option Journey) : Type 0 where
  pub accepted : IsRefusal query None
  pub ends : HasEnds side.doc query
  pub number : ℕ
  pub at_version : version ≡ Some number
  pub of_side : has_version side number ≡ true
  pub is_fewest : FewestAt side number query answer
  pub names : List PageName
  pub are_needed : NeededAt side number query names
  pub asked_are : asked ≡ wants_of names

-- the question was refused at once, and nothing was asked for
pub record IsRefusedAtOnce (query : Query) (version : Option ℕ) (asked : List Want) (fault : QueryFault) : Type 0 where
  pub deserved : IsRefusal query (Some fault)
  pub no_version : version ≡ None
  pub asked_are : asked ≡ []

-- or since the stops document lacks the stop where it begins
pub record LacksFrom (side : Side) (query : Query) (version : Option ℕ) (asked : List Want) : Type 0 where
  pub accepted : IsRefusal query None
  pub number : ℕ
  pub at_version : version ≡ Some number
  pub no_from : HasStop side.doc.stops query.from → ⊥
  pub asked_are : asked ≡ wants_of []

-- or the one where it ends
pub record LacksTo (side : Side) (query : Query) (version : Option ℕ) (asked : List Want) : Type 0 where
  pub accepted : IsRefusal query None
  pub number : ℕ
  pub at_version : version ≡ Some number
  pub from : HasStop side.doc.stops query.from
  pub no_to : HasStop side.doc.stops query.to → ⊥
  pub asked_are : asked ≡ wants_of []

-- a refusal was deserved
abbrev pub IsRefused : Side → Query → Option ℕ → List Want → QueryFault → Type 0
IsRefused side query version asked HorizonRange = IsRefusedAtOnce query version asked HorizonRange
IsRefused side query version asked SameStop = IsRefusedAtOnce query version asked SameStop
IsRefused side query version asked UnknownFrom = LacksFrom side query version asked
IsRefused side query version asked UnknownTo = LacksTo side query version asked

-- what was asked for is a front of what the question wants at the version, and without one it is the time gate alone
abbrev pub IsFront : Side → Query → List Want → Option ℕ → Type 0
IsFront side query asked None = asked ≡ wants.Gate ∷ []
IsFront side query asked (Some version) = (all : List Want) → AreWants side version query all → (more : List Want) × (all ≡ asked ++ more)

-- the last exchange failed, and the count of the link increased from the one to the other
pub record HasFailed (side : Side) (query : Query) (version : Option ℕ) (asked : List Want) (before after low high : ℕ) : Type 0 where
  pub accepted : IsRefusal query None
  pub front : IsFront side query asked version
  pub rose : RoseWithin before after low high

-- The outcome is right at the side that is left. It is an answer of the fewest rides, or a deserved refusal, or comes from a failure of the
-- link. No reply failed a test.
abbrev pub EndsAt : Side → Query → Option ℕ → List Want → ℕ → ℕ → Outcome → Type 0
EndsAt side query version asked before after (outcomes.Found journey) = HasFewest side query version asked (Some journey)
EndsAt side query version asked before after outcomes.NoJourney = HasFewest side query version asked None
EndsAt side query version asked before after (outcomes.Refused fault) = IsRefused side query version asked fault
EndsAt side query version asked before after (outcomes.LinkFault low high) = HasFailed side query version asked before after low high
EndsAt side query version asked before after (outcomes.PeerWrong reply fault) = ⊥

-- What a right end is where the link was honest with this side. The link is honest with the side that is left, and recorded what was asked
-- for, and nothing else. Each exchange is counted.
pub record IsRight {X : Type 0} (seen : X → LinkSeen) (base : BaseParts) (query : Query) (side : Side) (before after : X) (end : FewestEnd) : Type 0 where
  pub left : Side
  pub honest : LeavesHonest base side left (seen before) (seen after)
  pub asked : List Want
  pub recorded : TellsAsked (seen before).recorded (seen after).recorded base query asked
  pub count : end.exchanges ≡ length asked
  pub named : IsNamed seen base query side left before after end.version
  pub ends : EndsAt left query end.version asked (seen before).faults (seen after).faults end.outcome

-- an end with an answer: of the fewest rides at the version that the time gate named, after the needed pages and two exchanges more
pub record EndsWithFewest {X : Type 0} (seen : X → LinkSeen) (base : BaseParts) (query : Query) (side : Side) (before after : X) (end : FewestEnd) (answer : Option Journey) : Type 0 where
  pub left : Side
  pub honest : LeavesHonest base side left (seen before) (seen after)
  pub version : ℕ
  pub version_is : end.version ≡ Some version
  pub named : IsNamedByGate seen base query side left before after version
  pub is_fewest : FewestAt left version query answer
  pub names : List PageName
  pub are_needed : NeededAt left version query names
  pub recorded : TellsAsked (seen before).recorded (seen after).recorded base query (wants_of names)
  pub count : end.exchanges ≡ length (wants_of names)
