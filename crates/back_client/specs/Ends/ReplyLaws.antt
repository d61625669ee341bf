-- That a question for the latest departure ends by the replies that it got, and in one way.
use Rattle.std.specs.Prelude.{◌≡◌, ℕ, ◌+◌, ◌-◌, List, Option}
use Rattle.connection_uri.specs.Base.{BaseParts}
use Rattle.lc_model.specs.Journey.{leaves_at}
use Rattle.lc_world.specs.Link.{LinkSeen}
use Rattle.page_client.specs.declared.outcome.Outcome.{Outcome}
use Rattle.page_client.specs.declared.outcome.Outcome.TheVariants as outcomes
use Rattle.back_scan.specs.declared.arrive_query.ArriveQuery.{ArriveQuery}
use Rattle.back_client.specs.Arrives.{Arrives}
use Rattle.back_client.specs.declared.outcome.ArriveEnd.{ArriveEnd}
use Rattle.convoy.specs.Replies.Laws.{AreAroundLast, replies_of}
use Rattle.convoy.specs.Replies.Made.{Made}
use Rattle.back_client.specs.Ends.Asked.{HasAskedLatest}

-- whatever the link is, a question for the latest departure ends by the replies that it got
abbrev pub LatestByItsReplies : {X : Type 0} → (X → LinkSeen) → Type 0
LatestByItsReplies {X} seen =
    (base : BaseParts) (asked : ArriveQuery) (before after : X) (end : ArriveEnd) → Arrives seen base asked before after end
    → HasAskedLatest base asked (seen before) (seen after) end.version end.exchanges end.outcome

-- The outcomes say the same. Their journeys leave at one moment, or there is none, or they have one refusal, or the link failed, or one reply
-- fails one test.
abbrev pub SayOneLatest : Outcome → Outcome → Type 0
SayOneLatest (outcomes.Found a) (outcomes.Found b) = leaves_at a ≡ leaves_at b
SayOneLatest outcomes.NoJourney outcomes.NoJourney = Unit {0}
SayOneLatest (outcomes.Refused a) (outcomes.Refused b) = a ≡ b
SayOneLatest (outcomes.LinkFault before_a after_a) (outcomes.LinkFault before_b after_b) = Unit {0}
SayOneLatest (outcomes.PeerWrong reply_a fault_a) (outcomes.PeerWrong reply_b fault_b) = (reply_a ≡ reply_b) × (fault_a ≡ fault_b)
SayOneLatest a b = ⊥

-- both wanted the same in each exchange, the version is one and so is the number of exchanges, and the outcomes say the same
pub record IsOneLatest (made_a made_b : List Made) (version_a version_b : Option ℕ) (exchanges_a exchanges_b : ℕ) (a b : Outcome) : Type 0 where
  pub made : made_a ≡ made_b
  pub version : version_a ≡ version_b
  pub exchanges : exchanges_a ≡ exchanges_b
  pub outcome : SayOneLatest a b

-- By equal replies one question ended in one way. X and Y are the types of the links.
abbrev pub OneLatestByReplies : {X Y : Type 0} → (X → LinkSeen) → (Y → LinkSeen) → Type 0
OneLatestByReplies {X} {Y} seen saw =
    (base : BaseParts) (asked : ArriveQuery) (before after : X) (other later : Y) (version_a version_b : Option ℕ) (exchanges_a exchanges_b : ℕ) (a b : Outcome)
    → (x : HasAskedLatest base asked (seen before) (seen after) version_a exchanges_a a) (y : HasAskedLatest base asked (saw other) (saw later) version_b exchanges_b b)
    → replies_of x.made ≡ replies_of y.made → IsOneLatest x.made y.made version_a version_b exchanges_a exchanges_b a b

-- the counts of a fault of the link are those around the last exchange of the question
abbrev pub LatestFaultsAreAroundLast : {X : Type 0} → (X → LinkSeen) → Type 0
LatestFaultsAreAroundLast {X} seen =
    (base : BaseParts) (asked : ArriveQuery) (before after : X) (version : Option ℕ) (exchanges low high : ℕ)
    → HasAskedLatest base asked (seen before) (seen after) version exchanges (outcomes.LinkFault low high)
    → AreAroundLast exchanges (seen before).faults (seen after).faults low high

-- a near value: shrunken counts, of which the second is less, are those of no fault
abbrev pub NoLatestFaultIsShrunken : {X : Type 0} → (X → LinkSeen) → Type 0
NoLatestFaultIsShrunken {X} seen =
    (base : BaseParts) (asked : ArriveQuery) (before after : X) (version : Option ℕ) (exchanges low high : ℕ)
    → HasAskedLatest base asked (seen before) (seen after) version exchanges (outcomes.LinkFault low high)
    → HasAskedLatest base asked (seen before) (seen after) version exchanges (outcomes.LinkFault (low + 1) (high - 1)) → ⊥
