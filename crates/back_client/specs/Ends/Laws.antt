-- That a question for the latest departure ends rightly, and that its end is one.
use Rattle.std.specs.Prelude.{◌≡◌, ℕ, List, Option, Some, None}
use Rattle.lc_io.specs.Counts.{Rose}
use Rattle.lc_model.specs.declared.journey.Journey.{Journey}
use Rattle.lc_model.specs.declared.page.PageName.{PageName}
use Rattle.lc_model.specs.declared.query.Query.{Query}
use Rattle.connection_uri.specs.Base.{BaseParts}
use Rattle.lc_world.specs.Link.{IsHonestWith, IsQuietWith, LinkSeen}
use Rattle.page_client.specs.Shown.{IsRefusal, answered}
use Rattle.lc_world.specs.Sides.Side.{Side}
use Rattle.convoy.specs.ClientLaws.Stated.{version_at}
use Rattle.convoy.specs.ClientLaws.Laws.{Stays}
use Rattle.convoy.specs.ClientLaws.Wants.{HasEnds}
use Rattle.back_scan.specs.Forward.{forward_query}
use Rattle.back_scan.specs.declared.arrive_query.ArriveQuery.{ArriveQuery}
use Rattle.back_client.specs.Arrives.{Arrives, AsksGate}
use Rattle.back_client.specs.declared.outcome.ArriveEnd.{ArriveEnd}
use Rattle.back_client.specs.Ends.Latest.{LatestAt, NeededBackAt, departure_of}
use Rattle.back_client.specs.Ends.Right.{EndsWithLatest, IsRight}

-- over an honest link a question for the latest departure ends rightly
abbrev pub LatestEndsRight : {X : Type 0} → (X → LinkSeen) → Type 0
LatestEndsRight {X} seen =
    (side : Side) (base : BaseParts) (asked : ArriveQuery) (before after : X) (end : ArriveEnd) → IsHonestWith (seen before) base side → Arrives seen base asked before after end
    → IsRight seen base asked side before after end

-- The time gate was asked, and replied. Then the version is the one that the known moment means at the side which this exchange left,
-- whatever the link records.
abbrev pub NamedAtGate : {X : Type 0} → (X → LinkSeen) → Type 0
NamedAtGate {X} seen =
    (side at : Side) (base : BaseParts) (asked : ArriveQuery) (before after : X) (end : ArriveEnd) (reply : List ℕ) → IsHonestWith (seen before) base side → (gate : AsksGate seen base asked before after end)
    → gate.got ≡ Some reply → IsHonestWith (seen gate.after) base at → end.version ≡ Some (version_at at asked.known)

-- The question has a horizon in range and different stops, which the stops document has. The count of the link did not increase. Then the end
-- is a latest journey, or that there is none.
abbrev pub LatestIsFound : {X : Type 0} → (X → LinkSeen) → Type 0
LatestIsFound {X} seen =
    (side : Side) (base : BaseParts) (asked : ArriveQuery) (before after : X) (end : ArriveEnd) → IsHonestWith (seen before) base side → IsRefusal (forward_query asked) None
    → HasEnds side.doc (forward_query asked) → ¬ Rose (seen before).faults (seen after).faults → Arrives seen base asked before after end
    → (answer : Option Journey) × (end.outcome ≡ answered answer) × EndsWithLatest seen base asked side before after end answer

-- two ends name one version, after as many exchanges, and their answers leave at one moment
pub record EndAlike (a b : ArriveEnd) (first second : Option Journey) : Type 0 where
  pub version : a.version ≡ b.version
  pub exchanges : a.exchanges ≡ b.exchanges
  pub departure : departure_of first ≡ departure_of second

-- over quiet links with one side two right ends with answers are alike
abbrev pub OneLatestEnd : {X Y : Type 0} → (X → LinkSeen) → (Y → LinkSeen) → Type 0
OneLatestEnd {X} {Y} seen seen_too =
    (side : Side) (base : BaseParts) (asked : ArriveQuery) (before after : X) (start left : Y) (a b : ArriveEnd) (first second : Option Journey) → IsQuietWith (seen before) base side
    → IsQuietWith (seen_too start) base side → IsRight seen base asked side before after a → IsRight seen_too base asked side start left b → a.outcome ≡ answered first
    → b.outcome ≡ answered second → EndAlike a b first second

-- the latest answers at a version leave at one moment, or none is a journey
abbrev pub OneDepartureAt : Type 0
OneDepartureAt =
    (side : Side) (version : ℕ) (query : Query) (a b : Option Journey) → LatestAt side version query a → LatestAt side version query b
    → departure_of a ≡ departure_of b

-- the needed pages are one list
abbrev pub OneListOfNeededBackAt : Type 0
OneListOfNeededBackAt =
    (side : Side) (version : ℕ) (query : Query) (a b : List PageName) → NeededBackAt side version query a → NeededBackAt side version query b → a ≡ b

-- a latest answer stays one
abbrev pub LatestStays : Type 0
LatestStays = (query : Query) (answer : Option Journey) → Stays (λ side version. LatestAt side version query answer)

-- the names of the needed pages stay
abbrev pub NeededBackStays : Type 0
NeededBackStays = (query : Query) (names : List PageName) → Stays (λ side version. NeededBackAt side version query names)
