-- Rides along the links to the next page. The pages from the one for the moment of leaving on have the legs, the chains and
-- the least arrivals of all connections.
use Rattle.std.specs.Prelude.{ℕ, ◌≤◌, List, Option, None, ◌↔◌}
use Rattle.lc_model.specs.Connection.{InDepartureOrder, NoneArrivesEarly}
use Rattle.lc_model.specs.Leg.{IsChain, IsLegOf, IsListBest, in_time}
use Rattle.lc_model.specs.declared.connection.Connection.{Connection}
use Rattle.lc_model.specs.declared.doc.StopsDoc.{StopsDoc}
use Rattle.lc_model.specs.declared.journey.Journey.{Journey}
use Rattle.lc_model.specs.declared.query.Query.{Query}
use Rattle.lc_model.specs.declared.ride.Ride.{Ride}
use Rattle.lc_model.specs.Versions.Pages.{CutPage, departing}
use Rattle.convoy.specs.PageLaws.Chain.{ArePagesOf, along_next, connections_along}

-- the pages from the one on that is for the moment at which the question leaves
abbrev pub pages_on : CutPage → List CutPage → Query → List CutPage
pages_on first rest query = along_next first rest query.leave

-- the connections of these pages
abbrev pub connections_on : CutPage → List CutPage → Query → List Connection
connections_on first rest query = connections_along (pages_on first rest query)

-- a leg of all connections that departs no earlier than the question leaves is a leg of these pages
abbrev pub LegsStandThere : Type 0
LegsStandThere =
    (list : List Connection) (first : CutPage) (rest : List CutPage) (query : Query) (ride : Ride) → ArePagesOf list first rest → query.leave ≤ ride.dep →
    IsLegOf (in_time query list) ride → IsLegOf (in_time query (connections_on first rest query)) ride

-- each leg of these pages is a leg of all connections
abbrev pub LegsThereAreLegs : Type 0
LegsThereAreLegs =
    (list : List Connection) (first : CutPage) (rest : List CutPage) (query : Query) (ride : Ride) → ArePagesOf list first rest →
    IsLegOf (in_time query (connections_on first rest query)) ride → IsLegOf (in_time query list) ride

-- the chains of all connections are the chains of these pages
abbrev pub ChainsAreThere : Type 0
ChainsAreThere =
    (list : List Connection) (first : CutPage) (rest : List CutPage) (query : Query) (doc : StopsDoc) (journey : Journey) → ArePagesOf list first rest → NoneArrivesEarly list →
    (IsChain query doc list journey ↔ IsChain query doc (connections_on first rest query) journey)

-- the least arrival of all connections is that of these pages
abbrev pub LeastIsThere : Type 0
LeastIsThere =
    (list : List Connection) (first : CutPage) (rest : List CutPage) (query : Query) (doc : StopsDoc) (best : Option ℕ) → ArePagesOf list first rest → NoneArrivesEarly list →
    (IsListBest query doc list best ↔ IsListBest query doc (connections_on first rest query) best)

-- what departs before the question leaves may be left out of a list: its chains and its least arrival stay
abbrev pub EarlyMayGo : Type 0
EarlyMayGo =
    (list : List Connection) (query : Query) (doc : StopsDoc) (journey : Journey) → InDepartureOrder list → NoneArrivesEarly list →
    (IsChain query doc list journey ↔ IsChain query doc (departing query.leave None list) journey)

-- and the least arrival is the same without it
abbrev pub LeastWithoutEarly : Type 0
LeastWithoutEarly =
    (list : List Connection) (query : Query) (doc : StopsDoc) (best : Option ℕ) → InDepartureOrder list → NoneArrivesEarly list →
    (IsListBest query doc list best ↔ IsListBest query doc (departing query.leave None list) best)
