-- Where a client may stop: no later connection lets it arrive earlier.
use Rattle.std.specs.Prelude.{◌≡◌, ℕ, ◌<◌, ◌≤◌, List, [], ◌∷◌, ◌++◌, Option, Some, None, ◌↔◌}
use Rattle.std.specs.List.{All}
use Rattle.lc_model.specs.Connection.{InDepartureOrder, NoneArrivesEarly, last_departure}
use Rattle.lc_model.specs.Leg.{IsListBest}
use Rattle.lc_model.specs.Question.{latest_of}
use Rattle.lc_model.specs.declared.connection.Connection.{Connection}
use Rattle.lc_model.specs.declared.doc.StopsDoc.{StopsDoc}
use Rattle.lc_model.specs.declared.query.Query.{Query}
use Rattle.lc_model.specs.Versions.Pages.{CutPage}
use Rattle.convoy.specs.PageLaws.Chain.{ArePagesOf, connections_along}
use Rattle.convoy.specs.PageLaws.Rides.{pages_on}

-- the moment up to which connections matter: the least arrival, or the last second of the horizon where there is none
abbrev pub bound_of : Query → Option ℕ → ℕ
bound_of query None = latest_of query
bound_of query (Some arrival) = arrival

-- What was taken of a list is followed by later departures alone. The bound is no later than a moment after which they all
-- depart. Then the least arrival of what was taken is that of the whole list. Where the one has no chain, so has the other.
abbrev pub FrontMayBeAll : Type 0
FrontMayBeAll =
    (query : Query) (doc : StopsDoc) (taken left : List Connection) (best : Option ℕ) (last : ℕ) → InDepartureOrder (taken ++ left) → NoneArrivesEarly (taken ++ left) →
    All (λ (c : Connection). last < c.dep) left → bound_of query best ≤ last → (IsListBest query doc taken best ↔ IsListBest query doc (taken ++ left) best)

-- where what was taken has a chain, the others may depart at that moment too
abbrev pub FrontWithChainMayBeAll : Type 0
FrontWithChainMayBeAll =
    (query : Query) (doc : StopsDoc) (taken left : List Connection) (arrival last : ℕ) → InDepartureOrder (taken ++ left) → NoneArrivesEarly (taken ++ left) →
    All (λ (c : Connection). last ≤ c.dep) left → arrival ≤ last → IsListBest query doc taken (Some arrival) → IsListBest query doc (taken ++ left) (Some arrival)

-- Some pages were taken, from the one for the moment at which the question leaves on. What was taken
-- departs last at the bound or later. Then its least arrival is that of all connections, and where the one has no chain,
-- the other has none.
abbrev pub PagesMayBeAll : Type 0
PagesMayBeAll =
    (list : List Connection) (first : CutPage) (rest : List CutPage) (query : Query) (doc : StopsDoc) (taken left : List CutPage) (best : Option ℕ) (last : ℕ) →
    ArePagesOf list first rest → NoneArrivesEarly list → pages_on first rest query ≡ taken ++ left → last_departure (connections_along taken) ≡ Some last →
    bound_of query best ≤ last → (IsListBest query doc (connections_along taken) best ↔ IsListBest query doc list best)
