-- The pages that a question needs, and a client that takes one page after the other and stops when it is done.
use Rattle.std.specs.Prelude.{◌≡◌, ℕ, ◌≤◌, ◌⊎◌, ◌↔◌, List, [], ◌∷◌, ◌++◌, Option, Some, None, Bool, false, nat_le, if◌then◌else◌}
use Rattle.lc_model.specs.Connection.{NoneArrivesEarly, last_departure}
use Rattle.lc_model.specs.Journey.{IsLeastArrival}
use Rattle.lc_model.specs.Leg.{IsListBest}
use Rattle.lc_model.specs.Ride.{IsRideAt}
use Rattle.lc_model.specs.declared.connection.Connection.{Connection}
use Rattle.lc_model.specs.declared.doc.StopsDoc.{StopsDoc}
use Rattle.lc_model.specs.declared.query.Query.{Query}
use Rattle.lc_model.specs.declared.ride.Ride.{Ride}
use Rattle.lc_model.specs.declared.run.Run.{Run}
use Rattle.lc_model.specs.Versions.Pages.{CutPage}
use Rattle.convoy.specs.PageLaws.Chain.{ArePagesOf, connections_along, names_of}
use Rattle.convoy.specs.PageLaws.Rides.{pages_on}
use Rattle.convoy.specs.PageLaws.Stop.{bound_of}

-- there is a last departure, and it is at the bound or later
abbrev pub reaches : ℕ → Option ℕ → Bool
reaches bound None = false
reaches bound (Some last) = nat_le bound last

-- of these pages those up to the first one whose last departure is at the bound or later, else all
abbrev pub up_to_bound : ℕ → List CutPage → List CutPage
up_to_bound bound [] = []
up_to_bound bound (page ∷ rest) = page ∷ (if reaches bound (last_departure page.connections) then [] else up_to_bound bound rest)

-- The pages that a question needs, from the one for the moment at which it leaves on. They go up to the first whose last departure
-- is at the least arrival of a journey or later. Where there is no journey, that is the last second of the horizon.
abbrev pub needed_pages : CutPage → List CutPage → Query → Option ℕ → List CutPage
needed_pages first rest query best = up_to_bound (bound_of query best) (pages_on first rest query)

-- their names
abbrev pub needed_names : CutPage → List CutPage → Query → Option ℕ → List ℕ
needed_names first rest query best = names_of (needed_pages first rest query best)

-- these are the needed pages, by the least arrival of a journey over these rides
pub record AreNeeded (IsRide : Ride → Type 0) (query : Query) (doc : StopsDoc) (first : CutPage) (rest needed : List CutPage) : Type 0 where
  pub best : Option ℕ
  pub is_best : IsLeastArrival IsRide query doc best
  pub are : needed ≡ needed_pages first rest query best

-- The last departure of the page that was taken last is at the least arrival of all that was taken, or later. Where that has no
-- chain, it is at the last second of the horizon.
pub record IsOver (query : Query) (doc : StopsDoc) (before : List CutPage) (page : CutPage) : Type 0 where
  pub best : Option ℕ
  pub is_best : IsListBest query doc (connections_along (before ++ page ∷ [])) best
  pub last : ℕ
  pub is_last : last_departure page.connections ≡ Some last
  pub by_last : bound_of query best ≤ last

-- The pages that a client takes of these, one after the other. The client goes on as long as it is not over and there is a next one.
pub record IsTakenUntilOver (query : Query) (doc : StopsDoc) (pages taken : List CutPage) : Type 0 where
  pub left : List CutPage
  pub are : pages ≡ taken ++ left
  pub goes_on : (before : List CutPage) (page next : CutPage) (behind : List CutPage) → taken ≡ before ++ page ∷ next ∷ behind → ¬ IsOver query doc before page
  pub ends : (left ≡ []) ⊎ ((before : List CutPage) × (page : CutPage) × (taken ≡ before ++ page ∷ []) × IsOver query doc before page)

-- the needed pages of a question are one list
abbrev pub OneListOfNeeded : Type 0
OneListOfNeeded =
    (runs : List Run) (query : Query) (doc : StopsDoc) (first : CutPage) (rest a b : List CutPage) → AreNeeded (IsRideAt runs) query doc first rest a →
    AreNeeded (IsRideAt runs) query doc first rest b → a ≡ b

-- What was taken shows as well as all connections whether one is over after a page.
abbrev pub OverIsOver : Type 0
OverIsOver =
    (list : List Connection) (first : CutPage) (rest : List CutPage) (query : Query) (doc : StopsDoc) (before : List CutPage) (page : CutPage) (left : List CutPage) (taken_best best : Option ℕ) (last : ℕ) →
    ArePagesOf list first rest → NoneArrivesEarly list → pages_on first rest query ≡ before ++ page ∷ left → last_departure page.connections ≡ Some last →
    IsListBest query doc (connections_along (before ++ page ∷ [])) taken_best → IsListBest query doc list best → (bound_of query taken_best ≤ last ↔ bound_of query best ≤ last)

-- A client that stops when it is over takes exactly the needed pages, no page more and none less. The least arrival of
-- what it took is that of all connections.
abbrev pub TakesTheNeeded : Type 0
TakesTheNeeded =
    (list : List Connection) (first : CutPage) (rest : List CutPage) (query : Query) (doc : StopsDoc) (taken : List CutPage) (best : Option ℕ) →
    ArePagesOf list first rest → NoneArrivesEarly list → IsListBest query doc list best → IsTakenUntilOver query doc (pages_on first rest query) taken →
    (taken ≡ needed_pages first rest query best) × IsListBest query doc (connections_along taken) best

-- such a client always stops at some page
abbrev pub AlwaysStops : Type 0
AlwaysStops =
    (list : List Connection) (first : CutPage) (rest : List CutPage) (query : Query) (doc : StopsDoc) (best : Option ℕ) →
    ArePagesOf list first rest → NoneArrivesEarly list → IsListBest query doc list best → IsTakenUntilOver query doc (pages_on first rest query) (needed_pages first rest query best)
