-- The pages that a question for the latest departure needs.
use Rattle.std.specs.Prelude.{◌≡◌, ℕ, ◌≤◌, ◌⊎◌, List, [], ◌∷◌, ◌++◌, Option, reverse, nat_le, if◌then◌else◌, ◌↔◌}
use Rattle.lc_model.specs.Connection.{NoneArrivesEarly}
use Rattle.lc_model.specs.Question.{latest_of}
use Rattle.lc_model.specs.Ride.{IsRideAt}
use Rattle.lc_model.specs.declared.connection.Connection.{Connection}
use Rattle.lc_model.specs.declared.doc.StopsDoc.{StopsDoc}
use Rattle.lc_model.specs.declared.query.Query.{Query}
use Rattle.lc_model.specs.declared.ride.Ride.{Ride}
use Rattle.lc_model.specs.declared.run.Run.{Run}
use Rattle.lc_model.specs.Versions.Pages.{CutPage, page_for}
use Rattle.convoy.specs.PageLaws.Chain.{ArePagesOf, along_previous, connections_along, names_of}
use Rattle.back_scan.specs.Latest.{IsLatestDeparture, IsListLatest}
use Rattle.back_client.specs.Ends.Early.{bound_back}

-- the pages from the one for the last second at which a journey may arrive back: the nearest comes first
abbrev pub pages_back : CutPage → List CutPage → Query → List CutPage
pages_back first rest query = page_for first rest (latest_of query) ∷ along_previous first rest (latest_of query)

-- of these pages those up to the first one that is named at the bound or before it, else all
abbrev pub down_to_bound : ℕ → List CutPage → List CutPage
down_to_bound bound [] = []
down_to_bound bound (page ∷ rest) = page ∷ (if nat_le page.departs bound then [] else down_to_bound bound rest)

-- The pages that a question needs, from the one for the moment of arrival back. They go down to the first one that is named at the
-- latest departure or before it. Where there is no journey, that is the first second of the horizon.
abbrev pub needed_pages_back : CutPage → List CutPage → Query → Option ℕ → List CutPage
needed_pages_back first rest query latest = down_to_bound (bound_back query latest) (pages_back first rest query)

-- their names
abbrev pub needed_names_back : CutPage → List CutPage → Query → Option ℕ → List ℕ
needed_names_back first rest query latest = names_of (needed_pages_back first rest query latest)

-- these are the needed pages, by the latest departure of a journey over these rides
pub record AreNeededBack (IsRide : Ride → Type 0) (query : Query) (doc : StopsDoc) (first : CutPage) (rest needed : List CutPage) : Type 0 where
  pub latest : Option ℕ
  pub is_latest : IsLatestDeparture IsRide query doc latest
  pub are : needed ≡ needed_pages_back first rest query latest

-- the needed pages of a question are one list
abbrev pub OneListOfNeededBack : Type 0
OneListOfNeededBack =
    (runs : List Run) (query : Query) (doc : StopsDoc) (first : CutPage) (rest a b : List CutPage) → AreNeededBack (IsRideAt runs) query doc first rest a →
    AreNeededBack (IsRideAt runs) query doc first rest b → a ≡ b

-- the connections of pages that were taken back, in departure order
abbrev pub connections_back : List CutPage → List Connection
connections_back pages = connections_along (reverse pages)

-- Some pages were taken, from the one for the moment of arrival back. The last one is named at the bound or before it. Then the latest
-- departure of what was taken is that of all connections, and where the one has no chain, the other has none.
abbrev pub PagesBackMayBeAll : Type 0
PagesBackMayBeAll =
    (list : List Connection) (first : CutPage) (rest : List CutPage) (query : Query) (doc : StopsDoc) (before : List CutPage) (page : CutPage) (left : List CutPage) (latest : Option ℕ) →
    ArePagesOf list first rest → NoneArrivesEarly list → pages_back first rest query ≡ (before ++ page ∷ []) ++ left → page.departs ≤ bound_back query latest →
    (IsListLatest query doc (connections_back (before ++ page ∷ [])) latest ↔ IsListLatest query doc list latest)

-- The last page that was taken back is named at the latest departure of all that was taken, or before it. Where that has no chain, it is
-- named at the first second of the horizon or before it.
pub record IsOverBack (query : Query) (doc : StopsDoc) (before : List CutPage) (page : CutPage) : Type 0 where
  pub latest : Option ℕ
  pub is_latest : IsListLatest query doc (connections_back (before ++ page ∷ [])) latest
  pub by_name : page.departs ≤ bound_back query latest

-- The pages that a client takes of these, one after the other. The client goes on as long as it is not over and there is a further one.
pub record IsTakenBackUntilOver (query : Query) (doc : StopsDoc) (pages taken : List CutPage) : Type 0 where
  pub left : List CutPage
  pub are : pages ≡ taken ++ left
  pub goes_on : (before : List CutPage) (page next : CutPage) (behind : List CutPage) → taken ≡ before ++ page ∷ next ∷ behind → ¬ IsOverBack query doc before page
  pub ends : (left ≡ []) ⊎ ((before : List CutPage) × (page : CutPage) × (taken ≡ before ++ page ∷ []) × IsOverBack query doc before page)

-- A client that goes back until it is over takes exactly the needed pages, no page more and none less. The latest departure of what it
-- took is that of all connections.
abbrev pub TakesTheNeededBack : Type 0
TakesTheNeededBack =
    (list : List Connection) (first : CutPage) (rest : List CutPage) (query : Query) (doc : StopsDoc) (taken : List CutPage) (latest : Option ℕ) →
    ArePagesOf list first rest → NoneArrivesEarly list → IsListLatest query doc list latest → IsTakenBackUntilOver query doc (pages_back first rest query) taken →
    (taken ≡ needed_pages_back first rest query latest) × IsListLatest query doc (connections_back taken) latest
