-- The chain of pages. Each one links to the next one and to the one before it (Linked Connections 1.0). Along these
-- links they are the connections in their order. The laws hold for all lawful cuts.
use Rattle.std.specs.Prelude.{◌≡◌, ℕ, ◌<◌, ◌≤◌, ◌⊎◌, List, [], ◌∷◌, ◌++◌, map, reverse, filter, nat_le, nat_lt, Some, None, if◌then◌else◌}
use Rattle.std.specs.List.{All, AllPairs, Contains, flat_map}
use Rattle.lc_model.specs.Connection.{InDepartureOrder}
use Rattle.lc_model.specs.declared.connection.Connection.{Connection}
use Rattle.lc_model.specs.Versions.Cuts.{AreCuts, first_of}
use Rattle.lc_model.specs.Versions.Pages.{CutPage, departing, departures_of, page_for, pages_of}

-- the connections of pages, page by page
abbrev pub connections_along : List CutPage → List Connection
connections_along pages = flat_map (λ (p : CutPage). p.connections) pages

-- the names of pages
abbrev pub names_of : List CutPage → List ℕ
names_of pages = map (λ (p : CutPage). p.departs) pages

-- of this page and those after it, the one for the moment and, along the links to the next one, all after that
abbrev pub along_next : CutPage → List CutPage → ℕ → List CutPage
along_next page [] moment = page ∷ []
along_next page (next ∷ rest) moment = if nat_le next.departs moment then along_next next rest moment else page ∷ next ∷ rest

-- of the same pages, those before the one for the moment, along the links to the previous one: the nearest comes first
abbrev pub along_previous : CutPage → List CutPage → ℕ → List CutPage
along_previous page [] moment = []
along_previous page (next ∷ rest) moment = if nat_le next.departs moment then along_previous next rest moment ++ page ∷ [] else []

-- connections in departure order, and their pages by some lawful cuts: the first one and the others
pub record ArePagesOf (list : List Connection) (first : CutPage) (rest : List CutPage) : Type 0 where
  pub in_order : InDepartureOrder list
  pub cuts : List ℕ
  pub lawful : AreCuts (departures_of list) cuts
  pub are : pages_of cuts list ≡ first ∷ rest

-- there is always a first page
abbrev pub NeverEmpty : Type 0
NeverEmpty = (list : List Connection) (cuts : List ℕ) → (first : CutPage) × (rest : List CutPage) × (pages_of cuts list ≡ first ∷ rest)

-- the connections of the pages, page by page, are the list
abbrev pub AreTheList : Type 0
AreTheList = (list : List Connection) (first : CutPage) (rest : List CutPage) → ArePagesOf list first rest → connections_along (first ∷ rest) ≡ list

-- no page is empty but the one of an empty list, and each has the name of its first connection's departure
abbrev pub BeginOnTime : Type 0
BeginOnTime =
    (list : List Connection) (first : CutPage) (rest : List CutPage) → ArePagesOf list first rest →
    ((list ≡ []) × (first ≡ record { departs = 0; connections = [] }) × (rest ≡ []))
    ⊎ All (λ (p : CutPage). first_of (departures_of p.connections) ≡ Some p.departs) (first ∷ rest)

-- the names of the pages strictly increase
abbrev pub NamesRise : Type 0
NamesRise =
    (list : List Connection) (first : CutPage) (rest : List CutPage) → ArePagesOf list first rest →
    AllPairs (λ (p q : CutPage). p.departs < q.departs) (first ∷ rest)

-- no departure second is split: what is on a page departs before all that is on a later one
abbrev pub SecondsAreWhole : Type 0
SecondsAreWhole =
    (list : List Connection) (first : CutPage) (rest : List CutPage) → ArePagesOf list first rest →
    AllPairs (λ (p q : CutPage). All (λ (c : Connection). All (λ (d : Connection). c.dep < d.dep) q.connections) p.connections) (first ∷ rest)

-- The page for a moment is named at or before it, and no other page that is has a later name. Where none is, it is the
-- first one.
abbrev pub IsGreatestByThen : Type 0
IsGreatestByThen =
    (list : List Connection) (first : CutPage) (rest : List CutPage) (moment : ℕ) → ArePagesOf list first rest →
    let page = page_for first rest moment in
    Contains (first ∷ rest) page
    × (((page.departs ≤ moment) × All (λ (p : CutPage). p.departs ≤ moment → p.departs ≤ page.departs) (first ∷ rest))
    ⊎ ((page ≡ first) × All (λ (p : CutPage). moment < p.departs) (first ∷ rest)))

-- along the links to the next one the page for the moment comes first
abbrev pub IsWhereNextBegins : Type 0
IsWhereNextBegins =
    (list : List Connection) (first : CutPage) (rest : List CutPage) (moment : ℕ) → ArePagesOf list first rest →
    (more : List CutPage) × (along_next first rest moment ≡ page_for first rest moment ∷ more)

-- back along the links to the previous one and on along those to the next one are all pages
abbrev pub LinksPartPages : Type 0
LinksPartPages =
    (first : CutPage) (rest : List CutPage) (moment : ℕ) →
    reverse (along_previous first rest moment) ++ along_next first rest moment ≡ first ∷ rest

-- the pages along the links to the next one are the suffix of the list from the departure that names the page for the moment
abbrev pub NextAreTheSuffix : Type 0
NextAreTheSuffix =
    (list : List Connection) (first : CutPage) (rest : List CutPage) (moment : ℕ) → ArePagesOf list first rest →
    connections_along (along_next first rest moment) ≡ departing (page_for first rest moment).departs None list

-- those along the links to the previous one, in reverse, are the rest of the list
abbrev pub BackAreTheRest : Type 0
BackAreTheRest =
    (list : List Connection) (first : CutPage) (rest : List CutPage) (moment : ℕ) → ArePagesOf list first rest →
    let page = page_for first rest moment in
    (connections_along (reverse (along_previous first rest moment)) ≡ departing 0 (Some page.departs) list)
    × (list ≡ departing 0 (Some page.departs) list ++ departing page.departs None list)

-- what departs at the moment or later is along the links to the next one, and what comes before departs earlier
abbrev pub LateAreAlongNext : Type 0
LateAreAlongNext =
    (list : List Connection) (first : CutPage) (rest : List CutPage) (moment : ℕ) → ArePagesOf list first rest →
    All (λ (c : Connection). moment ≤ c.dep → Contains (connections_along (along_next first rest moment)) c) list
    × All (λ (c : Connection). c.dep < moment) (connections_along (reverse (along_previous first rest moment)))

-- A page that is asked for by its name, as links do, is found. Along the next links it and those after it follow, along
-- the previous links those before it.
abbrev pub FoundByName : Type 0
FoundByName =
    (list : List Connection) (first : CutPage) (rest before : List CutPage) (page : CutPage) (behind : List CutPage) → ArePagesOf list first rest →
    first ∷ rest ≡ before ++ page ∷ behind →
    (page_for first rest page.departs ≡ page) × (along_next first rest page.departs ≡ page ∷ behind) × (along_previous first rest page.departs ≡ reverse before)

-- The cuts after a page's name are the names of the pages after it. Those before its name are the names of the pages before it.
abbrev pub CutsNameNeighbours : Type 0
CutsNameNeighbours =
    (list : List Connection) (first : CutPage) (rest before : List CutPage) (page : CutPage) (behind : List CutPage) (pages : ArePagesOf list first rest) →
    first ∷ rest ≡ before ++ page ∷ behind →
    (filter (nat_lt page.departs) pages.cuts ≡ names_of behind) × (filter (λ (cut : ℕ). nat_lt cut page.departs) pages.cuts ≡ names_of before)
