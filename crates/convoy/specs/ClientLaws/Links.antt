-- The links of published pages. Along those to the next page, by their names, are all connections from the page on. Along those to the
-- previous one are all before it (Linked Connections 1.0).
use Rattle.std.specs.Prelude.{◌≡◌, ◌⊎◌, ℕ, List, [], ◌∷◌, reverse, Some, None}
use Rattle.std.specs.List.{flat_map}
use Rattle.lc_model.specs.declared.connection.Connection.{Connection}
use Rattle.lc_model.specs.Versions.Cuts.{first_of}
use Rattle.lc_model.specs.Versions.Pages.{departing, departures_of}
use Rattle.page_json.specs.declared.page.Page.{Page}
use Rattle.lc_world.specs.Sides.Response.{IsPageOf}
use Rattle.lc_world.specs.Sides.Side.{IsTimetableAt, IsValidSide, Side}

-- After a page of the side come these, one after the other. Each is the page of the side that the link to the next one names. The last
-- one has no such link.
abbrev pub AreAlongNext : Side → Page → List Page → Type 0
AreAlongNext side page [] = page.next ≡ None
AreAlongNext side page (next ∷ more) =
    (page.next ≡ Some next.name) × IsPageOf side next.name.version next.name.departs next × AreAlongNext side next more

-- and before it, by the links to the previous one, the nearest first
abbrev pub AreAlongPrevious : Side → Page → List Page → Type 0
AreAlongPrevious side page [] = page.previous ≡ None
AreAlongPrevious side page (previous ∷ more) =
    (page.previous ≡ Some previous.name) × IsPageOf side previous.name.version previous.name.departs previous × AreAlongPrevious side previous more

-- the connections of pages, page by page
abbrev pub connections_on : List Page → List Connection
connections_on pages = flat_map (λ (p : Page). p.list) pages

-- a page of a side at a version with a timetable, for some moment
pub record IsPageAt (side : Side) (version : ℕ) (list : List Connection) (page : Page) : Type 0 where
  pub valid : IsValidSide side
  pub timetable : IsTimetableAt side version list
  pub moment : ℕ
  pub is : IsPageOf side version moment page

-- along the links to the next page, however many there are, is all that departs from the page's name on
abbrev pub NextLinksHaveTheRest : Type 0
NextLinksHaveTheRest =
    (side : Side) (version : ℕ) (list : List Connection) (page : Page) (more : List Page) → IsPageAt side version list page → AreAlongNext side page more
    → connections_on (page ∷ more) ≡ departing page.name.departs None list

-- along the links to the previous one, in reverse, is all that departs before
abbrev pub PreviousLinksHaveTheFront : Type 0
PreviousLinksHaveTheFront =
    (side : Side) (version : ℕ) (list : List Connection) (page : Page) (more : List Page) → IsPageAt side version list page → AreAlongPrevious side page more
    → connections_on (reverse more) ≡ departing 0 (Some page.name.departs) list

-- the next links end
abbrev pub NextLinksEnd : Type 0
NextLinksEnd = (side : Side) (version : ℕ) (list : List Connection) (page : Page) → IsPageAt side version list page → (more : List Page) × AreAlongNext side page more

-- the previous links end too
abbrev pub PreviousLinksEnd : Type 0
PreviousLinksEnd = (side : Side) (version : ℕ) (list : List Connection) (page : Page) → IsPageAt side version list page → (more : List Page) × AreAlongPrevious side page more

-- no page of a side is empty where something departs: it begins with a connection of its name's moment
abbrev pub PagesBeginAtTheirNames : Type 0
PagesBeginAtTheirNames =
    (side : Side) (version : ℕ) (list : List Connection) (page : Page) → IsPageAt side version list page
    → (list ≡ []) ⊎ (first_of (departures_of page.list) ≡ Some page.name.departs)
