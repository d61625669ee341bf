-- What a side publishes of a version, and its pages by their names.
use Rattle.std.specs.Prelude.{◌≡◌, ℕ, true, List, ◌∷◌, None, option_map}
use Rattle.std.specs.List.{last_or}
use Rattle.lc_model.specs.Connection.{AreConnectionsOf}
use Rattle.lc_model.specs.declared.connection.Connection.{Connection}
use Rattle.lc_model.specs.declared.run.Run.{Run}
use Rattle.lc_model.specs.Versions.Cuts.{first_of}
use Rattle.lc_model.specs.Versions.History.{news_at}
use Rattle.lc_model.specs.Versions.Pages.{CutPage, departures_of, pages_of}
use Rattle.lc_model.specs.Versions.Timetable.{AreLiveRuns}
use Rattle.page_json.specs.Sound.{IsSoundPage}
use Rattle.page_json.specs.declared.page.Page.{Page}
use Rattle.convoy.specs.PageLaws.Chain.{names_of}
use Rattle.lc_world.specs.Sides.PageAt.{named}
use Rattle.lc_world.specs.Sides.Response.{IsPageOf}
use Rattle.lc_world.specs.Sides.Side.{Side, date_in, has_version}

-- these are the runs of a side at a version: those of its timetable with their live calls, and the further ones
abbrev pub AreLiveAt : Side → ℕ → List Run → Type 0
AreLiveAt side version live = AreLiveRuns side.runs side.doc.stops (news_at (date_in side.zone) side.history version) live

-- what is published of a version: its runs, their connections, and the pages of these, the first one and the others
pub record Published : Type 0 where
  pub live : List Run
  pub list : List Connection
  pub first : CutPage
  pub rest : List CutPage

-- The side publishes this of a version: the runs live then, their connections in departure order, and the pages of these by the
-- side's cuts.
pub record IsPublished (side : Side) (version : ℕ) (published : Published) : Type 0 where
  pub are_live : AreLiveAt side version published.live
  pub are_connections : AreConnectionsOf published.live published.list
  pub are_pages : pages_of (side.cuts_of (departures_of published.list)) published.list ≡ published.first ∷ published.rest

-- the page is the one of the side that has its name, as its types have it
pub record IsOwnPage (side : Side) (page : Page) : Type 0 where
  pub has : has_version side page.name.version ≡ true
  pub is_page : IsPageOf side page.name.version page.name.departs page
  pub sound : IsSoundPage page

-- a page of a version as it is sent, between earlier and later ones: linked to the last and to the first of these
abbrev pub between : ℕ → List CutPage → CutPage → List CutPage → Page
between version before page behind = record {
  name = named version page.departs;
  next = option_map (named version) (first_of (names_of behind));
  previous = option_map (named version) (last_or None (names_of before));
  list = page.connections;
}
