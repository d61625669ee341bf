-- Pages and stops documents that a publisher may write.
use Rattle.std.specs.Prelude.{◌≡◌, ℕ, Option}
use Rattle.std.specs.Option.{IfSome}
use Rattle.lc_model.specs.Connection.{InDepartureOrder, NoneArrivesEarly}
use Rattle.lc_model.specs.Change.{InChangeOrder}
use Rattle.lc_model.specs.Stop.{InStopOrder}
use Rattle.lc_model.specs.StopsDoc.{NamesItsStops}
use Rattle.lc_model.specs.declared.doc.StopsDoc.{StopsDoc}
use Rattle.lc_model.specs.declared.page.PageName.{PageName}
use Rattle.page_json.specs.declared.page.Page.{Page}

-- a link, if there is one, leads to a page of this version
abbrev pub IsOfVersion : ℕ → Option PageName → Type 0
IsOfVersion version link = IfSome link (λ (name : PageName). name.version ≡ version)

-- the connections are strictly in departure order, none arrives early, and the links stay in the page's version
pub record IsValidPage (page : Page) : Type 0 where
  pub in_order : InDepartureOrder page.list
  pub forward : NoneArrivesEarly page.list
  pub next : IsOfVersion page.name.version page.next
  pub previous : IsOfVersion page.name.version page.previous

-- both lists are in strict order, and each parent and each end of a change is one of the stops
pub record IsValidDoc (doc : StopsDoc) : Type 0 where
  pub stops : InStopOrder doc.stops
  pub changes : InChangeOrder doc.changes
  pub closed : NamesItsStops doc.stops doc.changes
