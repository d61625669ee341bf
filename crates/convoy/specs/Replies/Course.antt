-- Which want a client has reached by the replies that it got, whoever gave them.
use Rattle.std.specs.Prelude.{◌≡◌, ℕ, false, List, [], ◌∷◌, ◌++◌, Option, Some, None, Ok}
use Rattle.std.specs.List.{flat_map}
use Rattle.lc_model.specs.Stop.{HasStop}
use Rattle.lc_model.specs.declared.connection.Connection.{Connection}
use Rattle.lc_model.specs.declared.doc.StopsDoc.{StopsDoc}
use Rattle.lc_model.specs.declared.page.PageName.{PageName}
use Rattle.lc_model.specs.declared.query.Query.{Query}
use Rattle.connection_uri.specs.Base.{BaseParts}
use Rattle.page_json.specs.declared.page.Page.{Page}
use Rattle.page_client.specs.Course.{IsOver}
use Rattle.page_client.specs.Gate.{IsGateReply}
use Rattle.page_client.specs.Page.{IsPageReply}
use Rattle.page_client.specs.Shown.{is_off}
use Rattle.page_client.specs.Stops.{IsStopsReply}
use Rattle.page_client.specs.declared.want.Want.{Want}
use Rattle.page_client.specs.declared.want.Want.TheVariants as wants
use Rattle.convoy.specs.Replies.Made.{Made, reply_to}

-- the connections of pages, one page after the other
abbrev pub connections_in : List Page → List Connection
connections_in pages = flat_map (λ (page : Page). page.list) pages

-- the reply to what was asked for by this name says the page
pub record Reads (base : BaseParts) (name : PageName) (made : Made) (page : Page) : Type 0 where
  pub reply : List ℕ
  pub is : made ≡ reply_to (wants.Page name) reply
  pub says : IsPageReply base name reply (Ok page)

-- The replies say these pages, one after the other. The first has this name, if one is named, and each other one is linked by the one before.
abbrev pub ReadsPages : BaseParts → Option PageName → List Made → List Page → Type 0
ReadsPages base link [] [] = Unit {0}
ReadsPages base link [] (page ∷ pages) = ⊥
ReadsPages base link (made ∷ more) [] = ⊥
ReadsPages base None (made ∷ more) (page ∷ pages) = ⊥
ReadsPages base (Some name) (made ∷ more) (page ∷ pages) = Reads base name made page × ReadsPages base page.next more pages

-- the link after pages: that of the last one, or this one where there is no page
abbrev pub link_behind : Option PageName → List Page → Option PageName
link_behind link [] = link
link_behind link (page ∷ pages) = link_behind page.next pages

-- the time gate was right to send to the first of these pages, if there is one
abbrev pub IsSentRight : ℕ → List Page → Type 0
IsSentRight leave [] = Unit {0}
IsSentRight leave (first ∷ rest) = is_off leave first ≡ false

-- after each of these pages a later one could be better
abbrev pub GoesOnAfterEach : Query → StopsDoc → List Page → Type 0
GoesOnAfterEach query doc pages =
    (front : List Page) (page : Page) (more : List Page) → pages ≡ front ++ page ∷ more → IsOver query doc (connections_in front ++ page.list) page → ⊥

-- it wants the time gate's reply: it has made no exchange, and has no version
pub record IsAtGate (version : Option ℕ) (made : List Made) : Type 0 where
  pub no_version : version ≡ None
  pub nothing_made : made ≡ []

-- it wants the stops document: the time gate's reply sends it to a page, whose version it has
pub record IsSentOn (base : BaseParts) (query : Query) (version : Option ℕ) (made : List Made) : Type 0 where
  pub gate : List ℕ
  pub first : PageName
  pub sends : IsGateReply base query.leave gate (Ok first)
  pub at_version : version ≡ Some first.version
  pub was_made : made ≡ reply_to wants.Gate gate ∷ []

-- It wants the page of this name. The time gate's reply sends it to a page, whose version it has. The stops document has both ends of the
-- question. It read the pages from that one up to this one, along their links, the first rightly. It was over after none of them.
pub record IsReading (base : BaseParts) (query : Query) (version : Option ℕ) (made : List Made) (name : PageName) : Type 0 where
  pub gate : List ℕ
  pub first : PageName
  pub sends : IsGateReply base query.leave gate (Ok first)
  pub at_version : version ≡ Some first.version
  pub stops : List ℕ
  pub doc : StopsDoc
  pub says_stops : IsStopsReply stops (Ok doc)
  pub from : HasStop doc.stops query.from
  pub to : HasStop doc.stops query.to
  pub for_pages : List Made
  pub pages : List Page
  pub reads : ReadsPages base (Some first) for_pages pages
  pub links : link_behind (Some first) pages ≡ Some name
  pub right : IsSentRight query.leave pages
  pub goes_on : GoesOnAfterEach query doc pages
  pub was_made : made ≡ reply_to wants.Gate gate ∷ reply_to wants.Stops stops ∷ for_pages

-- a client of the question wants this, after these exchanges
abbrev pub WantsAfter : BaseParts → Query → Option ℕ → List Made → Want → Type 0
WantsAfter base query version made wants.Gate = IsAtGate version made
WantsAfter base query version made wants.Stops = IsSentOn base query version made
WantsAfter base query version made (wants.Page name) = IsReading base query version made name
WantsAfter base query version made wants.Finished = ⊥
