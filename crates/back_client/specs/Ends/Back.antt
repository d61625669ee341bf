-- Which want a question for the latest departure has reached by the replies that it got, whoever gave them.
use Rattle.std.specs.Prelude.{◌≡◌, ℕ, false, List, [], ◌∷◌, ◌++◌, reverse, Option, Some, None, Ok}
use Rattle.std.proofs.Common.{lit≤}
use Rattle.std.proofs.Math.Nat.{le_trans}
use Rattle.lc_model.specs.Stop.{HasStop}
use Rattle.lc_model.specs.declared.connection.Connection.{Connection}
use Rattle.lc_model.specs.declared.doc.StopsDoc.{StopsDoc}
use Rattle.lc_model.specs.declared.page.PageName.{PageName}
use Rattle.lc_model.specs.declared.query.Query.{Query}
use Rattle.connection_uri.specs.Base.{BaseParts}
use Rattle.page_json.specs.declared.page.Page.{Page}
use Rattle.page_client.specs.Gate.{IsGateReply}
use Rattle.page_client.specs.Stops.{IsStopsReply}
use Rattle.page_client.specs.declared.want.Want.{Want}
use Rattle.page_client.specs.declared.want.Want.TheVariants as wants
use Rattle.back_scan.specs.Forward.{forward_query}
use Rattle.back_scan.specs.declared.arrive_query.ArriveQuery.{ArriveQuery}
use Rattle.back_client.specs.Steps.{IsOverAt}
use Rattle.back_client.specs.Wrong.{is_off, retreats}
use Rattle.back_client.specs.declared.page.Place.{Place}
use Rattle.back_client.specs.declared.page.Place.TheVariants.{After, First}
use Rattle.convoy.specs.Replies.Course.{IsAtGate, IsSentOn, Reads, connections_in}
use Rattle.convoy.specs.Replies.Made.{Made, reply_to}

-- the question that leaves at the moment of arrival, as the time gate is asked
abbrev pub gate_query : ArriveQuery → Query
gate_query asked = record {
  from = asked.from;
  to = asked.to;
  leave = asked.arrive;
  known = asked.known;
  horizon = asked.horizon;
  not_before = le_trans (lit≤ tt) asked.not_before;
  not_after = le_trans asked.not_after (lit≤ tt);
}

-- the connections of pages that were taken one after the other, each before the ones taken so far
abbrev pub connections_back : List Page → List Connection
connections_back pages = connections_in (reverse pages)

-- The replies say these pages, one after the other. The first has this name, if one is named, and each other one is the previous one of the
-- page before it in the list.
abbrev pub ReadsBack : BaseParts → Option PageName → List Made → List Page → Type 0
ReadsBack base link [] [] = Unit {0}
ReadsBack base link [] (page ∷ pages) = ⊥
ReadsBack base link (made ∷ more) [] = ⊥
ReadsBack base None (made ∷ more) (page ∷ pages) = ⊥
ReadsBack base (Some name) (made ∷ more) (page ∷ pages) = Reads base name made page × ReadsBack base page.previous more pages

-- the previous link after pages: that of the last one, or this one where there is no page
abbrev pub link_back : Option PageName → List Page → Option PageName
link_back link [] = link
link_back link (page ∷ pages) = link_back page.previous pages

-- where the page is that is asked for after pages: after the last one, or at this place where there is none
abbrev pub place_back : Place → List Page → Place
place_back place [] = place
place_back place (page ∷ pages) = place_back (After page.name.departs) pages

-- the time gate was right to send to the page, if it did
abbrev pub IsSentRight : ℕ → Place → Page → Type 0
IsSentRight arrive (First gate) page = is_off arrive page ≡ false
IsSentRight arrive (After name) page = Unit {0}

-- the page passes the tests beside those of its reply: where the time gate sent to it, it is the one for the moment, and it leads back
pub record PassesTests (arrive : ℕ) (place : Place) (page : Page) : Type 0 where
  pub sent : IsSentRight arrive place page
  pub back : retreats place page ≡ false

-- each of these pages passes them, from this place on
abbrev pub AllPassTests : ℕ → Place → List Page → Type 0
AllPassTests arrive place [] = Unit {0}
AllPassTests arrive place (page ∷ pages) = PassesTests arrive place page × AllPassTests arrive (After page.name.departs) pages

-- after each of these pages an earlier one could be better
abbrev pub GoesBackAfterEach : Query → StopsDoc → List Page → Type 0
GoesBackAfterEach query doc pages =
    (front : List Page) (page : Page) (more : List Page) → pages ≡ front ++ page ∷ more → IsOverAt query doc (page.list ++ connections_back front) page.name.departs → ⊥

-- It wants the page of this name. The time gate's reply sends it to a page, whose version it has. The stops document has both ends of the
-- question. It read the pages from that one back to this one, along their previous links, and each passes the tests. It was over after none
-- of them.
pub record IsReadingBack (base : BaseParts) (asked : ArriveQuery) (version : Option ℕ) (made : List Made) (name : PageName) : Type 0 where
  pub gate : List ℕ
  pub first : PageName
  pub sends : IsGateReply base asked.arrive gate (Ok first)
  pub at_version : version ≡ Some first.version
  pub stops : List ℕ
  pub doc : StopsDoc
  pub says_stops : IsStopsReply stops (Ok doc)
  pub from : HasStop doc.stops asked.from
  pub to : HasStop doc.stops asked.to
  pub for_pages : List Made
  pub pages : List Page
  pub reads : ReadsBack base (Some first) for_pages pages
  pub links : link_back (Some first) pages ≡ Some name
  pub right : AllPassTests asked.arrive (First gate) pages
  pub goes_on : GoesBackAfterEach (forward_query asked) doc pages
  pub was_made : made ≡ reply_to wants.Gate gate ∷ reply_to wants.Stops stops ∷ for_pages

-- the question wants this, after these exchanges
abbrev pub WantsBackAfter : BaseParts → ArriveQuery → Option ℕ → List Made → Want → Type 0
WantsBackAfter base asked version made wants.Gate = IsAtGate version made
WantsBackAfter base asked version made wants.Stops = IsSentOn base (gate_query asked) version made
WantsBackAfter base asked version made (wants.Page name) = IsReadingBack base asked version made name
WantsBackAfter base asked version made wants.Finished = ⊥
