-- What the replies of a publisher's side say to a client. The time gate's says the page to which it sends, the others the stops
-- document and the pages.
use Rattle.std.specs.Prelude.{◌≡◌, ℕ, true, List, Option, None, Ok}
use Rattle.lc_model.specs.declared.page.PageName.{PageName}
use Rattle.lc_model.specs.declared.query.Query.{Query}
use Rattle.connection_uri.specs.Page.{gate_target_of, page_target_of, stops_target_of}
use Rattle.lc_model.specs.Versions.History.{moments_of}
use Rattle.lc_model.specs.Versions.Named.{version_named}
use Rattle.page_client.specs.Gate.{IsGateReply}
use Rattle.page_client.specs.Page.{IsPageReply}
use Rattle.page_client.specs.Request.{Asks}
use Rattle.page_client.specs.Stops.{IsStopsReply}
use Rattle.page_json.specs.Sound.{IsSoundName, IsSoundPage}
use Rattle.page_json.specs.declared.page.Page.{Page}
use Rattle.lc_world.specs.Sides.Reply.{IsReply}
use Rattle.lc_world.specs.Sides.Response.{IsPageOf}
use Rattle.lc_world.specs.Sides.Short.{StandsUnder}
use Rattle.lc_world.specs.Sides.Side.{Side, has_version}

-- the bytes are the side's reply to a GET of this target by one who knows up to this moment
pub record IsStatedTo (side : Side) (target : List ℕ) (known : Option ℕ) (reply : List ℕ) : Type 0 where
  pub request : List ℕ
  pub asks : Asks side.base target known request
  pub replies : IsReply side request reply

-- the version of the side that is meant by a known moment
abbrev pub version_at : Side → Option ℕ → ℕ
version_at side known = version_named side.base_moment (moments_of side.history) known

-- the page to which the time gate sends a question: the one for the moment when it leaves, at the version of its known moment
pub record IsGatePage (side : Side) (query : Query) (name : PageName) : Type 0 where
  pub page : Page
  pub is_page : IsPageOf side (version_at side query.known) query.leave page
  pub is : name ≡ page.name
  pub sound : IsSoundName name

-- what the time gate's reply says
pub record IsSentTo (side : Side) (query : Query) (reply : List ℕ) : Type 0 where
  pub name : PageName
  pub is_gate_page : IsGatePage side query name
  pub said : IsGateReply side.base query.leave reply (Ok name)

-- the time gate's reply says the page for the moment at which the question leaves
abbrev pub GateIsStated : Type 0
GateIsStated =
    (side : Side) (query : Query) (reply : List ℕ) → StandsUnder side.base side
    → IsStatedTo side (gate_target_of side.base query.leave) query.known reply → IsSentTo side query reply

-- the reply for the stops document says it
abbrev pub StopsAreStated : Type 0
StopsAreStated =
    (side : Side) (reply : List ℕ) → StandsUnder side.base side → IsStatedTo side (stops_target_of side.base) None reply
    → IsStopsReply reply (Ok side.doc)

-- the reply for a page that is asked for by its name says that page, as its types have it
abbrev pub PageIsStated : Type 0
PageIsStated =
    (side : Side) (page : Page) (reply : List ℕ) → StandsUnder side.base side → has_version side page.name.version ≡ true
    → IsSoundName page.name → IsPageOf side page.name.version page.name.departs page
    → IsStatedTo side (page_target_of side.base page.name) None reply
    → IsPageReply side.base page.name reply (Ok page) × IsSoundPage page
