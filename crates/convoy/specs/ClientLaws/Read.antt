-- What a client reads of the replies of a side: what the side has, and never that a test is failed.
use Rattle.std.specs.Prelude.{◌≡◌, ℕ, true, List, None, Result, Ok}
use Rattle.lc_model.specs.declared.doc.StopsDoc.{StopsDoc}
use Rattle.lc_model.specs.declared.page.PageName.{PageName}
use Rattle.lc_model.specs.declared.query.Query.{Query}
use Rattle.connection_uri.specs.Page.{gate_target_of, page_target_of, stops_target_of}
use Rattle.page_client.specs.Gate.{IsGateReply}
use Rattle.page_client.specs.Page.{IsPageReply}
use Rattle.page_client.specs.Stops.{IsStopsReply}
use Rattle.page_client.specs.declared.fault.PeerFault.{PeerFault}
use Rattle.page_json.specs.Sound.{IsSoundName}
use Rattle.page_json.specs.declared.page.Page.{Page}
use Rattle.lc_world.specs.Sides.Response.{IsPageOf}
use Rattle.lc_world.specs.Sides.Short.{StandsUnder}
use Rattle.lc_world.specs.Sides.Side.{Side, has_version}
use Rattle.convoy.specs.ClientLaws.Stated.{IsGatePage, IsStatedTo}

-- of the time gate's reply the page for the moment at which the question leaves
abbrev pub GateIsRead : Type 0
GateIsRead =
    (side : Side) (query : Query) (reply : List ℕ) (read : Result PageName PeerFault) → StandsUnder side.base side
    → IsStatedTo side (gate_target_of side.base query.leave) query.known reply → IsGateReply side.base query.leave reply read
    → (name : PageName) × IsGatePage side query name × (read ≡ Ok name)

-- the stops document
abbrev pub StopsAreRead : Type 0
StopsAreRead =
    (side : Side) (reply : List ℕ) (read : Result StopsDoc PeerFault) → StandsUnder side.base side
    → IsStatedTo side (stops_target_of side.base) None reply → IsStopsReply reply read → read ≡ Ok side.doc

-- the page that is asked for by its name
abbrev pub PageIsRead : Type 0
PageIsRead =
    (side : Side) (page : Page) (reply : List ℕ) (read : Result Page PeerFault) → StandsUnder side.base side
    → has_version side page.name.version ≡ true → IsSoundName page.name → IsPageOf side page.name.version page.name.departs page
    → IsStatedTo side (page_target_of side.base page.name) None reply → IsPageReply side.base page.name reply read → read ≡ Ok page
