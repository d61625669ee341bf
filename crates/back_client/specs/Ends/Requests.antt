-- The requests of a question for the latest departure, one after the other.
use Rattle.std.specs.Prelude.{◌≡◌, ◌⊎◌, ℕ, List, [], ◌∷◌, ◌++◌, map, Option, Some, None}
use Rattle.lc_model.specs.declared.page.PageName.{PageName}
use Rattle.connection_uri.specs.Base.{BaseParts}
use Rattle.connection_uri.specs.Page.{gate_target_of, page_target_of, stops_target_of}
use Rattle.http_text.specs.RequestText.{request_text_of}
use Rattle.lc_world.specs.Sides.Side.{Side}
use Rattle.convoy.specs.ClientLaws.Wants.{HasEnds}
use Rattle.back_scan.specs.Forward.{forward_query}
use Rattle.back_scan.specs.declared.arrive_query.ArriveQuery.{ArriveQuery}
use Rattle.back_client.specs.Ends.Latest.{NeededBackAt}

-- the request to the time gate
abbrev pub gate_request : BaseParts → ArriveQuery → List ℕ
gate_request base asked = request_text_of base.authority (gate_target_of base asked.arrive) asked.known

-- the request for the stops document
abbrev pub stops_request : BaseParts → List ℕ
stops_request base = request_text_of base.authority (stops_target_of base) None

-- the request for the page of this name
abbrev pub page_request : BaseParts → PageName → List ℕ
page_request base name = request_text_of base.authority (page_target_of base name) None

-- the requests to the time gate, for the stops document, and then for the pages of these names
abbrev pub requests_of : BaseParts → ArriveQuery → List PageName → List (List ℕ)
requests_of base asked names = gate_request base asked ∷ stops_request base ∷ map (page_request base) names

-- the stops document lacks an end of the question, and no page is wanted
pub record WantsNoPage (side : Side) (asked : ArriveQuery) (names : List PageName) : Type 0 where
  pub lacks : HasEnds side.doc (forward_query asked) → ⊥
  pub none : names ≡ []

-- the stops document has both ends, and the needed pages are wanted
pub record WantsNeeded (side : Side) (version : ℕ) (asked : ArriveQuery) (names : List PageName) : Type 0 where
  pub ends : HasEnds side.doc (forward_query asked)
  pub are_needed : NeededBackAt side version (forward_query asked) names

-- the names of the pages that a question wants at a version
abbrev pub AreWanted : Side → ℕ → ArriveQuery → List PageName → Type 0
AreWanted side version asked names = WantsNoPage side asked names ⊎ WantsNeeded side version asked names

-- the requests are a front of those of the question at the version, and without one they are that to the time gate alone
abbrev pub IsFront : BaseParts → Side → ArriveQuery → List (List ℕ) → Option ℕ → Type 0
IsFront base side asked requests None = requests ≡ gate_request base asked ∷ []
IsFront base side asked requests (Some version) = (names : List PageName) → AreWanted side version asked names → (more : List (List ℕ)) × (requests_of base asked names ≡ requests ++ more)
