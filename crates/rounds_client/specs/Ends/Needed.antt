-- The best journeys in the pages that a question needs: they have every connection of each, so that one of the fewest rides there is one
-- of the fewest rides at all.
use Rattle.std.specs.Prelude.{◌↔◌, List, Option, ℕ}
use Rattle.lc_model.specs.Connection.{NoneArrivesEarly}
use Rattle.lc_model.specs.Journey.{IsBest}
use Rattle.lc_model.specs.Leg.{IsChain, IsLegOf, IsListBest, in_time}
use Rattle.lc_model.specs.declared.connection.Connection.{Connection}
use Rattle.lc_model.specs.declared.doc.StopsDoc.{StopsDoc}
use Rattle.lc_model.specs.declared.journey.Journey.{Journey}
use Rattle.lc_model.specs.declared.query.Query.{Query}
use Rattle.lc_model.specs.Versions.Pages.{CutPage}
use Rattle.convoy.specs.PageLaws.Chain.{ArePagesOf, connections_along}
use Rattle.convoy.specs.PageLaws.Needed.{needed_pages}
use Rattle.change_rounds.specs.Fewest.{IsFewestChain}

-- each best chain of all connections is a chain of the needed pages
abbrev pub BestAreInNeeded : Type 0
BestAreInNeeded =
    (list : List Connection) (first : CutPage) (rest : List CutPage) (query : Query) (doc : StopsDoc) (best : Option ℕ) (journey : Journey) →
    ArePagesOf list first rest → NoneArrivesEarly list → IsListBest query doc list best → IsBest (IsLegOf (in_time query list)) query doc journey →
    IsChain query doc (connections_along (needed_pages first rest query best)) journey

-- one of the fewest rides in the needed pages is one of the fewest rides of all connections, and the other way round; where there is no
-- chain in the one, there is none in the other
abbrev pub FewestAreInNeeded : Type 0
FewestAreInNeeded =
    (list : List Connection) (first : CutPage) (rest : List CutPage) (query : Query) (doc : StopsDoc) (best : Option ℕ) (journey : Option Journey) →
    ArePagesOf list first rest → NoneArrivesEarly list → IsListBest query doc list best →
    (IsFewestChain query doc (connections_along (needed_pages first rest query best)) journey ↔ IsFewestChain query doc list journey)
