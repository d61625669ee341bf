-- The pages that a client took, one after the other, and what it does after each.
use Rattle.std.specs.Prelude.{◌≡◌, ◌≢◌, ℕ, ◌<◌, ◌⊎◌, List, ◌++◌, Option, Some, None}
use Rattle.std.specs.List.{All}
use Rattle.lc_model.specs.Connection.{InDepartureOrder, last_departure}
use Rattle.lc_model.specs.Leg.{IsListBest}
use Rattle.lc_model.specs.declared.connection.Connection.{Connection}
use Rattle.lc_model.specs.declared.doc.StopsDoc.{StopsDoc}
use Rattle.lc_model.specs.declared.page.PageName.{PageName}
use Rattle.lc_model.specs.declared.query.Query.{Query}
use Rattle.csa_scan.specs.Done.{IsDone}
use Rattle.csa_scan.specs.StandsFor.{IsBestChain, StandsFor}
use Rattle.csa_scan.specs.declared.scan.Scan.{Scan}
use Rattle.page_json.specs.declared.page.Page.{Page}
use Rattle.page_client.specs.Shown.{HasHorizon}
use Rattle.page_client.specs.declared.phase.Phase.{Phase}
use Rattle.page_client.specs.declared.phase.Phase.TheVariants as phases
use Rattle.page_client.specs.declared.step.Step.{Step}
use Rattle.page_client.specs.declared.step.Step.TheVariants.{Last, Next}

-- The scan took these connections, with the changes of the document. They are in departure order, and before the page of this
-- name.
pub record HasScanned (query : Query) (doc : StopsDoc) (taken : List Connection) (name : PageName) (scan : Scan) : Type 0 where
  pub stands : StandsFor scan query doc taken
  pub in_order : InDepartureOrder taken
  pub before : All (λ (c : Connection). c.dep < name.departs) taken

-- No later page can be better. The page's last departure is at the least arrival of a chain of what was taken or later. Where
-- there is no chain, it is at the last second of the horizon.
pub record IsOver (query : Query) (doc : StopsDoc) (taken : List Connection) (page : Page) : Type 0 where
  pub last : ℕ
  pub is_last : last_departure page.list ≡ Some last
  pub best : Option ℕ
  pub is_best : IsListBest query doc taken best
  pub by_last : IsDone query best last

-- What comes after the page, where these were taken, the page's connections too. It is the page to which it links, if there is one and
-- a later one could be better, and else the answer.
abbrev pub Follows : Query → StopsDoc → List Connection → Page → Step → Type 0
Follows query doc taken page (Next next) = (page.next ≡ Some next) × (IsOver query doc taken page → ⊥)
Follows query doc taken page (Last journey) = ((page.next ≡ None) ⊎ IsOver query doc taken page) × IsBestChain query doc taken journey

-- a client that reads pages has scanned some; later pages than the first depart after the moment at which the question leaves
pub record IsReading (query : Query) (gate : Option (List ℕ)) (scan : Option Scan) (name : PageName) : Type 0 where
  pub horizon : HasHorizon query
  pub doc : StopsDoc
  pub taken : List Connection
  pub has : Scan
  pub is : scan ≡ Some has
  pub scanned : HasScanned query doc taken name has
  pub later : gate ≡ None → query.leave < name.departs

-- one that waits for the stops document has the time gate's reply
pub record IsSent (query : Query) (gate : Option (List ℕ)) : Type 0 where
  pub horizon : HasHorizon query
  pub replied : gate ≢ None

-- what holds of a client in each phase
abbrev pub IsSound : Query → Option (List ℕ) → Option Scan → Phase → Type 0
IsSound query gate scan phases.Gate = HasHorizon query
IsSound query gate scan (phases.Stops first) = IsSent query gate
IsSound query gate scan (phases.Page name) = IsReading query gate scan name
IsSound query gate scan phases.Finished = Unit {0}

-- Whatever a scan stood for, it goes on by the page's connections where they follow it in departure order, and the step
-- follows. What was taken has a least arrival, or no chain.
abbrev pub TakesOn : Scan → Scan → Page → Step → Type 0
TakesOn old new page step =
    (query : Query) (doc : StopsDoc) (taken : List Connection) → InDepartureOrder (taken ++ page.list) → StandsFor old query doc taken →
    StandsFor new query doc (taken ++ page.list) × Follows query doc (taken ++ page.list) page step
    × ((best : Option ℕ) × IsListBest query doc (taken ++ page.list) best)
