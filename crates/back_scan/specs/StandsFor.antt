-- What a scan stands for: a question, over a stops document, and the list of all connections that it took.
use Rattle.std.specs.Prelude.{◌≡◌, List, Option, Some, None, ◌++◌}
use Rattle.lc_model.specs.Connection.{InDepartureOrder}
use Rattle.lc_model.specs.Leg.{IsChain, IsLegOf, in_time}
use Rattle.lc_model.specs.declared.connection.Connection.{Connection}
use Rattle.lc_model.specs.declared.doc.StopsDoc.{StopsDoc}
use Rattle.lc_model.specs.declared.journey.Journey.{Journey}
use Rattle.lc_model.specs.declared.query.Query.{Query}
use Rattle.csa_scan.specs.Stands.{IsAsked}
use Rattle.csa_scan.specs.Walks.{AreWalks}
use Rattle.back_scan.specs.Kept.{kept_of}
use Rattle.back_scan.specs.Latest.{IsLatest}
use Rattle.back_scan.specs.Stands.{Stands}
use Rattle.back_scan.specs.declared.scan.BackScan.{BackScan}

-- the scan was begun for the question over the document, and took the connections of the list, the last ones first
pub record StandsFor (scan : BackScan) (query : Query) (doc : StopsDoc) (list : List Connection) : Type 0 where
  pub same_query : scan.query ≡ query
  pub same_doc : scan.doc ≡ doc
  pub asked : IsAsked query doc
  pub walks : AreWalks query doc scan.walks
  pub stands : Stands query doc scan.runs (kept_of scan.progress) (in_time query list)

-- whatever list the scan stood for, it stands for that list with the new one before it, where this is in departure order
abbrev pub GoesBackBy : BackScan → BackScan → List Connection → Type 0
GoesBackBy old new list =
    (query : Query) (doc : StopsDoc) (taken : List Connection) → InDepartureOrder (list ++ taken) → StandsFor old query doc taken → StandsFor new query doc (list ++ taken)

-- whatever list the scan stood for, it stands for still
abbrev pub StaysAsItWas : BackScan → BackScan → Type 0
StaysAsItWas old new = (query : Query) (doc : StopsDoc) (taken : List Connection) → StandsFor old query doc taken → StandsFor new query doc taken

-- the journey is a chain of the list, and none leaves later; or there is no chain
abbrev pub IsLatestChain : Query → StopsDoc → List Connection → Option Journey → Type 0
IsLatestChain query doc list None = (journey : Journey) → IsChain query doc list journey → ⊥
IsLatestChain query doc list (Some journey) = IsLatest (IsLegOf (in_time query list)) query doc journey
