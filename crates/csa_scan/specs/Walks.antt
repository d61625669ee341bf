-- The walks before the first ride and after the last one, by the ends nearest to each stop.
use Rattle.lc_model.specs.declared.doc.StopsDoc.{StopsDoc}
use Rattle.lc_model.specs.declared.query.Query.{Query}
use Rattle.csa_scan.specs.Near.{AreNear}
use Rattle.csa_scan.specs.declared.side.Side.TheVariants.{Before, After}
use Rattle.csa_scan.specs.declared.walks.Walks.{Walks}

-- by the stops of the document, the nearest ones where the question may begin, and where it may end
pub record AreWalks (query : Query) (doc : StopsDoc) (walks : Walks) : Type 0 where
  pub starts : AreNear Before doc.stops doc.changes query.from walks.starts.items
  pub ends : AreNear After doc.stops doc.changes query.to walks.ends.items
