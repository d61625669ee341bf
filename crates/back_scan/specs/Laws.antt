-- That the values of which clauses say that they exist are one each.
use Rattle.std.specs.Prelude.{◌≡◌, ℕ, List, Option}
use Rattle.lc_model.specs.Ride.{IsRideAt}
use Rattle.lc_model.specs.declared.connection.Connection.{Connection}
use Rattle.lc_model.specs.declared.doc.StopsDoc.{StopsDoc}
use Rattle.lc_model.specs.declared.query.Query.{Query}
use Rattle.lc_model.specs.declared.run.Run.{Run}
use Rattle.back_scan.specs.Latest.{IsLatestDeparture, IsListLatest}

-- the journeys of a question by the same runs have one latest departure, or there is none
abbrev pub OneLatestDeparture : Type 0
OneLatestDeparture =
    (runs : List Run) (query : Query) (doc : StopsDoc) (a b : Option ℕ) → IsLatestDeparture (IsRideAt runs) query doc a
    → IsLatestDeparture (IsRideAt runs) query doc b → a ≡ b

-- the chains of a list have one latest departure, or there is none
abbrev pub OneListLatest : Type 0
OneListLatest =
    (query : Query) (doc : StopsDoc) (list : List Connection) (a b : Option ℕ) → IsListLatest query doc list a → IsListLatest query doc list b
    → a ≡ b
