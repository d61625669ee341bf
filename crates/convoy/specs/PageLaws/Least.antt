-- That the journeys of a timetable have a least arrival.
use Rattle.std.specs.Prelude.{ℕ, List, Option}
use Rattle.lc_model.specs.Journey.{IsLeastArrival}
use Rattle.lc_model.specs.Ride.{IsRideAt}
use Rattle.lc_model.specs.declared.doc.StopsDoc.{StopsDoc}
use Rattle.lc_model.specs.declared.query.Query.{Query}
use Rattle.lc_model.specs.declared.run.Run.{Run}

-- each question has a least arrival of its journeys, or there is no journey
abbrev pub SomeLeastArrival : Type 0
SomeLeastArrival = (runs : List Run) (query : Query) (doc : StopsDoc) → (best : Option ℕ) × IsLeastArrival (IsRideAt runs) query doc best
