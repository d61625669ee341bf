-- That journeys of the fewest rides are alike: they arrive at one moment, with one number of rides.
use Rattle.std.specs.Prelude.{◌≡◌, List, Option, Some, None, length}
use Rattle.lc_model.specs.Journey.{arrives_at}
use Rattle.lc_model.specs.Ride.{IsRideAt}
use Rattle.lc_model.specs.declared.connection.Connection.{Connection}
use Rattle.lc_model.specs.declared.doc.StopsDoc.{StopsDoc}
use Rattle.lc_model.specs.declared.journey.Journey.{Journey}
use Rattle.lc_model.specs.declared.query.Query.{Query}
use Rattle.lc_model.specs.declared.run.Run.{Run}
use Rattle.change_rounds.specs.Fewest.{IsFewestAnswer, IsFewestChain}

-- there is no journey, twice, or both arrive at one moment with as many rides
abbrev pub AreAlike : Option Journey → Option Journey → Type 0
AreAlike None None = Unit {0}
AreAlike None (Some b) = ⊥
AreAlike (Some a) None = ⊥
AreAlike (Some a) (Some b) = (arrives_at a ≡ arrives_at b) × (length a.rides ≡ length b.rides)

-- the chains of the fewest rides of a list are alike
abbrev pub ChainsAreAlike : Type 0
ChainsAreAlike = (query : Query) (doc : StopsDoc) (list : List Connection) (a b : Option Journey) → IsFewestChain query doc list a → IsFewestChain query doc list b → AreAlike a b

-- and so are the journeys of a timetable
abbrev pub JourneysAreAlike : Type 0
JourneysAreAlike = (runs : List Run) (query : Query) (doc : StopsDoc) (a b : Option Journey) → IsFewestAnswer (IsRideAt runs) query doc a → IsFewestAnswer (IsRideAt runs) query doc b → AreAlike a b
