-- That the values of which clauses say that they exist are one each.
use Rattle.std.specs.Prelude.{◌≡◌, ℕ, List, Option, Some, None}
use Rattle.lc_model.specs.Connection.{AreConnectionsOf}
use Rattle.lc_model.specs.Journey.{IsAnswer, arrives_at}
use Rattle.lc_model.specs.Leg.{IsListBest}
use Rattle.lc_model.specs.Ride.{IsRideAt}
use Rattle.lc_model.specs.Walk.{IsWalkAfter, IsWalkBefore}
use Rattle.lc_model.specs.declared.answer.Answer.{Answer}
use Rattle.lc_model.specs.declared.answer.Answer.TheVariants.{Journey, NoJourney}
use Rattle.lc_model.specs.declared.connection.Connection.{Connection}
use Rattle.lc_model.specs.declared.doc.StopsDoc.{StopsDoc}
use Rattle.lc_model.specs.declared.query.Query.{Query}
use Rattle.lc_model.specs.declared.run.Run.{Run}
use Rattle.lc_model.specs.declared.walk.Walk.{Walk}

-- runs have one list of connections
abbrev pub OneListOfConnections : Type 0
OneListOfConnections = (runs : List Run) (a b : List Connection) → AreConnectionsOf runs a → AreConnectionsOf runs b → a ≡ b

-- the moment at which the journey of an answer arrives, if there is one
abbrev pub arrival_of : Answer → Option ℕ
arrival_of (Journey journey) = Some (arrives_at journey)
arrival_of NoJourney = None

-- the answers to one question by the same runs have one arrival
abbrev pub OneArrival : Type 0
OneArrival =
    (runs : List Run) (query : Query) (doc : StopsDoc) (a b : Answer) → IsAnswer (IsRideAt runs) query doc a
    → IsAnswer (IsRideAt runs) query doc b → arrival_of a ≡ arrival_of b

-- the chains of a list have one least arrival, or there is none
abbrev pub OneLeastArrival : Type 0
OneLeastArrival =
    (query : Query) (doc : StopsDoc) (list : List Connection) (a b : Option ℕ) → IsListBest query doc list a → IsListBest query doc list b
    → a ≡ b

-- to a stop there is one walk before the first ride, or it needs none
abbrev pub OneWalkBefore : Type 0
OneWalkBefore =
    (query : Query) (doc : StopsDoc) (board : List ℕ) (a b : Option Walk) → IsWalkBefore query doc board a → IsWalkBefore query doc board b → a ≡ b

-- from a stop there is one walk after the last ride, or it needs none
abbrev pub OneWalkAfter : Type 0
OneWalkAfter =
    (query : Query) (doc : StopsDoc) (alight : List ℕ) (a b : Option Walk) → IsWalkAfter query doc alight a → IsWalkAfter query doc alight b → a ≡ b
