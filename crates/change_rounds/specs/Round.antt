-- What is known after some rounds: the chains of so many rides at most.
use Rattle.std.specs.Prelude.{◌≡◌, ℕ, ◌≤◌, List, Option, Some, length}
use Rattle.std.specs.List.{slice_get}
use Rattle.lc_model.specs.Journey.{IsJourney, arrives_at}
use Rattle.lc_model.specs.Leg.{IsLegOf}
use Rattle.lc_model.specs.declared.connection.Connection.{Connection}
use Rattle.lc_model.specs.declared.doc.StopsDoc.{StopsDoc}
use Rattle.lc_model.specs.declared.journey.Journey.{Journey}
use Rattle.lc_model.specs.declared.key.RunKey.{RunKey}
use Rattle.lc_model.specs.declared.query.Query.{Query}
use Rattle.csa_scan.specs.Kept.{Kept}
use Rattle.csa_scan.specs.Reach.{id_at, IsLegEnd, IsReachedBy, MayBoard}
use Rattle.csa_scan.specs.Stands.{IsBestGoal, IsReady}
use Rattle.csa_scan.specs.declared.trace.Arrival.{Arrival}
use Rattle.csa_scan.specs.declared.trace.Goal.{Goal}
use Rattle.change_rounds.specs.Boards.{BoardsWithin, IsWithin}

-- Each arrival ends a leg of the list, over so many rides at most. Where one may board after as many legs at most, one may after one
-- of the arrivals. A chain of as many rides at most arrives no earlier than the best goal.
pub record AfterRounds (query : Query) (doc : StopsDoc) (runs : List RunKey) (kept : Kept) (list : List Connection) (n : ℕ) : Type 0 where
  pub sound : (place : ℕ) (arrival : Arrival) → slice_get kept.arrivals place ≡ Some arrival → IsLegEnd query doc runs kept.arrivals list arrival
  pub within : (place : ℕ) (arrival : Arrival) → slice_get kept.arrivals place ≡ Some arrival → IsWithin kept.arrivals n (Some place)
  pub boards : (stop : List ℕ) (at : ℕ) → BoardsWithin query doc list n stop at → (after : Option ℕ) × MayBoard query doc kept.arrivals after stop at
  pub ready : IsReady doc kept.arrivals kept.ready
  pub reached : (stop by : ℕ) → slice_get kept.reached stop ≡ Some (Some by) → IsReachedBy doc.stops kept.arrivals (id_at doc.stops stop) by
  pub best : IsBestGoal query doc kept.arrivals kept.best
  pub covers : (journey : Journey) → IsJourney (IsLegOf list) query doc journey → length journey.rides ≤ n →
      (g : Goal) × (kept.best ≡ Some g) × (g.arr ≤ arrives_at journey)
