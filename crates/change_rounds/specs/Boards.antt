-- Where one may board after some rides, and the rides that lead to an arrival.
use Rattle.std.specs.Prelude.{◌≡◌, ℕ, zero, suc, ◌+◌, ◌≤◌, ◌⊎◌, List, Option, Some, None}
use Rattle.std.specs.List.{slice_get}
use Rattle.std.specs.Option.{IsSomeAnd}
use Rattle.lc_model.specs.Change.{change_between}
use Rattle.lc_model.specs.Leg.{IsLegOf}
use Rattle.lc_model.specs.Walk.{IsWalkBefore, seconds_of}
use Rattle.lc_model.specs.declared.connection.Connection.{Connection}
use Rattle.lc_model.specs.declared.doc.StopsDoc.{StopsDoc}
use Rattle.lc_model.specs.declared.query.Query.{Query}
use Rattle.lc_model.specs.declared.ride.Ride.{Ride}
use Rattle.lc_model.specs.declared.walk.Walk.{Walk}
use Rattle.csa_scan.specs.declared.trace.Arrival.{Arrival}

-- one may board at the stop then before any ride: where the question begins, or after the walk before the first ride
abbrev pub BeginsAt : Query → StopsDoc → List ℕ → ℕ → Type 0
BeginsAt query doc stop at = (walk : Option Walk) × IsWalkBefore query doc stop walk × (query.leave + seconds_of walk ≤ at)

-- after the ride one may change to the stop by then
abbrev pub ChangesTo : StopsDoc → Ride → List ℕ → ℕ → Type 0
ChangesTo doc ride stop at = IsSomeAnd (change_between doc.changes ride.alight stop) (λ seconds. ride.arr + seconds ≤ at)

-- one may board at the stop then after so many legs of the list at most
abbrev pub BoardsWithin : Query → StopsDoc → List Connection → ℕ → List ℕ → ℕ → Type 0
BoardsWithin query doc list zero stop at = BeginsAt query doc stop at
BoardsWithin query doc list (suc n) stop at =
    BoardsWithin query doc list n stop at
    ⊎ ((ride : Ride) × IsLegOf list ride × BoardsWithin query doc list n ride.board ride.dep × ChangesTo doc ride stop at)

-- the way back from after the arrival to the begin is over so many arrivals at most
abbrev pub IsWithin : List Arrival → ℕ → Option ℕ → Type 0
IsWithin arrivals zero after = after ≡ None
IsWithin arrivals (suc n) after =
    (after ≡ None) ⊎ ((place : ℕ) × (a : Arrival) × (after ≡ Some place) × (slice_get arrivals place ≡ Some a) × IsWithin arrivals n a.boarding.after)
