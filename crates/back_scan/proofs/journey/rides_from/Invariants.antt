use Rattle.std.proofs.Common.{◌≡◌, ℕ, ◌++◌, List, Some}
use Rattle.lc_model.specs.declared.ride.Ride.{Ride}
use Rattle.back_scan.specs.Linked.{HasDeparture}
use Rattle.back_scan.specs.RidesFrom.{GoesOnFrom}
use Rattle.back_scan.proofs.RidesLemmas.{time_left}
use Rattle.back_scan.proofs.journey.rides_from.Given as goal

abbrev pub invariant-loop-next : goal.invariant-loop-next
invariant-loop-next l = record {
  within : (k : ℕ) → l.next ≡ Some k → HasDeparture l.departures k;
  leads : (rest : List Ride) → GoesOnFrom l.stops l.runs l.departures l.next rest → GoesOnFrom l.stops l.runs l.departures (Some l.stop) (l.rides.items ++ rest);
}

abbrev pub decreases-loop-next : goal.decreases-loop-next
decreases-loop-next l = time_left l.departures l.next
