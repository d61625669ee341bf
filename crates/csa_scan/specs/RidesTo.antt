-- The rides that lead to an arrival, one before the other.
use Rattle.std.specs.Prelude.{◌≡◌, ℕ, List, [], ◌∷◌, Option, Some, None}
use Rattle.std.specs.List.{slice_get}
use Rattle.lc_model.specs.declared.key.RunKey.{RunKey}
use Rattle.lc_model.specs.declared.ride.Ride.{Ride}
use Rattle.lc_model.specs.declared.stop.Stop.{Stop}
use Rattle.csa_scan.specs.Linked.{IsArrivalIn}
use Rattle.csa_scan.specs.Reach.{IsShown}
use Rattle.csa_scan.specs.declared.trace.Arrival.{Arrival}

-- each arrival is within so many stops and runs, and after an earlier one
abbrev pub PointsBack : ℕ → ℕ → List Arrival → Type 0
PointsBack stops runs arrivals = (place : ℕ) (a : Arrival) → slice_get arrivals place ≡ Some a → IsArrivalIn stops runs place a

-- The rides lead on to the arrival at the goal. Each is that of an arrival. The first one comes right after the place
-- `after`, or the begin where that is none.
abbrev pub LeadsOn : List Stop → List RunKey → List Arrival → ℕ → Option ℕ → List Ride → Type 0
LeadsOn stops runs arrivals goal after [] = after ≡ Some goal
LeadsOn stops runs arrivals goal after (ride ∷ rest) =
    (place : ℕ) × (a : Arrival) × (slice_get arrivals place ≡ Some a) × IsShown stops runs a ride × (a.boarding.after ≡ after)
    × LeadsOn stops runs arrivals goal (Some place) rest

-- the rides lead from the begin to the arrival
abbrev pub AreRidesTo : List Stop → List RunKey → List Arrival → ℕ → List Ride → Type 0
AreRidesTo stops runs arrivals goal rides = LeadsOn stops runs arrivals goal None rides
