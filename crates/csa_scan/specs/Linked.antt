-- Every number that the progress of a scan keeps is within the list that it points into.
use Rattle.std.specs.Prelude.{◌≡◌, ℕ, ◌<◌, List, Option, Some, length}
use Rattle.std.specs.List.{slice_get}
use Rattle.csa_scan.specs.declared.trace.Arrival.{Arrival}
use Rattle.csa_scan.specs.declared.trace.Boarding.{Boarding}
use Rattle.csa_scan.specs.declared.trace.Goal.{Goal}
use Rattle.csa_scan.specs.declared.trace.Ready.{Ready}

-- the boarding is at one of so many stops, after one of so many arrivals
pub record IsBoardingIn (stops arrivals : ℕ) (b : Boarding) : Type 0 where
  pub stop : b.stop < stops
  pub after : (k : ℕ) → b.after ≡ Some k → k < arrivals

-- the arrival is at one of so many stops, by one of so many runs, after one of so many arrivals
pub record IsArrivalIn (stops runs arrivals : ℕ) (a : Arrival) : Type 0 where
  pub stop : a.stop < stops
  pub run : a.run < runs
  pub boarding : IsBoardingIn stops arrivals a.boarding

-- each boarding, each ready stop, each arrival and the best one point within the lists, and arrivals point back
pub record IsLinked (boardings : List (Option Boarding)) (ready : List (Option Ready)) (reached : List (Option ℕ)) (arrivals : List Arrival) (best : Option Goal) : Type 0 where
  pub same_stops : length reached ≡ length ready
  pub is_boarding : (run : ℕ) (b : Boarding) → slice_get boardings run ≡ Some (Some b) → IsBoardingIn (length ready) (length arrivals) b
  pub is_ready : (stop : ℕ) (r : Ready) → slice_get ready stop ≡ Some (Some r) → r.after < length arrivals
  pub is_arrival : (place : ℕ) (a : Arrival) → slice_get arrivals place ≡ Some a → IsArrivalIn (length ready) (length boardings) place a
  pub is_best : (g : Goal) → best ≡ Some g → g.place < length arrivals
