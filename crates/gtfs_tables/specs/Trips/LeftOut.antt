-- The trips that are left out, as a sorted list.
use Rattle.std.specs.Prelude.{◌≡◌, ℕ, Bool, if◌then◌else◌, List, Option, None, option_map}
use Rattle.std.specs.Borrow.{Bor}
use Rattle.std.specs.List.{list_any}
use Rattle.std.specs.List.Sorted.{IsSorted}
use Rattle.std.specs.Ordering.{on}
use Rattle.lc_model.specs.Change.{is_same_id}
use Rattle.lc_model.specs.Text.{id_cmp}
use Rattle.gtfs_tables.specs.Trips.Timing.{is_left_out}
use Rattle.gtfs_tables.specs.declared.trips.stop_times.StopTime.{StopTime}
use Rattle.gtfs_tables.specs.declared.trips.visits.Visit.{Visit}

-- ids are in their order, and one may be there more than once
abbrev pub AreSorted : List (Bor (List ℕ)) → Type 0
AreSorted ids = IsSorted (on (λ (x : Bor (List ℕ)). x.now) id_cmp) ids

-- a trip is one of these
abbrev pub is_in : List (Bor (List ℕ)) → List ℕ → Bool
is_in left trip = list_any (λ (x : Bor (List ℕ)). is_same_id x.now trip) left

-- these are the trips that are left out, sorted
pub record AreLeftOut (visits : List Visit) (left : List (Bor (List ℕ))) : Type 0 where
  pub sorted : AreSorted left
  pub are : (trip : List ℕ) → is_in left trip ≡ is_left_out visits trip

-- the stop time of a visit of a trip that is none of these
abbrev pub time_unless : List (Bor (List ℕ)) → Visit → Option StopTime
time_unless left v =
    if is_in left v.trip
    then None
    else option_map (λ stop. record { trip = v.trip; stop = stop; seq = v.seq; arr = v.arr; dep = v.dep; board = v.board; alight = v.alight }) v.stop
