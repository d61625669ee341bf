-- Stop times that never fall along a trip (GTFS Schedule Reference, stop_times.txt: arrival_time, departure_time).
use Rattle.std.specs.Prelude.{◌≡◌, ℕ, ◌-◌, ◌≤◌, ◌||◌, Bool, true, List, Option, Some, filter, is_some, length}
use Rattle.std.specs.List.{All, AllPairs, slice_get}
use Rattle.std.specs.Option.{ForSome, option_or}
use Rattle.lc_model.specs.Change.{is_same_id}
use Rattle.gtfs_tables.specs.Fields.Times.{IsInDay}
use Rattle.gtfs_tables.specs.declared.trips.stop_times.StopTime.{StopTime}

-- the arrival of a row: one with one of its two times uses it for both
abbrev pub arrival_of : StopTime → Option ℕ
arrival_of t = option_or t.arr t.dep

-- the departure of a row
abbrev pub departure_of : StopTime → Option ℕ
departure_of t = option_or t.dep t.arr

-- the row has at least one of its two times
abbrev pub is_timed : StopTime → Bool
is_timed t = is_some t.arr || is_some t.dep

-- of two times that are both there the second is not earlier
abbrev pub NoneFalls : Option ℕ → Option ℕ → Type 0
NoneFalls before after = (a b : ℕ) → before ≡ Some a → after ≡ Some b → a ≤ b

-- the rows of a trip
abbrev pub rows_of : List StopTime → List ℕ → List StopTime
rows_of times trip = filter (λ (t : StopTime). is_same_id t.trip trip) times

-- The rows of one trip, in the order of their sequences. The first and the last of them have a time. Each time is below
-- 100 hours, and none is earlier than one before it.
pub record AreTimelyRows (rows : List StopTime) : Type 0 where
  pub first_timed : ForSome (slice_get rows 0) (λ t. is_timed t ≡ true)
  pub last_timed : ForSome (slice_get rows (length rows - 1)) (λ t. is_timed t ≡ true)
  pub arrivals_in_day : All (λ (t : StopTime). IsInDay t.arr) rows
  pub departures_in_day : All (λ (t : StopTime). IsInDay t.dep) rows
  pub at_a_stop : All (λ t. NoneFalls (arrival_of t) (departure_of t)) rows
  pub along : AllPairs (λ x y. NoneFalls (departure_of x) (arrival_of y)) rows

-- the rows of each trip are so
abbrev pub AreTimely : List StopTime → Type 0
AreTimely times = (trip : List ℕ) → AreTimelyRows (rows_of times trip)
