-- Times and starts that were worked out by hand.
use Rattle.std.specs.Prelude.{◌≡◌, ℕ, true, List, [], ◌∷◌, Option, Some, None, codes}
use Rattle.gtfs_tables.specs.declared.trips.stop_times.StopTime.{StopTime}
use Rattle.gtfs_tables.specs.declared.calendars.frequency.Frequency.{Frequency}
use Rattle.trip_calls.specs.BlankTimes.{arrives_at, departs_at}
use Rattle.trip_calls.specs.Starts.{IsStartOf}

-- a row of the trip T
abbrev pub row : ℕ → Option ℕ → Option ℕ → StopTime
row seq arr dep = record { trip = codes "T"; stop = codes "A"; seq = seq; arr = arr; dep = dep; board = true; alight = true }

-- Four rows, of which the first says 08:00:00 and the last 08:10:00. Their sequences are not their places.
abbrev pub four_rows : List StopTime
four_rows = row 1 (Some 28_800) (Some 28_800) ∷ row 2 None None ∷ row 90 None None ∷ row 91 (Some 29_400) None ∷ []

-- The rows between are at 08:03:20 and 08:06:40, for both times. The last row has its arrival for its departure.
pub record WorkedTimes : Type 0 where
  pub second_arrives : arrives_at four_rows 1 ≡ 29_000
  pub second_departs : departs_at four_rows 1 ≡ 29_000
  pub third_arrives : arrives_at four_rows 2 ≡ 29_200
  pub third_departs : departs_at four_rows 2 ≡ 29_200
  pub last_departs : departs_at four_rows 3 ≡ 29_400

-- from 06:00:00 to 07:00:00 the trip T starts each 20 minutes
abbrev pub each_20_minutes : List Frequency
each_20_minutes = record { trip = codes "T"; from = 21_600; to = 25_200; headway = 1_200 } ∷ []

-- It starts at 06:00:00, 06:20:00 and 06:40:00, and neither at the end, nor between, nor without a start. The trip U has no
-- start but none.
pub record WorkedStarts : Type 0 where
  pub first : IsStartOf each_20_minutes (codes "T") (Some 21_600)
  pub second : IsStartOf each_20_minutes (codes "T") (Some 22_800)
  pub third : IsStartOf each_20_minutes (codes "T") (Some 24_000)
  pub not_at_the_end : ¬ IsStartOf each_20_minutes (codes "T") (Some 25_200)
  pub not_between : ¬ IsStartOf each_20_minutes (codes "T") (Some 22_801)
  pub not_without : ¬ IsStartOf each_20_minutes (codes "T") None
  pub other_without : IsStartOf each_20_minutes (codes "U") None
  pub other_not_with : ¬ IsStartOf each_20_minutes (codes "U") (Some 21_600)
