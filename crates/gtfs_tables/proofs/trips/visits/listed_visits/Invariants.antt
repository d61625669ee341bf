use Rattle.std.proofs.Common.{◌≡◌, map}
use Rattle.std.specs.List.{range_with_len}
use Rattle.gtfs_tables.specs.Trips.Visits.{visit_at}
use Rattle.gtfs_tables.proofs.trips.visits.listed_visits.Given as goal

abbrev pub invariant-rows : goal.invariant-rows
invariant-rows l = l.visits.items ≡ map (visit_at l.rows) (range_with_len 0 l.place)
