use Rattle.std.proofs.Common.{◌≡◌, ℕ, ◌<◌, map}
use Rattle.std.specs.List.{range_with_len}
use Rattle.gtfs_tables.specs.Trips.SoundRows.{IsSoundAlone}
use Rattle.gtfs_tables.specs.Trips.Visits.{visit_at}
use Rattle.gtfs_tables.proofs.trips.sound_visits.visits_with.Given as goal

abbrev pub invariant-rows : goal.invariant-rows
invariant-rows l = record {
  said : l.visits.items ≡ map (visit_at l.rows) (range_with_len 0 l.place);
  sound : (place : ℕ) → place < l.place → IsSoundAlone l.stops l.trips l.rows place;
}
