use Rattle.std.proofs.Common.{◌≡◌, not}
use Rattle.std.specs.Prelude.{filter}
use Rattle.gtfs_tables.specs.declared.fields.trip_rows.TripRow.{TripRow}
use Rattle.gtfs_tables.specs.Trips.LeftOut.{is_in}
use Rattle.gtfs_tables.proofs.trips.timed_trips.kept_of.Given as goal

abbrev pub invariant-trips : goal.invariant-trips
invariant-trips l = l.kept.items ≡ filter (λ (t : TripRow). not (is_in l.left t.trip)) l.yielded
