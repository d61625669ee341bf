use Rattle.std.proofs.Common.{sym, subst}
use Rattle.gtfs_tables.specs.Fields.TripRows.{HaveOneRowATrip}
use Rattle.gtfs_tables.proofs.TripsLemmas.TripFacts.{trips_differ}
use Rattle.gtfs_tables.proofs.trips.trips.read_trips.Goals as goal

pub from_list-requires : goal.from_list-requires
from_list-requires c = subst HaveOneRowATrip (sym c.in_ok-trips.ensures) (trips_differ c.in_ok-rows.rows c.in_ok-check_rows.ensures.sound)
