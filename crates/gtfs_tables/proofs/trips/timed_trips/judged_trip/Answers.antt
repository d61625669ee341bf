use Rattle.std.specs.Ordering.{nat_cmp, on}
use Rattle.lc_model.proofs.RangesLemmas.{sorted_by_key}
use Rattle.gtfs_tables.specs.declared.trips.visits.Visit.{Visit}
use Rattle.gtfs_tables.proofs.trips.timed_trips.judged_trip.Goals as goal

pub places_of_trip-first-requires : goal.places_of_trip-first-requires
places_of_trip-first-requires c = sorted_by_key (λ (v : Visit). v.trip) (on (λ (v : Visit). v.seq) nat_cmp) c.args.visits.now c.requires.in_order
