use Rattle.std.proofs.Common.{rules}
use Rattle.std.proofs.lemmas.List.Sorted.{IsPartitionPoint-from_clause}
use Rattle.std.specs.Ordering.{is_lt}
use Rattle.lc_model.specs.Text.{id_cmp}
use Rattle.gtfs_tables.specs.declared.trips.visits.Visit.{Visit}
use Rattle.gtfs_tables.proofs.TripsLemmas.TripPlaceLemmas.{begins, parted}
use Rattle.gtfs_tables.proofs.trips.trip_places.first_of.Goals as goal

pub returns-then-begin_at : goal.returns-then-begin_at
returns-then-begin_at c =
    begins c.args.visits.now c.args.trip.now c.requires c.args.near (c.begin_at.ensures.here c.if-begin_at.true) (c.begin_at.ensures.first c.if-begin_at.true)

pub returns : goal.returns
returns c = record {
  within = c.partition_point.ensures.bound;
  less = IsPartitionPoint-from_clause (λ (v : Visit). is_lt (id_cmp v.trip c.args.trip.now)) _ _ c.partition_point.ensures.partitioned (parted c.args.visits.now c.args.trip.now c.requires) (λ a r q k. search rules);
}
