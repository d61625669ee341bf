use Rattle.std.proofs.Common.{subst, sym}
use Rattle.std.specs.Ordering.{nat_cmp, on}
use Rattle.lc_model.proofs.RangesLemmas.{sorted_by_key}
use Rattle.gtfs_tables.specs.Trips.Timely.{AreTimelyRows}
use Rattle.gtfs_tables.specs.declared.trips.stop_times.StopTime.{StopTime}
use Rattle.trip_calls.specs.TripRuns.{RiseInSequence}
use Rattle.trip_calls.proofs.CallLemmas.{rise_in_rows}
use Rattle.trip_calls.proofs.trip_runs.rows_of.Goals as goal

pub items_of-requires : goal.items_of-requires
items_of-requires c = sorted_by_key (λ (t : StopTime). t.trip) (on (λ (t : StopTime). t.seq) nat_cmp) c.args.times.now c.requires.in_trip_order

pub returns-clause-timely : goal.returns-clause-timely
returns-clause-timely c = subst AreTimelyRows (sym c.items_of.ensures) (c.requires.timely c.args.trip.now)

pub returns-clause-in_order : goal.returns-clause-in_order
returns-clause-in_order c = subst RiseInSequence (sym c.items_of.ensures) (rise_in_rows c.args.times.now c.args.trip.now c.requires.in_trip_order)
