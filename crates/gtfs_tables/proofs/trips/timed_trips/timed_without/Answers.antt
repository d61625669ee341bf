use Rattle.std.proofs.Common.{List, inr, length, subst, sym}
use Rattle.lc_model.specs.Order.{IsStrict}
use Rattle.gtfs_tables.specs.Fields.Rules.{IsUnbroken}
use Rattle.gtfs_tables.specs.declared.fields.trip_rows.TripRow.{TripRow}
use Rattle.gtfs_tables.specs.Trips.LeftOut.{AreLeftOut}
use Rattle.gtfs_tables.specs.Trips.Timing.{IsTripFault, trip_fault_at}
use Rattle.gtfs_tables.specs.Trips.Visits.{visit_cmp}
use Rattle.gtfs_tables.specs.declared.trips.visits.Visit.{Visit}
use Rattle.gtfs_tables.proofs.TripsLemmas.TimelyLemmas.{on_time}
use Rattle.gtfs_tables.proofs.trips.timed_trips.timed_without.Goals as goal

pub check_trips-requires-clause-in_order : goal.check_trips-requires-clause-in_order
check_trips-requires-clause-in_order c = subst (IsStrict visit_cmp) (sym c.as_slice.ensures.value) c.requires.in_order

pub check_trips-requires-clause-left : goal.check_trips-requires-clause-left
check_trips-requires-clause-left c = subst (λ (l : List Visit). AreLeftOut l c.args.left.now) (sym c.as_slice.ensures.value) c.requires.left

pub kept-requires-clause-on_time : goal.kept-requires-clause-on_time
kept-requires-clause-on_time c =
    on_time c.args.trips c.args.visits.items c.requires.of_trips
    (subst (λ (l : List TripRow). IsUnbroken (trip_fault_at c.args.visits.items l) (length l)) c.as_slice-2.ensures.value
    (subst (λ (l : List Visit). IsUnbroken (trip_fault_at l c.as_slice-2.result.now) (length c.as_slice-2.result.now)) c.as_slice.ensures.value c.in-Ok.ensures.timed))

pub returns-in-Err-clause-fault : goal.returns-in-Err-clause-fault
returns-in-Err-clause-fault c =
    inr (subst (λ (l : List Visit). IsTripFault l c.args.trips c.in-Err.fault) c.as_slice.ensures.value
    (subst (λ (l : List TripRow). IsTripFault c.as_slice.result.now l c.in-Err.fault) c.as_slice-2.ensures.value c.in-Err.ensures.fault))
