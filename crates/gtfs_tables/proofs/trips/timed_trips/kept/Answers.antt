use Rattle.std.proofs.Common.{◌≡◌, ◌∙◌, ◌≤◌, Bool, List, ap, arith, length, not, subst, sym}
use Rattle.std.specs.Prelude.{filter}
use Rattle.gtfs_tables.specs.declared.fields.trip_rows.TripRow.{TripRow}
use Rattle.gtfs_tables.specs.Trips.LeftOut.{is_in}
use Rattle.gtfs_tables.proofs.TripsLemmas.KeptFacts.{filter_shorter}
use Rattle.gtfs_tables.proofs.TripsLemmas.TimedFacts.{kept_once, times_are, times_in_order, trips_are}
use Rattle.gtfs_tables.proofs.TripsLemmas.TimelyLemmas.{timely}
use Rattle.gtfs_tables.proofs.trips.timed_trips.kept.Goals as goal

pub from_list-requires : goal.from_list-requires
from_list-requires c =
    kept_once (λ (t : TripRow). not (is_in c.args.left.now t.trip)) c.into_list-all.result.items c.in_ok-few.few.items c.in_ok-few.ensures c.into_list-all.ensures.one_row_a_trip

pub from_list-requires-2 : goal.from_list-requires-2
from_list-requires-2 c = record {
  in_order = times_in_order c.args.left.now c.args.visits.items c.in_ok-times.times.items c.in_ok-times.ensures c.requires.in_order;
  timely = timely c.args.visits.items c.in_ok-times.times.items (times_are c.args.visits.items c.args.left.now c.in_ok-times.times.items c.requires.left c.in_ok-times.ensures) c.requires.on_time;
}

pub overflow_sub-left_out : goal.overflow_sub-left_out
overflow_sub-left_out c =
    let p : TripRow → Bool = λ (t : TripRow). not (is_in c.args.left.now t.trip) in
    let size : length c.in_ok-few.few.items ≤ length c.into_list-all.result.items =
    subst (λ (l : List TripRow). length l ≤ length c.into_list-all.result.items) (sym c.in_ok-few.ensures) (filter_shorter p c.into_list-all.result.items) in
    let few : length c.as_slice-kept.result.now ≡ length c.in_ok-few.few.items = ap length c.as_slice-kept.ensures.value in
    let all : length c.as_slice-count.result.now ≡ length c.into_list-all.result.items = ap length c.as_slice-count.ensures.value in
    omega (arith, size, few, all)

pub returns : goal.returns
returns c =
    let p : TripRow → Bool = λ (t : TripRow). not (is_in c.args.left.now t.trip) in
    let size : length c.in_ok-few.few.items ≤ length c.into_list-all.result.items =
    subst (λ (l : List TripRow). length l ≤ length c.into_list-all.result.items) (sym c.in_ok-few.ensures) (filter_shorter p c.into_list-all.result.items) in
    let few : length c.as_slice-kept.result.now ≡ length c.in_ok-few.few.items = ap length c.as_slice-kept.ensures.value in
    let all : length c.as_slice-count.result.now ≡ length c.into_list-all.result.items = ap length c.as_slice-count.ensures.value in
    let given : length c.into_list-all.result.items ≡ length c.args.trips = ap length c.into_list-all.ensures.value in
    let made : length c.from_list.result ≡ length c.in_ok-few.few.items = ap length c.from_list.ensures in
    record {
      times = c.from_list-2.ensures ∙ times_are c.args.visits.items c.args.left.now c.in_ok-times.times.items c.requires.left c.in_ok-times.ensures;
      trips = c.from_list.ensures ∙ trips_are c.args.visits.items c.args.left.now c.args.trips c.in_ok-few.few.items c.requires.left (c.in_ok-few.ensures ∙ ap (λ (l : List TripRow). filter p l) c.into_list-all.ensures.value);
      left_out = omega (arith, size, few, all, given, made);
    }
