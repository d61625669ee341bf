use Rattle.std.proofs.Common.{rules, subst, sym}
use Rattle.std.proofs.lemmas.Cmp.{on_total}
use Rattle.lc_model.specs.Totals.{key_cmp_total}
use Rattle.lc_model.specs.declared.run.Run.{Run}
use Rattle.lc_model.proofs.OrdersLemmas.{IsSorted-from_closure}
use Rattle.gtfs_tables.specs.Trips.StopTimeOrder.{InTripOrder}
use Rattle.gtfs_tables.specs.Trips.Timely.{AreTimely}
use Rattle.trip_calls.specs.Runs.{AreRunsOf}
use Rattle.trip_calls.proofs.CallLemmas.{rise_in_rows}
use Rattle.trip_calls.proofs.TotalLemmas.{all_forward, by_key, counted_of, few_enough, listed_of, sorted_runs, too_many}
use Rattle.trip_calls.proofs.all_runs.runs.Goals as goal

pub returns-then-count-gt-MOST_CONNECTIONS-clause-fault : goal.returns-then-count-gt-MOST_CONNECTIONS-clause-fault
returns-then-count-gt-MOST_CONNECTIONS-clause-fault c =
    let trips = c.args.trips.now in
    let times = c.args.times.now in
    let frequencies = c.args.frequencies.now in
    let days = c.args.days.now in
    let zone = c.args.zone.now in
    too_many trips times frequencies days zone c.in_ok-count.count.connections
    (counted_of trips _ times _ frequencies c.in_ok-spans.spans.items _ days zone c.in_ok-count.count.connections c.as_slice-trips.ensures.value c.as_slice-times.ensures.value c.as_slice-rows.ensures.value c.in_ok-spans.ensures.moved (c.in_ok-count.ensures zone))
    c.if-count-gt-MOST_CONNECTIONS.true

pub from_list-requires : goal.from_list-requires
from_list-requires c =
    let trips = c.args.trips.now in
    let times = c.args.times.now in
    let frequencies = c.args.frequencies.now in
    let days = c.args.days.now in
    let zone = c.args.zone.now in
    let are = listed_of trips _ times _ frequencies c.in_ok-spans.spans.items _ days zone c.in_ok-runs.runs.items c.as_slice-trips.ensures.value c.as_slice-times.ensures.value c.as_slice-rows.ensures.value c.in_ok-spans.ensures.moved c.in_ok-runs.ensures in
    let up = IsSorted-from_closure by_key (on_total (λ (r : Run). r.key) key_cmp_total) c.sort_unstable_by.new.self.items c.sort_unstable_by.ensures.sorted (λ f a r f' k. search rules) in
    (sorted_runs trips times frequencies days zone c.in_ok-runs.runs.items c.sort_unstable_by.new.self.items are c.sort_unstable_by.ensures.permutation up).in_order

pub returns-clause-are : goal.returns-clause-are
returns-clause-are c =
    let trips = c.args.trips.now in
    let times = c.args.times.now in
    let frequencies = c.args.frequencies.now in
    let days = c.args.days.now in
    let zone = c.args.zone.now in
    let are = listed_of trips _ times _ frequencies c.in_ok-spans.spans.items _ days zone c.in_ok-runs.runs.items c.as_slice-trips.ensures.value c.as_slice-times.ensures.value c.as_slice-rows.ensures.value c.in_ok-spans.ensures.moved c.in_ok-runs.ensures in
    let up = IsSorted-from_closure by_key (on_total (λ (r : Run). r.key) key_cmp_total) c.sort_unstable_by.new.self.items c.sort_unstable_by.ensures.sorted (λ f a r f' k. search rules) in
    subst (AreRunsOf trips times frequencies days zone) (sym c.from_list.ensures) (sorted_runs trips times frequencies days zone c.in_ok-runs.runs.items c.sort_unstable_by.new.self.items are c.sort_unstable_by.ensures.permutation up)

pub returns-clause-forward : goal.returns-clause-forward
returns-clause-forward c =
    let trips = c.args.trips.now in
    let times = c.args.times.now in
    let frequencies = c.args.frequencies.now in
    let days = c.args.days.now in
    let zone = c.args.zone.now in
    let up = subst InTripOrder c.as_slice-times.ensures.value c.as_slice-times.ensures.in_order in
    all_forward trips times frequencies days zone c.from_list.result (returns-clause-are c) (subst AreTimely c.as_slice-times.ensures.value c.as_slice-times.ensures.timely) (λ trip. rise_in_rows times trip up)

pub returns-clause-room : goal.returns-clause-room
returns-clause-room c =
    let trips = c.args.trips.now in
    let times = c.args.times.now in
    let frequencies = c.args.frequencies.now in
    let days = c.args.days.now in
    let zone = c.args.zone.now in
    few_enough trips times frequencies days zone c.in_ok-count.count.connections c.from_list.result
    (counted_of trips _ times _ frequencies c.in_ok-spans.spans.items _ days zone c.in_ok-count.count.connections c.as_slice-trips.ensures.value c.as_slice-times.ensures.value c.as_slice-rows.ensures.value c.in_ok-spans.ensures.moved (c.in_ok-count.ensures zone))
    c.if-count-gt-MOST_CONNECTIONS.false (returns-clause-are c)
