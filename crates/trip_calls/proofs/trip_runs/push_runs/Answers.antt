use Rattle.std.proofs.Common.{◌∙◌, ◌++◌, List, ap, subst, sym}
use Rattle.std.proofs.lemmas.List.{take_all}
use Rattle.service_days.specs.declared.service_day.ServiceDay.{ServiceDay}
use Rattle.trip_calls.specs.Plannable.{IsPlannable}
use Rattle.trip_calls.specs.TripRuns.{runs_of_trip}
use Rattle.trip_calls.proofs.FillLemmas.{stays_in_day}
use Rattle.trip_calls.proofs.RunLemmas.{one_date}
use Rattle.trip_calls.proofs.trip_runs.push_runs.Goals as goal

pub push_runs_on-requires : goal.push_runs_on-requires
push_runs_on-requires c =
    let are = c.as_slice.ensures.value ∙ c.in_ok-stays.ensures in
    record {
      stays = are;
      in_day = stays_in_day c.args.rows.now c.as_slice.result.now c.requires.timely are;
      plannable = subst (λ (d : ServiceDay). IsPlannable d.date) (sym c.day-item.is) (c.requires.plannable c.dates.day-index c.day-item.result c.dates-test.true);
      in_order = c.requires.in_order;
    }

pub dates-preserved : goal.dates-preserved
dates-preserved c =
    one_date c.args.zone.now c.args.rows.now c.args.trip.now c.args.starts.now c.args.dates.now c.dates.day-index c.day-item.result c.args.runs.now.items c.dates.runs.items c.push_runs_on.new.runs.items
    c.dates-test.true c.day-item.is c.in_ok-push_runs_on.ensures c.dates.invariant

pub returns : goal.returns
returns c =
    c.dates.invariant ∙ ap (λ (l : List ServiceDay). c.args.runs.now.items ++ runs_of_trip c.args.zone.now c.args.rows.now c.args.trip.now c.args.starts.now l) (take_all c.dates.day-index c.args.dates.now c.dates-test.false)
