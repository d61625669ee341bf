use Rattle.std.proofs.Common.{subst, sym}
use Rattle.std.proofs.lemmas.List.Elements.{All-filter}
use Rattle.lc_model.specs.Change.{is_same_id}
use Rattle.service_days.specs.declared.service_day.ServiceDay.{ServiceDay}
use Rattle.trip_calls.specs.Plannable.{ArePlannable, IsPlannable}
use Rattle.trip_calls.proofs.RunLemmas.{adds}
use Rattle.trip_calls.proofs.trip_runs.push_trip.Goals as goal

pub push_runs-requires-clause-plannable : goal.push_runs-requires-clause-plannable
push_runs-requires-clause-plannable c =
    subst ArePlannable (sym c.dates_of-dates.ensures.are)
    (All-filter (λ (d : ServiceDay). is_same_id d.service c.args.trip.now.service) (λ (d : ServiceDay). IsPlannable d.date) c.args.days.now c.requires.plannable)

pub returns : goal.returns
returns c =
    adds c.args.trip.now c.args.times.now c.args.spans.now c.args.days.now c.args.zone.now c.rows_of-rows.result.now c.as_slice-starts.result.now c.in_ok-starts.starts.items c.dates_of-dates.result.now c.args.runs.now.items c.push_runs.new.runs.items
    c.rows_of-rows.ensures.are c.as_slice-starts.ensures.value c.dates_of-dates.ensures.are c.in_ok-starts.ensures c.requires.plannable c.dates_of-dates.ensures.in_order c.in_ok-push_runs.ensures
