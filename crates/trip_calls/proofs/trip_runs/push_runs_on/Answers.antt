use Rattle.std.proofs.Common.{◌∙◌, ◌++◌, ℕ, ap, map, sym, unwrap_or}
use Rattle.std.proofs.lemmas.List.{take_all}
use Rattle.trip_calls.specs.TripRuns.{run_from}
use Rattle.trip_calls.proofs.trip_runs.push_runs_on.Goals as goal

pub returns : goal.returns
returns c =
    let rows = c.args.rows.now in
    let trip = c.args.trip.now in
    let date = c.args.day.now.date in
    c.starts.invariant ∙ ap (λ l. c.args.runs.now.items ++ map (run_from rows trip date c.anchor_of-anchor.result) l) (take_all c.starts.start-index c.args.starts.now c.starts-test.false)
    ∙ ap (λ (v : ℕ). c.args.runs.now.items ++ map (run_from rows trip date v) c.args.starts.now) (sym (ap (λ o. unwrap_or o 0) c.anchor_of-anchor.ensures.is))
