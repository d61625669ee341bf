use Rattle.std.proofs.Common.{◌*◌, ap, ◌∙◌, length}
use Rattle.trip_calls.proofs.TotalLemmas.{of_one}
use Rattle.trip_calls.proofs.counting.trip_count.Goals as goal

pub returns : goal.returns
returns c = λ zone.
    of_one c.args.trip.now c.args.times.now c.args.spans.now c.args.days.now zone c.rows_of-rows.result.now c.in_ok-starts.starts c.dates_of-dates.result.now c.in_ok-connections.connections
    c.rows_of-rows.ensures.are c.in_ok-starts.ensures c.dates_of-dates.ensures.are c.requires.plannable c.dates_of-dates.ensures.in_order
    (c.in_ok-connections.ensures ∙ ap (λ n. length c.dates_of-dates.result.now * c.in_ok-starts.starts * n) c.saturating_sub-pairs.ensures)
