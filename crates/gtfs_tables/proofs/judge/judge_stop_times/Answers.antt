use Rattle.std.proofs.Common.{ap}
use Rattle.std.specs.Prelude.{option_map}
use Rattle.gtfs_tables.specs.Steps.{HasTimes}
use Rattle.gtfs_tables.proofs.StepLemmas.{reported_times}
use Rattle.gtfs_tables.proofs.judge.judge_stop_times.Goals as goal

pub returns : goal.returns
returns c =
    reported_times c.args.stops.now c.args.trips.now c.in_ok-copy.copy (option_map (λ b. b.items) c.args.bytes) c.in-Some.bytes.items c.as_slice.result.now
    (HasTimes c.args.stops.now c.args.trips.now) c.in-Err.fault c.end_of.result (ap (option_map (λ b. b.items)) c.in-Some.is) c.as_slice.ensures.value
    c.in_ok-copy.ensures c.end_of.ensures c.in-Err.ensures.fault
