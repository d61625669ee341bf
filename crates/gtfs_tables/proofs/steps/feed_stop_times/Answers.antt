use Rattle.std.specs.Prelude.{option_map}
use Rattle.gtfs_tables.specs.Steps.{HasTimes, IsWrongTimes}
use Rattle.gtfs_tables.specs.declared.feed_file.FeedFile.TheVariants as file
use Rattle.gtfs_tables.proofs.StepLemmas.{judged}
use Rattle.gtfs_tables.proofs.steps.feed_stop_times.Goals as goal

pub returns : goal.returns
returns g c =
    judged _ _ c.args.feed.now file.StopTimes c.look.result c.in_ok-bytes.bytes (option_map (λ b. b.items)) (HasTimes c.args.stops.now c.args.trips.now) (IsWrongTimes c.args.stops.now c.args.trips.now) c.judge_stop_times.result
    c.in_ok-bytes.was c.look.ensures c.judge_stop_times.ensures
