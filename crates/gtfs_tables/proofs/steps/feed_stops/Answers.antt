use Rattle.std.specs.Prelude.{option_map}
use Rattle.gtfs_tables.specs.Steps.{HasStops, IsWrongStops}
use Rattle.gtfs_tables.specs.declared.feed_file.FeedFile.TheVariants as file
use Rattle.gtfs_tables.proofs.StepLemmas.{judged}
use Rattle.gtfs_tables.proofs.steps.feed_stops.Goals as goal

pub returns : goal.returns
returns g c =
    judged _ _ c.args.feed.now file.Stops c.look.result c.in_ok-bytes.bytes (option_map (λ b. b.items)) HasStops IsWrongStops c.judge_stops.result
    c.in_ok-bytes.was c.look.ensures c.judge_stops.ensures
