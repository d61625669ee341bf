use Rattle.std.specs.Prelude.{option_map}
use Rattle.gtfs_tables.specs.Steps.{HasFrequencies, IsWrongFrequencies}
use Rattle.gtfs_tables.specs.declared.feed_file.FeedFile.TheVariants as file
use Rattle.gtfs_tables.proofs.StepLemmas.{judged}
use Rattle.gtfs_tables.proofs.steps.feed_frequencies.Goals as goal

pub returns : goal.returns
returns g c =
    judged _ _ c.args.feed.now file.Frequencies c.look.result c.in_ok-bytes.bytes (option_map (λ b. b.items)) (HasFrequencies c.args.trips.now) (IsWrongFrequencies c.args.trips.now) c.judge_frequencies.result
    c.in_ok-bytes.was c.look.ensures c.judge_frequencies.ensures
