use Rattle.std.specs.Prelude.{option_map}
use Rattle.gtfs_tables.specs.Steps.{HasTransfers, IsWrongTransfers}
use Rattle.gtfs_tables.specs.declared.feed_file.FeedFile.TheVariants as file
use Rattle.gtfs_tables.proofs.StepLemmas.{judged}
use Rattle.gtfs_tables.proofs.steps.feed_transfers.Goals as goal

pub returns : goal.returns
returns g c =
    judged _ _ c.args.feed.now file.Transfers c.look.result c.in_ok-bytes.bytes (option_map (λ b. b.items)) (HasTransfers c.args.stops.now) (IsWrongTransfers c.args.stops.now) c.judge_transfers.result
    c.in_ok-bytes.was c.look.ensures c.judge_transfers.ensures
