use Rattle.std.specs.Prelude.{option_map}
use Rattle.gtfs_tables.specs.Steps.{HasDates, IsWrongDates}
use Rattle.gtfs_tables.specs.declared.feed_file.FeedFile.TheVariants as file
use Rattle.gtfs_tables.proofs.StepLemmas.{judged}
use Rattle.gtfs_tables.proofs.steps.feed_dates.Goals as goal

pub returns : goal.returns
returns g c =
    judged _ _ c.args.feed.now file.CalendarDates c.look.result c.in_ok-bytes.bytes (option_map (λ b. b.items)) (HasDates c.args.has_calendar) (IsWrongDates c.args.has_calendar) c.judge_dates.result
    c.in_ok-bytes.was c.look.ensures c.judge_dates.ensures
