-- The main promise of `drill`: where it ends with status Done, its sums are over best journeys by the timetable as it was known.
use Rattle.std.specs.Prelude.{◌≡◌, ℕ, ◌+◌, List, Some, slice_get}
use Rattle.cli_ask.specs.declared.end.ClientEnd.{ClientEnd}
use Rattle.cli_drill.specs.Files.{drill_files}
use Rattle.cli_words.specs.Words.{SaysCommand}
use Rattle.cli_words.specs.declared.command.Command.TheVariants as commands
use Rattle.cli_words.specs.declared.command.Drill.{Drill}
use Rattle.cli_words.specs.declared.command.Replay.{Replay}
use Rattle.cli_replay.specs.ReplayLaws.Events.{questions_in}
use Rattle.cli_replay.specs.ReplayLaws.OneCourse.{IsPlayedOut}
use Rattle.cli_replay.specs.declared.replay_laws.event.Event.{Event}
use Rattle.lc_model.specs.declared.query.Query.{Query}
use Rattle.lc_world.specs.Link.{LinkSeen}
use Rattle.timetable.specs.declared.timetable.Timetable.{Timetable}
use Rattle.lc_cli.specs.Clear.{IsRecordedCourse}
use Rattle.lc_cli.specs.Drill.{IsDrilled, IsSummary}
use Rattle.lc_cli.specs.Headline.{EndsBestThen, StaysShortThroughout}
use Rattle.lc_cli.specs.Top.{IsRight, Past}
use Rattle.lc_cli.specs.declared.status.Status.TheVariants.{Done}
use Rattle.cli_serve.specs.Written.{Wrote}

-- `drill` played the event sequence of its files, and wrote the summary of its clients, of which each ended best.
pub record DrilledEachBest {X : Type 0} (p : Past X) (drill : Drill) : Type 0 where
  pub replay : Replay
  pub drilled : IsDrilled drill replay
  pub made : Timetable
  pub all : List Event
  pub recorded : IsRecordedCourse (drill_files drill.seed drill.days) replay made all
  pub lines : List ℕ
  pub ends : List ClientEnd
  pub played : IsPlayedOut made replay.publishing all replay.cache lines ends
  pub best :
      (place : ℕ) (query : Query) (end : ClientEnd) → slice_get (questions_in all) place ≡ Some query → slice_get ends place ≡ Some end
      → EndsBestThen made replay.publishing all (place + 1) query end
  pub summary : List ℕ
  pub is_summary : IsSummary drill.seed made replay.publishing all ends summary
  pub wrote : Wrote p.sink_before p.sink_after summary

-- Over a clear link, status Done of `drill` means that its sums are over best journeys, or that none exists where it counts none.
abbrev pub HeadlineOfDrill : {X : Type 0} → (X → LinkSeen) → Type 0
HeadlineOfDrill {X} seen =
    (p : Past X) (drill : Drill)
    → SaysCommand p.words (commands.Drill drill)
    → (seen p.link_before).clear
    → ((replay : Replay) → IsDrilled drill replay → StaysShortThroughout (drill_files drill.seed drill.days) replay)
    → IsRight seen p Done
    → DrilledEachBest p drill
