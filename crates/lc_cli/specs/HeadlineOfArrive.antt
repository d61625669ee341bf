-- The main promise of `arrive`: where it ends with status Done, it wrote a journey of the latest departure by the timetable as it was known.
use Rattle.std.specs.Prelude.{◌≡◌, ◌+◌, ◌≤◌, List, ◌++◌, Option, Some, length}
use Rattle.std.specs.Option.{IfSome}
use Rattle.back_scan.specs.Forward.{forward_query}
use Rattle.back_scan.specs.declared.arrive_query.ArriveQuery.{ArriveQuery}
use Rattle.cli_ask.specs.Block.{client_text_of}
use Rattle.cli_ask.specs.declared.end.ClientEnd.{ClientEnd}
use Rattle.cli_serve.specs.Written.{Wrote}
use Rattle.cli_words.specs.Words.{SaysCommand}
use Rattle.cli_words.specs.declared.command.Arrive.{Arrive}
use Rattle.cli_words.specs.declared.command.Command.TheVariants as commands
use Rattle.back_client.specs.Ends.Latest.{LatestAt, NeededBackAt}
use Rattle.convoy.specs.ClientLaws.Stated.{version_at}
use Rattle.lc_io.specs.declared.file.File.{File}
use Rattle.lc_model.specs.Journey.{arrives_at}
use Rattle.lc_model.specs.declared.journey.Journey.{Journey}
use Rattle.lc_model.specs.declared.page.PageName.{PageName}
use Rattle.lc_world.specs.Link.{LinkSeen}
use Rattle.page_client.specs.Shown.{answered}
use Rattle.lc_world.specs.Sides.Short.{IsShort}
use Rattle.lc_world.specs.Sides.Side.{Side}
use Rattle.lc_cli.specs.Clear.{IsAskedSide}
use Rattle.lc_cli.specs.Top.{IsRight, Past}
use Rattle.lc_cli.specs.declared.status.Status.TheVariants.{Done}

-- By this side, at the version that its question means, the client ended with a journey that leaves as late as any and arrives by the moment. Or
-- it ended with none where none exists. It made the exchanges with the time gate and for the stops document, and one for each needed page back.
pub record EndsLatest (side : Side) (asked : ArriveQuery) (end : ClientEnd) : Type 0 where
  pub version_is : end.version ≡ Some (version_at side asked.known)
  pub answer : Option Journey
  pub is_latest : LatestAt side (version_at side asked.known) (forward_query asked) answer
  pub in_time : IfSome answer (λ (j : Journey). arrives_at j ≤ asked.arrive)
  pub outcome_is : end.outcome ≡ answered answer
  pub pages : List PageName
  pub are_needed : NeededBackAt side (version_at side asked.known) (forward_query asked) pages
  pub exchanges : end.exchanges ≡ 2 + length pages

-- `arrive` wrote the line of its message, if it names one, and the block of a client that ended so.
pub record WroteLatest {X : Type 0} (p : Past X) (arrive : Arrive) (files : List File) : Type 0 where
  pub side : Side
  pub asked : IsAskedSide files arrive.published side
  pub end : ClientEnd
  pub latest : EndsLatest side arrive.query end
  pub wrote : Wrote p.sink_before p.sink_after (asked.line ++ client_text_of 1 end)

-- Over recorded files, a clear link and a short publisher, status Done of `arrive` means that it wrote a journey of the latest departure, or that
-- none exists.
abbrev pub HeadlineOfArrive : {X : Type 0} → (X → LinkSeen) → Type 0
HeadlineOfArrive {X} seen =
    (p : Past X) (arrive : Arrive) (files : List File)
    → SaysCommand p.words (commands.Arrive arrive)
    → p.folder_before.files ≡ Some files
    → (seen p.link_before).clear
    → ((side : Side) → IsAskedSide files arrive.published side → IsShort side)
    → IsRight seen p Done
    → WroteLatest p arrive files
