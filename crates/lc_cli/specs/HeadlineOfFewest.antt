-- The main promise of `fewest`: where it ends with status Done, it wrote a best journey of the fewest rides by the timetable as it was known.
use Rattle.std.specs.Prelude.{◌≡◌, ◌+◌, List, ◌++◌, Option, Some, length}
use Rattle.cli_ask.specs.Block.{client_text_of}
use Rattle.cli_ask.specs.declared.end.ClientEnd.{ClientEnd}
use Rattle.cli_serve.specs.Written.{Wrote}
use Rattle.cli_words.specs.Words.{SaysCommand}
use Rattle.cli_words.specs.declared.command.Command.TheVariants as commands
use Rattle.cli_words.specs.declared.command.Fewest.{Fewest}
use Rattle.convoy.specs.ClientLaws.Answered.{NeededAt}
use Rattle.rounds_client.specs.Ends.Version.{FewestAt}
use Rattle.lc_io.specs.declared.file.File.{File}
use Rattle.lc_model.specs.declared.journey.Journey.{Journey}
use Rattle.lc_model.specs.declared.page.PageName.{PageName}
use Rattle.lc_model.specs.declared.query.Query.{Query}
use Rattle.lc_world.specs.Link.{LinkSeen}
use Rattle.page_client.specs.Shown.{answered}
use Rattle.lc_world.specs.Sides.Short.{IsShort}
use Rattle.lc_world.specs.Sides.Side.{Side}
use Rattle.lc_cli.specs.Clear.{IsAskedSide}
use Rattle.lc_cli.specs.Headline.{version_meant}
use Rattle.lc_cli.specs.Top.{IsRight, Past}
use Rattle.lc_cli.specs.declared.status.Status.TheVariants.{Done}

-- By this side, the client ended with a journey that is best at the version that its question means, and has the fewest rides of all best ones.
-- Or it ended with none where none exists.
pub record EndsFewest (side : Side) (query : Query) (end : ClientEnd) : Type 0 where
  pub version_is : end.version ≡ Some (version_meant side query)
  pub answer : Option Journey
  pub is_fewest : FewestAt side (version_meant side query) query answer
  pub outcome_is : end.outcome ≡ answered answer

-- `fewest` wrote the line of its message, if it names one, and the block of a client that ended so after the needed exchanges.
pub record WroteFewest {X : Type 0} (p : Past X) (fewest : Fewest) (files : List File) : Type 0 where
  pub side : Side
  pub asked : IsAskedSide files fewest.published side
  pub end : ClientEnd
  pub best : EndsFewest side fewest.query end
  pub pages : List PageName
  pub are_needed : NeededAt side (version_meant side fewest.query) fewest.query pages
  pub exchanges : end.exchanges ≡ 2 + length pages
  pub wrote : Wrote p.sink_before p.sink_after (asked.line ++ client_text_of 1 end)

-- Over recorded files, a clear link and a short publisher, status Done of `fewest` means that it wrote a best journey of the fewest rides, or
-- that none exists.
abbrev pub HeadlineOfFewest : {X : Type 0} → (X → LinkSeen) → Type 0
HeadlineOfFewest {X} seen =
    (p : Past X) (fewest : Fewest) (files : List File)
    → SaysCommand p.words (commands.Fewest fewest)
    → p.folder_before.files ≡ Some files
    → (seen p.link_before).clear
    → ((side : Side) → IsAskedSide files fewest.published side → IsShort side)
    → IsRight seen p Done
    → WroteFewest p fewest files
