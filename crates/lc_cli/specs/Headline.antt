-- The main promise: where `ask`, `replay` or `plan` ends with status Done, it wrote best journeys by the timetable as it was known.
use Rattle.std.specs.Prelude.{◌≡◌, ℕ, ◌+◌, List, ◌∷◌, ◌++◌, Some, length, slice_get}
use Rattle.cli_ask.specs.Block.{client_text_of}
use Rattle.cli_ask.specs.Publishing.{side_with, store_of}
use Rattle.cli_ask.specs.declared.end.ClientEnd.{ClientEnd}
use Rattle.cli_words.specs.Words.{SaysCommand}
use Rattle.cli_words.specs.declared.command.Ask.{Ask}
use Rattle.cli_words.specs.declared.command.Command.TheVariants as commands
use Rattle.cli_words.specs.declared.command.Plan.{Plan}
use Rattle.cli_words.specs.declared.command.Publishing.{Publishing}
use Rattle.cli_words.specs.declared.command.Replay.{Replay}
use Rattle.connection_uri.specs.Base.{BaseParts}
use Rattle.convoy.specs.ClientLaws.Answered.{AnswersAt, NeededAt}
use Rattle.convoy.specs.Agreement.Names.{Round}
use Rattle.cli_replay.specs.PlanLaws.Planned.{ArePlanned, IsPlanned}
use Rattle.cli_replay.specs.PlanLaws.Replied.{TellsAlong}
use Rattle.cli_replay.specs.PlanLaws.Sides.{sides_of}
use Rattle.cli_replay.specs.ReplayLaws.Events.{before_turn_of, questions_in}
use Rattle.cli_replay.specs.ReplayLaws.OneCourse.{IsPlayedOut}
use Rattle.cli_replay.specs.ReplayLaws.Replayed.{clients_text_of}
use Rattle.cli_replay.specs.ReplayLaws.Turns.{order_of, rounds_of}
use Rattle.cli_replay.specs.ReplayLaws.Versions.{AreShort, HasHeard}
use Rattle.cli_replay.specs.declared.replay_laws.event.Event.{Event}
use Rattle.lc_io.specs.declared.file.File.{File}
use Rattle.lc_model.specs.declared.answer.Answer.{Answer}
use Rattle.lc_model.specs.declared.answer.Answer.TheVariants as answers
use Rattle.lc_model.specs.declared.page.PageName.{PageName}
use Rattle.lc_model.specs.declared.query.Query.{Query}
use Rattle.lc_model.specs.Versions.History.{moments_of}
use Rattle.lc_model.specs.Versions.Named.{version_named}
use Rattle.lc_world.specs.Link.{IsHonestWith, LinkSeen}
use Rattle.page_client.specs.declared.outcome.Outcome.{Outcome}
use Rattle.page_client.specs.declared.outcome.Outcome.TheVariants as outcomes
use Rattle.page_client.specs.declared.want.Want.{Want}
use Rattle.page_client.specs.declared.want.Want.TheVariants as wants
use Rattle.lc_world.specs.Sides.Short.{IsShort}
use Rattle.lc_world.specs.Sides.Side.{Side}
use Rattle.timetable.specs.declared.timetable.Timetable.{Timetable}
use Rattle.version_store.specs.Store.{Stored}
use Rattle.lc_cli.specs.Clear.{AreRecordedAsks, IsAskedSide, IsRecordedCourse}
use Rattle.lc_cli.specs.Top.{IsRight, Past}
use Rattle.cli_serve.specs.Written.{Wrote}
use Rattle.lc_cli.specs.declared.status.Status.TheVariants.{Done}

-- A question means the last version at or before the moment that it names, else the base. Where it names no moment, it means the newest.
abbrev pub version_meant : Side → Query → ℕ
version_meant side query = version_named side.base_moment (moments_of side.history) query.known

-- A client that has an answer ends with its journey, or with none.
abbrev pub outcome_of : Answer → Outcome
outcome_of (answers.Journey journey) = outcomes.Found journey
outcome_of answers.NoJourney = outcomes.NoJourney

-- By this side, the client ended with a best journey at the version that its question means, or with none where none exists.
pub record EndsBest (side : Side) (query : Query) (end : ClientEnd) : Type 0 where
  pub version_is : end.version ≡ Some (version_meant side query)
  pub answer : Answer
  pub is_best : AnswersAt side (version_meant side query) query answer
  pub outcome_is : end.outcome ≡ outcome_of answer

-- Each text of the publisher that is asked stays below 10,000,000,000 bytes.
abbrev pub StaysShort : List File → Ask → Type 0
StaysShort files ask = (side : Side) → IsAskedSide files ask.published side → IsShort side

-- `ask` wrote the line of its message, if it names one, and the block of a client that ended best after the needed exchanges.
pub record WroteBest {X : Type 0} (p : Past X) (ask : Ask) (files : List File) : Type 0 where
  pub side : Side
  pub asked : IsAskedSide files ask.published side
  pub end : ClientEnd
  pub best : EndsBest side ask.query end
  pub pages : List PageName
  pub are_needed : NeededAt side (version_meant side ask.query) ask.query pages
  pub exchanges : end.exchanges ≡ 2 + length pages
  pub wrote : Wrote p.sink_before p.sink_after (asked.line ++ client_text_of 1 end)

-- Over recorded files, a clear link and a short publisher, status Done of `ask` means that it wrote a best journey, or that none exists.
abbrev pub Headline : {X : Type 0} → (X → LinkSeen) → Type 0
Headline {X} seen =
    (p : Past X) (ask : Ask) (files : List File)
    → SaysCommand p.words (commands.Ask ask)
    → p.folder_before.files ≡ Some files
    → (seen p.link_before).clear
    → StaysShort files ask
    → IsRight seen p Done
    → WroteBest p ask files

-- The client of this number ended best by the messages before its first turn, or by all messages where it has no turn.
pub record EndsBestThen (made : Timetable) (publishing : Publishing) (all : List Event) (client : ℕ) (query : Query) (end : ClientEnd) : Type 0 where
  pub store : Stored
  pub lines : List ℕ
  pub heard : HasHeard (before_turn_of client all) (store_of made publishing.base_moment) store lines
  pub best : EndsBest (side_with made publishing store) query end

-- Each text of the publisher stays below 10,000,000,000 bytes, whichever messages it has received.
abbrev pub StaysShortThroughout : List File → Replay → Type 0
StaysShortThroughout files replay =
    (made : Timetable) (all : List Event) → IsRecordedCourse files replay made all → AreShort made replay.publishing all

-- `replay` played its event sequence, and wrote the lines of its messages and the block of each client, which ended best.
pub record WroteEachBest {X : Type 0} (p : Past X) (replay : Replay) (files : List File) : Type 0 where
  pub made : Timetable
  pub all : List Event
  pub recorded : IsRecordedCourse files replay made all
  pub lines : List ℕ
  pub ends : List ClientEnd
  pub played : IsPlayedOut made replay.publishing all replay.cache lines ends
  pub best :
      (place : ℕ) (query : Query) (end : ClientEnd) → slice_get (questions_in all) place ≡ Some query → slice_get ends place ≡ Some end
      → EndsBestThen made replay.publishing all (place + 1) query end
  pub wrote : Wrote p.sink_before p.sink_after (lines ++ clients_text_of 1 ends)

-- Over the same, status Done of `replay` means that it wrote a best journey for each client that asked, or that none exists.
abbrev pub HeadlineOfReplay : {X : Type 0} → (X → LinkSeen) → Type 0
HeadlineOfReplay {X} seen =
    (p : Past X) (replay : Replay) (files : List File)
    → SaysCommand p.words (commands.Replay replay)
    → p.folder_before.files ≡ Some files
    → (seen p.link_before).clear
    → StaysShortThroughout files replay
    → IsRight seen p Done
    → WroteEachBest p replay files

-- In one of these turns the time gate replied first. Of these sides, one a turn, this is the one of that turn.
pub record IsGateSide (rounds : List Round) (sides : List Side) (side : Side) : Type 0 where
  pub turn : ℕ
  pub round : Round
  pub round_is : slice_get rounds turn ≡ Some round
  pub more : List Want
  pub gate : round.given ≡ wants.Gate ∷ more
  pub side_is : slice_get sides turn ≡ Some side

-- The client had these turns, at these sides. By the last side, it ended with a best journey at the version that its question means,
-- or with none where none exists. The version is meant at the side of its own time gate exchange.
pub record EndsBestAt (rounds : List Round) (sides : List Side) (last : Side) (query : Query) (end : ClientEnd) : Type 0 where
  pub side : Side
  pub is_gate_side : IsGateSide rounds sides side
  pub version_is : end.version ≡ Some (version_meant side query)
  pub answer : Answer
  pub is_best : AnswersAt last (version_meant side query) query answer
  pub outcome_is : end.outcome ≡ outcome_of answer

-- Clients that planned so over a link that was honest with the first side each ended best, by what they met. Each recorded reply is that of the
-- publisher's side at its exchange. So that of the time gate says which version its client means.
pub record EachEndsBest (base : BaseParts) (first : Side) (all : List Event) (cache : ℕ) (before after : LinkSeen) (text : List ℕ) (ends : List ClientEnd) (x : IsPlanned base all cache before after text ends) : Type 0 where
  pub planned : ArePlanned base first all cache before after ends x.caused.met
  pub replies : TellsAlong first before after
  pub best :
      (place : ℕ) (query : Query) (end : ClientEnd) → slice_get (questions_in all) place ≡ Some query → slice_get ends place ≡ Some end
      → EndsBestAt (rounds_of (place + 1) (order_of all) planned.rounds) (sides_of (place + 1) (order_of all) planned.sides) planned.last query end

-- `plan` let the clients of its script have their turns over the link, and wrote the block of each client, which ended best.
pub record PlannedEachBest {X : Type 0} (seen : X → LinkSeen) (p : Past X) (plan : Plan) (files : List File) (first : Side) : Type 0 where
  pub all : List Event
  pub recorded : AreRecordedAsks files plan.asks all
  pub text : List ℕ
  pub ends : List ClientEnd
  pub planned : IsPlanned plan.base all plan.cache (seen p.link_before) (seen p.link_after) text ends
  pub each : EachEndsBest plan.base first all plan.cache (seen p.link_before) (seen p.link_after) text ends planned
  pub wrote : Wrote p.sink_before p.sink_after text

-- Over recorded files and an honest link, also one whose side grows, status Done of `plan` means this. It wrote a best
-- journey for each client that asked, or that none exists.
abbrev pub HeadlineOfPlan : {X : Type 0} → (X → LinkSeen) → Type 0
HeadlineOfPlan {X} seen =
    (p : Past X) (plan : Plan) (files : List File) (first : Side)
    → SaysCommand p.words (commands.Plan plan)
    → p.folder_before.files ≡ Some files
    → IsHonestWith (seen p.link_before) plan.base first
    → IsRight seen p Done
    → PlannedEachBest seen p plan files first
