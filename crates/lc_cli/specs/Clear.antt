-- When nothing but memory keeps the output from being printed, and that there is one such output.
use Rattle.std.specs.Prelude.{◌≡◌, ℕ, Bool, false, true, List, [], ◌∷◌, Option, Some, None}
use Rattle.cli_ask.specs.Admission.{IsBehind}
use Rattle.cli_ask.specs.Publishing.{side_for, store_of}
use Rattle.cli_drill.specs.Files.{drill_files}
use Rattle.cli_replay.specs.Inputs.Plan.{SayEvents}
use Rattle.cli_words.specs.Words.{SaysCommand}
use Rattle.cli_words.specs.declared.command.Arrive.{Arrive}
use Rattle.cli_words.specs.declared.command.Ask.{Ask}
use Rattle.cli_words.specs.declared.command.Drill.{Drill}
use Rattle.cli_words.specs.declared.command.Fewest.{Fewest}
use Rattle.cli_words.specs.declared.command.Plan.{Plan}
use Rattle.cli_words.specs.declared.command.Published.{Published}
use Rattle.cli_words.specs.declared.command.Relay.{Relay}
use Rattle.cli_words.specs.declared.command.Replay.{Replay}
use Rattle.cli_words.specs.declared.command.Serve.{Serve}
use Rattle.cli_words.specs.declared.command.Command.{Command}
use Rattle.cli_words.specs.declared.command.Command.TheVariants as commands
use Rattle.connection_uri.specs.Base.{BaseParts}
use Rattle.lc_io.specs.Counts.{Rose}
use Rattle.lc_io.specs.Folder.{bytes_named}
use Rattle.lc_io.specs.declared.file.File.{File}
use Rattle.lc_world.specs.Link.{IsHonestWith, LinkSeen}
use Rattle.lc_world.specs.Sides.Short.{IsShort}
use Rattle.lc_world.specs.Sides.Side.{Side}
use Rattle.cli_replay.specs.ReplayLaws.Versions.{AreShort}
use Rattle.cli_replay.specs.declared.replay_laws.event.Event.{Event}
use Rattle.cli_replay.specs.declared.replay_laws.event.Event.TheVariants as events
use Rattle.journey_text.specs.ScriptReading.{SaysScript}
use Rattle.journey_text.specs.declared.script.Record.{Record}
use Rattle.journey_text.specs.declared.script.Record.TheVariants as records
use Rattle.timetable.specs.Recorded.{IsSound}
use Rattle.timetable.specs.declared.scope.Scope.{Scope}
use Rattle.timetable.specs.declared.timetable.Timetable.{Timetable}
use Rattle.version_store.specs.Store.{Stored}
use Rattle.lc_cli.specs.Drill.{IsDrilled}
use Rattle.lc_cli.specs.Scope.{scope_of}
use Rattle.lc_cli.specs.Top.{Past}
use Rattle.lc_cli.specs.declared.status.Status.{Status}
use Rattle.lc_cli.specs.declared.status.Status.TheVariants.{Done, Usage, FeedBroken, UpdateBroken, FolderFault, SinkFault, LinkFault, PeerWrong, QueryRefused, DoorFault, ScriptWrong, TooLarge, NoMemory}

-- there is no name and no file, or the file of this name is among those that are recorded
abbrev pub IsRecordedFile : List File → Option (List ℕ) → Option File → Type 0
IsRecordedFile recorded None None = Unit {0}
IsRecordedFile recorded None (Some file) = ⊥
IsRecordedFile recorded (Some name) None = ⊥
IsRecordedFile recorded (Some name) (Some file) = (file.name ≡ name) × (bytes_named recorded name ≡ Some file.bytes)

-- By the recorded files, this is the side of a publisher of the feed's timetable. It has the message, if there is one, which is a message
-- that is not too long. It takes messages from its clients, or not.
pub record IsPublishedSide (recorded : List File) (published : Published) (accepts : Bool) (side : Side) : Type 0 where
  pub made : Timetable
  pub sound : IsSound recorded (scope_of published.window) made
  pub file : Option File
  pub is_recorded : IsRecordedFile recorded published.update file
  pub store : Stored
  pub line : List ℕ
  pub behind : IsBehind file (store_of made published.publishing.base_moment) store line
  pub is : side ≡ side_for made published.publishing store accepts

-- the side to which `ask`, `fewest` or `arrive` puts its question
abbrev pub IsAskedSide : List File → Published → Side → Type 0
IsAskedSide recorded published = IsPublishedSide recorded published false

-- the side that `serve` publishes first, which takes messages where the arguments say so
abbrev pub IsServedSide : List File → Serve → Side → Type 0
IsServedSide recorded serve = IsPublishedSide recorded serve.published serve.accept_updates

-- the link was clear, and failed in no exchange
pub record HasClearLink (clear : Type 0) (before after : ℕ) : Type 0 where
  pub was_clear : clear
  pub no_fault : Rose before after → ⊥

-- what a question needs of its link: it was clear and did not fail, and the texts of the asked publisher fit into replies
pub record HasFairLink (recorded : List File) (published : Published) (clear : Type 0) (before after : ℕ) : Type 0 where
  pub link : HasClearLink clear before after
  pub short : (side : Side) → IsAskedSide recorded published side → IsShort side

-- the script is recorded, and says this; it may name messages or not
pub record IsRecordedScript (recorded : List File) (name : List ℕ) (updates : Bool) (script : List Record) : Type 0 where
  pub bytes : List ℕ
  pub is_recorded : bytes_named recorded name ≡ Some bytes
  pub says : SaysScript bytes updates script

-- what the record says as an event, by the recorded files
abbrev pub IsRecordedEvent : List File → Record → Event → Type 0
IsRecordedEvent recorded (records.Ask query) (events.Ask asked) = asked ≡ query
IsRecordedEvent recorded (records.Ask query) (events.Message message) = ⊥
IsRecordedEvent recorded (records.Ask query) (events.Turn client) = ⊥
IsRecordedEvent recorded (records.Update name) (events.Ask asked) = ⊥
IsRecordedEvent recorded (records.Update name) (events.Message message) = (message.file.name ≡ name) × (bytes_named recorded name ≡ Some message.file.bytes)
IsRecordedEvent recorded (records.Update name) (events.Turn client) = ⊥
IsRecordedEvent recorded (records.Turn client) (events.Ask asked) = ⊥
IsRecordedEvent recorded (records.Turn client) (events.Message message) = ⊥
IsRecordedEvent recorded (records.Turn client) (events.Turn turned) = turned ≡ client

-- the events are those of the records, one after the other, by the recorded files
abbrev pub AreRecordedEvents : List File → List Record → List Event → Type 0
AreRecordedEvents recorded [] [] = Unit {0}
AreRecordedEvents recorded [] (event ∷ all) = ⊥
AreRecordedEvents recorded (said ∷ script) [] = ⊥
AreRecordedEvents recorded (said ∷ script) (event ∷ more) = IsRecordedEvent recorded said event × AreRecordedEvents recorded script more

-- by the files that are recorded, these are the timetable and the event sequence of a replay
pub record IsRecordedCourse (recorded : List File) (replay : Replay) (made : Timetable) (all : List Event) : Type 0 where
  pub sound : IsSound recorded (scope_of replay.window) made
  pub script : List Record
  pub is_recorded : IsRecordedScript recorded replay.script true script
  pub are : AreRecordedEvents recorded script all

-- by the files that are recorded, these are the questions and turns of `plan` or `relay`, and no messages
pub record AreRecordedAsks (recorded : List File) (name : List ℕ) (all : List Event) : Type 0 where
  pub script : List Record
  pub is_recorded : IsRecordedScript recorded name false script
  pub say : SayEvents script all

-- What an event sequence needs of its link: it was clear and did not fail. The publisher's texts fit into replies, whatever it has heard.
pub record HasFairCourse (recorded : List File) (replay : Replay) (clear : Type 0) (before after : ℕ) : Type 0 where
  pub link : HasClearLink clear before after
  pub short : (made : Timetable) (all : List Event) → IsRecordedCourse recorded replay made all → AreShort made replay.publishing all

-- what `plan` and `relay` need of their link: it was honest under the base, with some side at its other end, and failed in no exchange
pub record HasHonestLink (base : BaseParts) (before after : LinkSeen) : Type 0 where
  pub first : Side
  pub was_honest : IsHonestWith before base first
  pub no_fault : Rose before.faults after.faults → ⊥

-- The directory records these files. No count of faults increased: the directory's, the door's and the sink's. Clients had a fair link.
pub record IsUnhindered {X : Type 0} (seen : X → LinkSeen) (p : Past X) (recorded : List File) : Type 0 where
  pub tells : p.folder_before.files ≡ Some recorded
  pub no_folder_fault : Rose p.folder_before.faults p.folder_after.faults → ⊥
  pub no_door_fault : Rose p.door_before.faults p.door_after.faults → ⊥
  pub no_sink_fault : Rose p.sink_before.faults p.sink_after.faults → ⊥
  pub fair : (ask : Ask) → SaysCommand p.words (commands.Ask ask)
      → HasFairLink recorded ask.published (seen p.link_before).clear (seen p.link_before).faults (seen p.link_after).faults
  pub fair_fewest : (fewest : Fewest) → SaysCommand p.words (commands.Fewest fewest)
      → HasFairLink recorded fewest.published (seen p.link_before).clear (seen p.link_before).faults (seen p.link_after).faults
  pub fair_arrive : (arrive : Arrive) → SaysCommand p.words (commands.Arrive arrive)
      → HasFairLink recorded arrive.published (seen p.link_before).clear (seen p.link_before).faults (seen p.link_after).faults
  pub fair_course : (replay : Replay) → SaysCommand p.words (commands.Replay replay)
      → HasFairCourse recorded replay (seen p.link_before).clear (seen p.link_before).faults (seen p.link_after).faults
  pub fair_drill : (drill : Drill) → SaysCommand p.words (commands.Drill drill) → (replay : Replay) → IsDrilled drill replay
      → HasFairCourse (drill_files drill.seed drill.days) replay (seen p.link_before).clear (seen p.link_before).faults (seen p.link_after).faults
  pub fair_plan : (plan : Plan) → SaysCommand p.words (commands.Plan plan) → HasHonestLink plan.base (seen p.link_before) (seen p.link_after)
  pub fair_relay : (relay : Relay) → SaysCommand p.words (commands.Relay relay) → HasHonestLink relay.base (seen p.link_before) (seen p.link_after)

-- by the files that are recorded, a feed has a timetable
pub record HasTimetable (recorded : List File) (scope : Scope) : Type 0 where
  pub made : Timetable
  pub sound : IsSound recorded scope made

-- by the files that are recorded, no rule and no limit refuses the feed of a command, if it has one
abbrev pub IsFed : List File → Command → Type 0
IsFed recorded (commands.Check check) = HasTimetable recorded (scope_of check.window)
IsFed recorded (commands.Ask ask) = HasTimetable recorded (scope_of ask.published.window)
IsFed recorded (commands.Replay replay) = HasTimetable recorded (scope_of replay.window)
IsFed recorded (commands.Serve serve) = HasTimetable recorded (scope_of serve.published.window)
IsFed recorded (commands.Plan plan) = Unit {0}
IsFed recorded (commands.Drill drill) = Unit {0}
IsFed recorded (commands.Fewest fewest) = HasTimetable recorded (scope_of fewest.published.window)
IsFed recorded (commands.Arrive arrive) = HasTimetable recorded (scope_of arrive.published.window)
IsFed recorded (commands.Relay relay) = Unit {0}

-- The message of a question or of a server, if it has one, reads as a message. There is a publisher to ask or to serve. The messages
-- of an event sequence do too. Its script reads as a script, and the questions and turns of `plan` and `relay` as such.
abbrev pub IsHeard : List File → Command → Type 0
IsHeard recorded (commands.Check check) = Unit {0}
IsHeard recorded (commands.Ask ask) = (side : Side) × IsAskedSide recorded ask.published side
IsHeard recorded (commands.Replay replay) = (made : Timetable) × (all : List Event) × IsRecordedCourse recorded replay made all
IsHeard recorded (commands.Serve serve) = (side : Side) × IsServedSide recorded serve side
IsHeard recorded (commands.Plan plan) = (all : List Event) × AreRecordedAsks recorded plan.asks all
IsHeard recorded (commands.Drill drill) =
    (replay : Replay) × (made : Timetable) × (all : List Event) × IsDrilled drill replay × IsRecordedCourse (drill_files drill.seed drill.days) replay made all
IsHeard recorded (commands.Fewest fewest) = (side : Side) × IsAskedSide recorded fewest.published side
IsHeard recorded (commands.Arrive arrive) = (side : Side) × IsAskedSide recorded arrive.published side
IsHeard recorded (commands.Relay relay) = (all : List Event) × AreRecordedAsks recorded relay.asks all

-- The arguments say a command, nothing hinders it, and by the recorded files no rule and no limit refuses what it reads.
pub record IsClear {X : Type 0} (seen : X → LinkSeen) (p : Past X) : Type 0 where
  pub command : Command
  pub says : SaysCommand p.words command
  pub recorded : List File
  pub unhindered : IsUnhindered seen p recorded
  pub fed : IsFed recorded command
  pub heard : IsHeard recorded command

-- the run ended with its output, or out of memory
abbrev pub IsAnswered : Status → Type 0
IsAnswered Done = Unit {0}
IsAnswered (QueryRefused client fault) = Unit {0}
IsAnswered NoMemory = Unit {0}
IsAnswered Usage = ⊥
IsAnswered (FeedBroken rule file row) = ⊥
IsAnswered (UpdateBroken name fault) = ⊥
IsAnswered (TooLarge what count) = ⊥
IsAnswered (FolderFault before after) = ⊥
IsAnswered (SinkFault before after) = ⊥
IsAnswered (LinkFault client before after) = ⊥
IsAnswered (PeerWrong client reply fault) = ⊥
IsAnswered (DoorFault before after) = ⊥
IsAnswered (ScriptWrong row) = ⊥
