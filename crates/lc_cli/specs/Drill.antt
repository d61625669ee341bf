-- What a drill results in: the replay of generated files, and its summary.
use Rattle.std.specs.Prelude.{◌≡◌, ◌⊎◌, ℕ, ◌+◌, List, [], ◌∷◌, ◌++◌, Some, codes, decimal, length}
use Rattle.cli_ask.specs.declared.end.ClientEnd.{ClientEnd}
use Rattle.cli_drill.specs.Files.{drill_files}
use Rattle.cli_replay.specs.Summary.{leaves_in, summary_of}
use Rattle.cli_replay.specs.Inputs.Script.{IsReplayRefused}
use Rattle.cli_replay.specs.declared.inputs.refusal.Refusal.{Refusal}
use Rattle.cli_replay.specs.declared.inputs.refusal.Refusal.TheVariants.{Load}
use Rattle.cli_words.specs.Drill.{drilled_words}
use Rattle.cli_words.specs.Words.{SaysCommand}
use Rattle.cli_words.specs.declared.command.Command.TheVariants as commands
use Rattle.cli_words.specs.declared.command.Drill.{Drill}
use Rattle.cli_words.specs.declared.command.Publishing.{Publishing}
use Rattle.cli_words.specs.declared.command.Replay.{Replay}
use Rattle.cli_replay.specs.ReplayLaws.Events.{messages_in}
use Rattle.cli_replay.specs.ReplayLaws.Replayed.{IsReplayed}
use Rattle.cli_replay.specs.ReplayLaws.Versions.{HaveAdmitted}
use Rattle.cli_replay.specs.declared.replay_laws.event.Event.{Event}
use Rattle.lc_io.specs.Folder.{FolderSeen}
use Rattle.lc_io.specs.SureFolder.{SureFolderState}
use Rattle.lc_world.specs.Link.{LinkSeen}
use Rattle.timetable.specs.declared.fault.LoadFault.TheVariants as fault
use Rattle.timetable.specs.declared.timetable.Timetable.{Timetable}
use Rattle.lc_cli.specs.Replay.{IsPlayedBy}
use Rattle.lc_cli.specs.Scope.{scope_of}
use Rattle.lc_cli.specs.declared.block.Block.{Block}
use Rattle.lc_cli.specs.declared.course.Course.{Course}

-- a directory in memory, of which no read fails
abbrev pub sure_seen : SureFolderState → FolderSeen
sure_seen folder = record { files = Some folder.files; faults = 0; absences = folder.absences; asked = Some folder.asked }

-- that of the generated files, of which none was asked for yet
abbrev pub drill_folder : Drill → SureFolderState
drill_folder drill = record { files = drill_files drill.seed drill.days; absences = 0; asked = [] }

-- the replay that is played: `replay feed 20240501 script.csv --days D`, with every other option by default
abbrev pub IsDrilled : Drill → Replay → Type 0
IsDrilled drill replay = SaysCommand (codes "replay" ∷ drilled_words drill.days) (commands.Replay replay)

-- `drill {N} stops {n} trips {n} connections {n}`
abbrev pub size_line_of : ℕ → ℕ → ℕ → ℕ → List ℕ
size_line_of seed stops trips connections =
    codes "drill " ++ decimal seed ++ codes " stops " ++ decimal stops ++ codes " trips " ++ decimal trips ++ codes " connections " ++ decimal connections ++ codes "\n"

-- the line of the timetable that was loaded
abbrev pub drill_line_of : ℕ → Timetable → List ℕ
drill_line_of seed made = size_line_of seed (length made.doc.stops) (made.trips + made.left_out) made.connections

-- how many messages were admitted, and the summary that says it of a timetable, of events and of the ends of their clients
pub record IsSummary (seed : ℕ) (made : Timetable) (publishing : Publishing) (all : List Event) (ends : List ClientEnd) (summary : List ℕ) : Type 0 where
  pub admitted : ℕ
  pub have_admitted : HaveAdmitted made publishing all admitted
  pub is : summary ≡ drill_line_of seed made ++ summary_of admitted (messages_in all) (leaves_in all) ends

-- The replay of the generated files was played over the link. The block has the ends of its clients, and in place of their lines the summary.
pub record IsDrillBlock (drill : Drill) (before after : LinkSeen) (block : Block) : Type 0 where
  pub replay : Replay
  pub drilled : IsDrilled drill replay
  pub read : SureFolderState
  pub text : List ℕ
  pub played : IsPlayedBy replay (sure_seen (drill_folder drill)) (sure_seen read) before after text block.ends.items
  pub summary : IsSummary drill.seed played.made replay.publishing played.all block.ends.items block.text.items

-- an event sequence was played over the link, and the block has the ends of its clients and the summary
pub record IsSummed (seed : ℕ) (course : Course) (before after : LinkSeen) (block : Block) : Type 0 where
  pub text : List ℕ
  pub replayed : IsReplayed course.made course.publishing course.events.items course.cache before after text block.ends.items
  pub summary : IsSummary seed course.made course.publishing course.events.items block.ends.items block.text.items

-- the replay of the generated files is refused for this
pub record IsRefusedReplay (drill : Drill) (refusal : Refusal) : Type 0 where
  pub replay : Replay
  pub drilled : IsDrilled drill replay
  pub read : SureFolderState
  pub refused : IsReplayRefused (scope_of replay.window) replay.script (sure_seen (drill_folder drill)) (sure_seen read) refusal

-- why a drill is refused: as the replay of its files, or memory ran out
abbrev pub IsDrillRefused : Drill → Refusal → Type 0
IsDrillRefused drill refusal = (refusal ≡ Load fault.NoMemory) ⊎ IsRefusedReplay drill refusal
