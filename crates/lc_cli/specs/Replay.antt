-- What a replay results in before anything is written.
use Rattle.std.specs.Prelude.{◌≡◌, ℕ, List}
use Rattle.cli_ask.specs.declared.end.ClientEnd.{ClientEnd}
use Rattle.cli_replay.specs.Inputs.Script.{ReadsReplay}
use Rattle.cli_words.specs.declared.command.Replay.{Replay}
use Rattle.cli_replay.specs.ReplayLaws.Replayed.{IsReplayed}
use Rattle.cli_replay.specs.declared.replay_laws.event.Event.{Event}
use Rattle.lc_io.specs.Folder.{FolderSeen}
use Rattle.lc_world.specs.Link.{LinkSeen}
use Rattle.timetable.specs.declared.timetable.Timetable.{Timetable}
use Rattle.lc_cli.specs.Scope.{scope_of}
use Rattle.lc_cli.specs.declared.block.Block.{Block}
use Rattle.lc_cli.specs.declared.course.Course.{Course}

-- A publisher of the timetable received the messages of the script, and clients asked it their questions over the link. The text is the lines
-- of the messages and those of the clients.
pub record IsPlayedBy (replay : Replay) (old new : FolderSeen) (before after : LinkSeen) (text : List ℕ) (ends : List ClientEnd) : Type 0 where
  pub made : Timetable
  pub all : List Event
  pub inputs : ReadsReplay (scope_of replay.window) replay.script old new made all
  pub replayed : IsReplayed made replay.publishing all replay.cache before after text ends

-- the block has this text and these ends
abbrev pub IsReplayBlock : Replay → FolderSeen → FolderSeen → LinkSeen → LinkSeen → Block → Type 0
IsReplayBlock replay old new before after block = IsPlayedBy replay old new before after block.text.items block.ends.items

-- What the event sequence of a replay is played from was read, and it is played as the arguments say.
pub record IsCourse (replay : Replay) (old new : FolderSeen) (course : Course) : Type 0 where
  pub read : ReadsReplay (scope_of replay.window) replay.script old new course.made course.events.items
  pub publishing_is : course.publishing ≡ replay.publishing
  pub cache_is : course.cache ≡ replay.cache
