-- What a run results in: its status, with the cause, and what it leaves in the sink.
use Rattle.std.specs.Prelude.{◌≡◌, ◌⊎◌, ℕ, List}
use Rattle.lc_io.specs.Door.{DoorSeen}
use Rattle.lc_io.specs.Folder.{FolderSeen}
use Rattle.lc_io.specs.Sink.{SinkSeen}
use Rattle.lc_world.specs.Link.{LinkSeen}
use Rattle.lc_cli.specs.Block.{IsBlockEnd}
use Rattle.lc_cli.specs.Command.{IsRightBlock, IsRightRefusal, IsRightServer}
use Rattle.lc_cli.specs.Refusal.{IsRefusalEnd}
use Rattle.lc_cli.specs.Serving.{IsServingEnd}
use Rattle.lc_cli.specs.declared.block.Block.{Block}
use Rattle.lc_cli.specs.declared.server.Server.{Server}
use Rattle.cli_replay.specs.declared.inputs.refusal.Refusal.{Refusal}
use Rattle.lc_cli.specs.declared.status.Status.{Status}
use Rattle.lc_cli.specs.declared.status.Status.TheVariants.{Done, Usage, FeedBroken, UpdateBroken, FolderFault, SinkFault, LinkFault, PeerWrong, QueryRefused, DoorFault, ScriptWrong, TooLarge, NoMemory}

-- The arguments, and what is seen of the directory, the door and the sink before and after the run. The link of type X before and after it.
pub record Past (X : Type 0) : Type 0 where
  pub words : List (List ℕ)
  pub folder_before : FolderSeen
  pub folder_after : FolderSeen
  pub link_before : X
  pub link_after : X
  pub door_before : DoorSeen
  pub door_after : DoorSeen
  pub sink_before : SinkSeen
  pub sink_after : SinkSeen

-- The command has something to print: the counts of the feed's timetable, or the lines of messages and of the clients that asked. It was
-- written whole. The status is Done, or that of the first client without an answer. Such a client has a refused question, a failed
-- exchange, or a reply that failed a test. Or the sink failed or ran out of memory, which it counted, and a front of it was written.
pub record HasPrinted {X : Type 0} (seen : X → LinkSeen) (p : Past X) (status : Status) : Type 0 where
  pub block : Block
  pub right : IsRightBlock p.words p.folder_before p.folder_after (seen p.link_before) (seen p.link_after) block
  pub end : IsBlockEnd block p.sink_before p.sink_after status
  pub door_stays : p.door_after ≡ p.door_before

-- There is a cause why nothing is printed but an error line: the arguments, the feed, the directory, a message, the script, or memory. That line
-- was written whole, or a front of it, where the sink counted a fault, or ran out of memory. The status is that of the cause.
pub record WasRefused {X : Type 0} (p : Past X) (status : Status) : Type 0 where
  pub refusal : Refusal
  pub right : IsRightRefusal p.words p.folder_before p.folder_after refusal
  pub end : IsRefusalEnd refusal p.sink_before p.sink_after status
  pub door_stays : p.door_after ≡ p.door_before

-- The command is `serve`: connections were served from the publisher of its feed's timetable on, each by the publisher as the one before left it.
-- Nothing was asked over the link.
pub record HasServed {X : Type 0} (p : Past X) (status : Status) : Type 0 where
  pub server : Server
  pub right : IsRightServer p.words p.folder_before p.folder_after server
  pub end : IsServingEnd server p.door_before p.door_after p.sink_before p.sink_after status
  pub link_stays : p.link_after ≡ p.link_before

-- each status has its cause; `seen` is what is promised of the link
abbrev pub IsRight : {X : Type 0} → (X → LinkSeen) → Past X → Status → Type 0
IsRight seen p status = HasPrinted seen p status ⊎ WasRefused p status ⊎ HasServed p status

-- a refusal that is no client's, and not out of memory
abbrev pub IsEarlyRefusal : Status → Type 0
IsEarlyRefusal Done = ⊥
IsEarlyRefusal Usage = Unit {0}
IsEarlyRefusal (FeedBroken rule file row) = Unit {0}
IsEarlyRefusal (UpdateBroken name fault) = Unit {0}
IsEarlyRefusal (FolderFault before after) = Unit {0}
IsEarlyRefusal (SinkFault before after) = ⊥
IsEarlyRefusal (LinkFault client before after) = ⊥
IsEarlyRefusal (PeerWrong client reply fault) = ⊥
IsEarlyRefusal (QueryRefused client fault) = ⊥
IsEarlyRefusal (DoorFault before after) = Unit {0}
IsEarlyRefusal (ScriptWrong row) = Unit {0}
IsEarlyRefusal (TooLarge what count) = Unit {0}
IsEarlyRefusal NoMemory = ⊥
