-- The line and the status of a command that is refused, and how the run ends that says it.
use Rattle.std.specs.Prelude.{◌≡◌, ◌⊎◌, ℕ, List, ◌++◌, codes, decimal}
use Rattle.lc_io.specs.Sink.{SinkSeen}
use Rattle.gtfs_tables.specs.Texts.{what_text}
use Rattle.gtfs_tables.specs.declared.what.What.{What}
use Rattle.gtfs_tables.specs.declared.what.What.TheVariants as what
use Rattle.timetable.specs.declared.fault.LoadFault.TheVariants as fault
use Rattle.trip_updates.specs.Texts as messages
use Rattle.trip_updates.specs.declared.fault.RtFault.{RtFault}
use Rattle.lc_cli.specs.Writing.{Said}
use Rattle.cli_replay.specs.declared.inputs.refusal.Refusal.{Refusal}
use Rattle.cli_replay.specs.declared.inputs.refusal.Refusal.TheVariants as refused
use Rattle.lc_cli.specs.declared.status.Status.{Status}
use Rattle.lc_cli.specs.declared.status.Status.TheVariants.{Usage, FeedBroken, UpdateBroken, FolderFault, ScriptWrong, TooLarge, NoMemory}

-- `error feed F{rule} {file} row {row}`
abbrev pub feed_line_of : ℕ → List ℕ → ℕ → List ℕ
feed_line_of rule file row =
    codes "error feed F" ++ decimal rule ++ codes " " ++ file ++ codes " row " ++ decimal row ++ codes "\n"

-- `error too large {what} {count}`
abbrev pub large_line_of : What → ℕ → List ℕ
large_line_of what count = codes "error too large " ++ what_text what ++ codes " " ++ decimal count ++ codes "\n"

-- `error update {name} {fault}`
abbrev pub update_line_of : List ℕ → RtFault → List ℕ
update_line_of name fault = codes "error update " ++ name ++ codes " " ++ messages.fault_text fault ++ codes "\n"

-- `error script row {row}`
abbrev pub script_line_of : ℕ → List ℕ
script_line_of row = codes "error script row " ++ decimal row ++ codes "\n"

-- the line of running out of memory
abbrev pub no_memory_line : List ℕ
no_memory_line = codes "error no memory\n"

-- the line that says the refusal
abbrev pub error_line_of : Refusal → List ℕ
error_line_of refused.Usage = codes "error usage\n"
error_line_of (refused.Load (fault.Broken rule file row)) = feed_line_of rule file row
error_line_of (refused.Load (fault.TooLarge what count)) = large_line_of what count
error_line_of (refused.Load (fault.Folder before after)) = codes "error folder\n"
error_line_of (refused.Load fault.NoMemory) = no_memory_line
error_line_of (refused.Script row) = script_line_of row
error_line_of (refused.Folder before after) = codes "error folder\n"
error_line_of (refused.LongUpdate bytes) = large_line_of what.Update bytes
error_line_of (refused.BrokenUpdate name fault) = update_line_of name fault

-- the status with which it ends
abbrev pub status_of : Refusal → Status
status_of refused.Usage = Usage
status_of (refused.Load (fault.Broken rule file row)) = FeedBroken rule file row
status_of (refused.Load (fault.TooLarge what count)) = TooLarge what count
status_of (refused.Load (fault.Folder before after)) = FolderFault before after
status_of (refused.Load fault.NoMemory) = NoMemory
status_of (refused.Script row) = ScriptWrong row
status_of (refused.Folder before after) = FolderFault before after
status_of (refused.LongUpdate bytes) = TooLarge what.Update bytes
status_of (refused.BrokenUpdate name fault) = UpdateBroken name fault

-- the line of the refusal names what it is about, and is made when it is said, which takes memory
abbrev pub HasMadeLine : Refusal → Type 0
HasMadeLine refused.Usage = ⊥
HasMadeLine (refused.Load (fault.Broken rule file row)) = Unit {0}
HasMadeLine (refused.Load (fault.TooLarge what count)) = Unit {0}
HasMadeLine (refused.Load (fault.Folder before after)) = ⊥
HasMadeLine (refused.Load fault.NoMemory) = ⊥
HasMadeLine (refused.Script row) = Unit {0}
HasMadeLine (refused.Folder before after) = ⊥
HasMadeLine (refused.LongUpdate bytes) = Unit {0}
HasMadeLine (refused.BrokenUpdate name fault) = Unit {0}

-- the line was said, and the status is that of the refusal
pub record IsRefused (refusal : Refusal) (before after : SinkSeen) (status : Status) : Type 0 where
  pub status_is : status ≡ status_of refusal
  pub said : Said before after (error_line_of refusal)

-- there was no memory to make the line, and the one that says so was said in its place
pub record LacksLine (refusal : Refusal) (before after : SinkSeen) (status : Status) : Type 0 where
  pub made : HasMadeLine refusal
  pub status_is : status ≡ NoMemory
  pub said : Said before after no_memory_line

-- how the run ends that says the refusal
abbrev pub IsRefusalEnd : Refusal → SinkSeen → SinkSeen → Status → Type 0
IsRefusalEnd refusal before after status = IsRefused refusal before after status ⊎ LacksLine refusal before after status
