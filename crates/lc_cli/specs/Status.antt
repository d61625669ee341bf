-- The exit status of each end of a run.
use Rattle.std.specs.Prelude.{ℕ}
use Rattle.lc_cli.specs.declared.status.Status.{Status}
use Rattle.lc_cli.specs.declared.status.Status.TheVariants.{Done, Usage, FeedBroken, UpdateBroken, FolderFault, SinkFault, LinkFault, PeerWrong, QueryRefused, DoorFault, ScriptWrong, TooLarge, NoMemory}

-- the number of a status
abbrev pub code_of : Status → ℕ
code_of Done = 0
code_of Usage = 2
code_of (FeedBroken rule file row) = 3
code_of (UpdateBroken name fault) = 4
code_of (FolderFault before after) = 5
code_of (SinkFault before after) = 6
code_of (LinkFault client before after) = 7
code_of (PeerWrong client reply fault) = 8
code_of (QueryRefused client fault) = 9
code_of (DoorFault before after) = 10
code_of (ScriptWrong row) = 11
code_of NoMemory = 12
code_of (TooLarge what count) = 13
