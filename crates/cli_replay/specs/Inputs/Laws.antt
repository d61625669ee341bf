-- Equal files say one script of questions and turns.
use Rattle.std.specs.Prelude.{◌≡◌, ℕ, List, Some}
use Rattle.lc_io.specs.Folder.{FolderSeen}
use Rattle.lc_io.specs.declared.file.File.{File}
use Rattle.cli_replay.specs.declared.replay_laws.event.Event.{Event}
use Rattle.cli_replay.specs.Inputs.Plan.{ReadsPlan}

-- two readings of the script of one name, in directories that record the same files, give the same events
abbrev pub OnePlan : Type 0
OnePlan =
    (files : List File) (name : List ℕ) (old new other later : FolderSeen) (all more : List Event)
    → old.files ≡ Some files → other.files ≡ Some files → ReadsPlan name old new all → ReadsPlan name other later more → all ≡ more
