-- Directories in memory of which no read fails.
use Rattle.std.specs.Prelude.{ℕ, List}
use Rattle.lc_io.specs.declared.file.File.{File}

-- the files, how often a name was absent, and the names asked for
pub record SureFolderState : Type 0 where
  pub files : List File
  pub absences : ℕ
  pub asked : List (List ℕ)
