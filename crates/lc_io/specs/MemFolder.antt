-- Directories in memory.
use Rattle.std.specs.Prelude.{ℕ, List}
use Rattle.lc_io.specs.declared.file.File.{File}

-- the files, the numbers of the reads that fail, how many reads there were, the two counts, and the names asked for
pub record MemFolderState : Type 0 where
  pub files : List File
  pub fails : List ℕ
  pub reads : ℕ
  pub faults : ℕ
  pub absences : ℕ
  pub asked : List (List ℕ)
