-- What a directory is seen to be.
use Rattle.std.specs.Prelude.{◌≡◌, ◌⊎◌, ℕ, List, [], ◌∷◌, ◌++◌, Option, option_map, Result, Ok, Err, find, nat_eq}
use lib.Pointwise.{pointwise}
use Rattle.lc_io.specs.declared.file.File.{File}
use Rattle.lc_io.specs.declared.folder.FolderFail.{FolderFail}
use Rattle.lc_io.specs.declared.folder.FolderFail.TheVariants.{Failed, Absent, NoMemory}

-- The files, where the directory records them. How often a read has failed and a name was absent. The names that it was
-- asked for, in their order, where it records them.
pub record FolderSeen : Type 0 where
  pub files : Option (List File)
  pub faults : ℕ
  pub absences : ℕ
  pub asked : Option (List (List ℕ))

-- the bytes of the file of this name: of two files of one name the first counts
abbrev pub bytes_named : List File → List ℕ → Option (List ℕ)
bytes_named files name = option_map (λ (f : File). f.bytes) (find (λ (f : File). pointwise nat_eq f.name name) files)

-- one name more was asked for, where the directory records its names
abbrev pub asked_after : Option (List (List ℕ)) → List ℕ → Option (List (List ℕ))
asked_after asked name = option_map (λ names. names ++ name ∷ []) asked

-- the directory records that it was asked for this name; after running out of memory it may not
abbrev pub TellsAsked : {T : Type 0} → Option (List (List ℕ)) → Option (List (List ℕ)) → List ℕ → Result T FolderFail → Type 0
TellsAsked old new name (Ok bytes) = new ≡ asked_after old name
TellsAsked old new name (Err Failed) = new ≡ asked_after old name
TellsAsked old new name (Err Absent) = new ≡ asked_after old name
TellsAsked old new name (Err NoMemory) = (new ≡ old) ⊎ (new ≡ asked_after old name)
