-- How the zone of a feed is found by its word.
use Rattle.std.specs.Prelude.{◌≡◌, ◌⊎◌, ℕ, List, Option, Some, None, IfSome, IsNone, MatchOption, Result, Ok, Err}
use Rattle.lc_io.specs.Counts.{Rose}
use Rattle.lc_io.specs.Folder.{FolderSeen, asked_after, bytes_named}
use Rattle.lc_time.specs.declared.zone.Zone.{Zone}
use Rattle.service_days.specs.ZoneWord.{IsWrong, SaysZone, file_named}
use Rattle.gtfs_tables.specs.Reading.{Keeps}
use Rattle.timetable.specs.declared.zone_end.ZoneEnd.{ZoneEnd}
use Rattle.timetable.specs.declared.zone_end.ZoneEnd.TheVariants.{Wrong, Failed, NoMemory}

-- The directory was asked for the file of this name, and this was found: its bytes, or none, and an absence was counted.
pub record Finds (old new : FolderSeen) (name : List ℕ) (found : Option (List ℕ)) : Type 0 where
  pub there : IfSome old.files (λ files. found ≡ bytes_named files name)
  pub asked : new.asked ≡ asked_after old.asked name
  pub counted : IsNone found → Rose old.absences new.absences
  pub kept : Keeps old new

-- Where the word names a file, the directory was asked for it, and this was found; else it was asked for nothing.
abbrev pub LooksUp : FolderSeen → FolderSeen → List ℕ → Option (List ℕ) → Type 0
LooksUp old new word found = MatchOption (file_named word) ((new ≡ old) × (found ≡ None)) (λ name. Finds old new name found)

-- the word, with the file that it names, says the zone
pub record ReadsZone (old new : FolderSeen) (word : List ℕ) (zone : Zone) : Type 0 where
  pub found : Option (List ℕ)
  pub looked : LooksUp old new word found
  pub says : SaysZone word found zone

-- the word, with the file that it names, says no zone
pub record FindsNoZone (old new : FolderSeen) (word : List ℕ) : Type 0 where
  pub found : Option (List ℕ)
  pub looked : LooksUp old new word found
  pub wrong : IsWrong word found

-- the word names a file, for which the directory was asked, and it failed to read it
pub record FailsAtZone (old new : FolderSeen) (word : List ℕ) : Type 0 where
  pub name : List ℕ
  pub named : file_named word ≡ Some name
  pub asked : new.asked ≡ asked_after old.asked name
  pub counted : Rose old.faults new.faults
  pub kept : Keeps old new

-- memory ran out at the zone: the directory was asked for nothing, or for the file that the word names
pub record RunsOutAtZone (old new : FolderSeen) (word : List ℕ) : Type 0 where
  pub asked : (new.asked ≡ old.asked) ⊎ IfSome (file_named word) (λ name. new.asked ≡ asked_after old.asked name)
  pub kept : Keeps old new

-- how the look-up of a zone's file ends
abbrev pub EndsAtLook : FolderSeen → FolderSeen → List ℕ → Result (Option (List ℕ)) ZoneEnd → Type 0
EndsAtLook old new word (Ok file) = LooksUp old new word file
EndsAtLook old new word (Err Wrong) = ⊥
EndsAtLook old new word (Err Failed) = FailsAtZone old new word
EndsAtLook old new word (Err NoMemory) = RunsOutAtZone old new word

-- how the finding of a zone ends
abbrev pub EndsAtZone : FolderSeen → FolderSeen → List ℕ → Result Zone ZoneEnd → Type 0
EndsAtZone old new word (Ok zone) = ReadsZone old new word zone
EndsAtZone old new word (Err Wrong) = FindsNoZone old new word
EndsAtZone old new word (Err Failed) = FailsAtZone old new word
EndsAtZone old new word (Err NoMemory) = RunsOutAtZone old new word
