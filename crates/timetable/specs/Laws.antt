-- The timetable of a feed is one, and a feed that has one is not refused.
use Rattle.std.specs.Prelude.{◌≡◌, ◌⊎◌, ◌≤◌, ℕ, List, length, Some, Result, Ok, Err}
use Rattle.lc_io.specs.Folder.{FolderSeen}
use Rattle.lc_io.specs.declared.file.File.{File}
use Rattle.lc_model.specs.Connection.{connections_of}
use Rattle.lc_model.specs.declared.run.Run.{Run}
use Rattle.lc_time.specs.declared.zone.Zone.{Zone}
use Rattle.service_days.specs.Laws.{ShowSame}
use Rattle.service_days.specs.ZoneWord.{IsWrong, SaysZone}
use Rattle.gtfs_tables.specs.declared.fields.fault.FileFault.TheVariants as wrong
use Rattle.gtfs_tables.specs.Feed.{AreTables, IsFirstBroken, named_at, what_of}
use Rattle.gtfs_tables.specs.Files.{files_of, name_of}
use Rattle.gtfs_tables.specs.declared.feed_file.FeedFile.{FeedFile}
use Rattle.gtfs_tables.specs.declared.tables.Tables.{Tables}
use Rattle.gtfs_tables.specs.declared.what.What.{What}
use Rattle.timetable.specs.Loading.{Loads, LoadsSo}
use Rattle.timetable.specs.Made.{HasManyChangesAlone, HasManyConnections}
use Rattle.timetable.specs.Timetable.{HasFewChanges, IsTimetableOf, RunsAre}
use Rattle.timetable.specs.Recorded.{IsSound, zone_bytes}
use Rattle.timetable.specs.declared.fault.LoadFault.{LoadFault}
use Rattle.timetable.specs.declared.fault.LoadFault.TheVariants as fault
use Rattle.timetable.specs.declared.scope.Scope.{Scope}
use Rattle.timetable.specs.declared.timetable.Timetable.{Timetable}

-- Two timetables have the same runs, document and counts. Their zones may be represented in two ways, but show the same.
pub record AreSame (a b : Timetable) : Type 0 where
  pub zones : ShowSame a.zone b.zone
  pub runs : a.runs ≡ b.runs
  pub doc : a.doc ≡ b.doc
  pub connections : a.connections ≡ b.connections
  pub trips : a.trips ≡ b.trips
  pub left_out : a.left_out ≡ b.left_out

-- tables have one timetable in a scope and a zone
abbrev pub OneOfTables : Type 0
OneOfTables =
    (scope : Scope) (zone : Zone) (tables : Tables) (a b : Timetable) → IsTimetableOf scope zone tables a → IsTimetableOf scope zone tables b
    → AreSame a b

-- recorded files have one timetable in a scope
abbrev pub OneTimetable : Type 0
OneTimetable = (files : List File) (scope : Scope) (a b : Timetable) → IsSound files scope a → IsSound files scope b → AreSame a b

-- what is loaded from a directory that records its files is the timetable of these
abbrev pub LoadsRecorded : Type 0
LoadsRecorded =
    (files : List File) (scope : Scope) (old new : FolderSeen) (made : Timetable) → old.files ≡ Some files → Loads scope old new made
    → IsSound files scope made

-- where recorded files have a timetable, none of them breaks a rule
abbrev pub NotBroken : Type 0
NotBroken =
    (files : List File) (scope : Scope) (old new : FolderSeen) (made : Timetable) (rule : ℕ) (file : List ℕ) (row : ℕ) → old.files ≡ Some files
    → IsSound files scope made → LoadsSo scope old new (Err (fault.Broken rule file row)) → ⊥

-- where recorded files have a timetable, nothing of it is too large
abbrev pub NotTooLarge : Type 0
NotTooLarge =
    (files : List File) (scope : Scope) (old new : FolderSeen) (made : Timetable) (what : What) (count : ℕ) → old.files ≡ Some files
    → IsSound files scope made → LoadsSo scope old new (Err (fault.TooLarge what count)) → ⊥

-- the end is one that the files have: neither a fault of the directory nor running out of memory
abbrev pub IsOfFiles : Result Timetable LoadFault → Type 0
IsOfFiles (Ok made) = Unit {0}
IsOfFiles (Err (fault.Broken rule file row)) = Unit {0}
IsOfFiles (Err (fault.TooLarge what count)) = Unit {0}
IsOfFiles (Err (fault.Folder before after)) = ⊥
IsOfFiles (Err fault.NoMemory) = ⊥

-- two ends are the same: one fault, or timetables that are the same
abbrev pub AreSameEnds : Result Timetable LoadFault → Result Timetable LoadFault → Type 0
AreSameEnds (Ok a) (Ok b) = AreSame a b
AreSameEnds (Ok a) (Err g) = ⊥
AreSameEnds (Err f) (Ok b) = ⊥
AreSameEnds (Err f) (Err g) = f ≡ g

-- The loading of recorded files ends in one way, but for faults of the directory and running out of memory. It is the timetable, the first rule that
-- is broken with its file and row, or what is too large and how much of it.
abbrev pub OneEnd : Type 0
OneEnd =
    (files : List File) (scope : Scope) (old new other later : FolderSeen) (x y : Result Timetable LoadFault)
    → old.files ≡ Some files → other.files ≡ Some files → IsOfFiles x → IsOfFiles y → LoadsSo scope old new x → LoadsSo scope other later y
    → AreSameEnds x y

-- The word says a zone and recorded files break this rule first. Then the loading ends with it, unless the directory fails or memory
-- runs out.
abbrev pub BrokenEnds : Type 0
BrokenEnds =
    (files : List File) (scope : Scope) (old new : FolderSeen) (end : Result Timetable LoadFault) (zone : Zone) (place : ℕ) (at : FeedFile) (rule row : ℕ)
    → old.files ≡ Some files → IsOfFiles end → LoadsSo scope old new end → SaysZone scope.zone (zone_bytes files scope.zone) zone
    → IsFirstBroken (files_of files scope.feed) place at (wrong.Broken rule row)
    → end ≡ Err (fault.Broken rule (name_of (named_at (files_of files scope.feed) at)) row)

-- where the word says no zone, it ends with rule 15 and the word
abbrev pub NoZoneEnds : Type 0
NoZoneEnds =
    (files : List File) (scope : Scope) (old new : FolderSeen) (end : Result Timetable LoadFault)
    → old.files ≡ Some files → IsOfFiles end → LoadsSo scope old new end → IsWrong scope.zone (zone_bytes files scope.zone)
    → end ≡ Err (fault.Broken 15 scope.zone 0)

-- where the first file that is wrong has too many rows, it ends with their number
abbrev pub RowsEnd : Type 0
RowsEnd =
    (files : List File) (scope : Scope) (old new : FolderSeen) (end : Result Timetable LoadFault) (zone : Zone) (place : ℕ) (at : FeedFile) (count : ℕ) (what : What)
    → old.files ≡ Some files → IsOfFiles end → LoadsSo scope old new end → SaysZone scope.zone (zone_bytes files scope.zone) zone
    → IsFirstBroken (files_of files scope.feed) place at (wrong.TooMany count) → what_of at ≡ Some what
    → end ≡ Err (fault.TooLarge what count)

-- where the tables have too many connections, or not these but too many changes, it ends with their number
abbrev pub MuchEnds : Type 0
MuchEnds =
    (files : List File) (scope : Scope) (old new : FolderSeen) (end : Result Timetable LoadFault) (zone : Zone) (tables : Tables) (what : What) (count : ℕ)
    → old.files ≡ Some files → IsOfFiles end → LoadsSo scope old new end → SaysZone scope.zone (zone_bytes files scope.zone) zone
    → AreTables (files_of files scope.feed) tables → HasManyConnections scope zone tables what count ⊎ HasManyChangesAlone scope zone tables what count
    → end ≡ Err (fault.TooLarge what count)

-- there is a timetable
abbrev pub IsMade : Result Timetable LoadFault → Type 0
IsMade (Ok made) = Unit {0}
IsMade (Err fault) = ⊥

-- and where no rule and no limit refuses the feed, there is a timetable
abbrev pub FineEnds : Type 0
FineEnds =
    (files : List File) (scope : Scope) (old new : FolderSeen) (end : Result Timetable LoadFault) (zone : Zone) (tables : Tables) (runs : List Run)
    → old.files ≡ Some files → IsOfFiles end → LoadsSo scope old new end → SaysZone scope.zone (zone_bytes files scope.zone) zone
    → AreTables (files_of files scope.feed) tables → RunsAre scope zone tables runs → length (connections_of runs) ≤ 4_000_000 → HasFewChanges scope tables
    → IsMade end
