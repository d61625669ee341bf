-- How the loading of a timetable ends: the zone is found, the files are read, and then its runs and its changes are made.
use Rattle.std.specs.Prelude.{◌≡◌, ◌⊎◌, ℕ, List, Result, Ok, Err}
use Rattle.lc_io.specs.Counts.{Rose}
use Rattle.lc_io.specs.Folder.{FolderSeen}
use Rattle.lc_time.specs.declared.zone.Zone.{Zone}
use Rattle.gtfs_tables.specs.Files.{name_of}
use Rattle.gtfs_tables.specs.Reading.{EndsSo}
use Rattle.gtfs_tables.specs.declared.fault.FeedFault.{FeedFault}
use Rattle.gtfs_tables.specs.declared.fault.FeedFault.TheVariants as feed
use Rattle.gtfs_tables.specs.declared.feed_file.FeedFile.{FeedFile}
use Rattle.gtfs_tables.specs.declared.tables.Tables.{Tables}
use Rattle.gtfs_tables.specs.declared.what.What.{What}
use Rattle.timetable.specs.Made.{HasManyChangesAlone, HasManyConnections}
use Rattle.timetable.specs.Timetable.{IsTimetableOf}
use Rattle.timetable.specs.Zone.{FailsAtZone, FindsNoZone, ReadsZone, RunsOutAtZone}
use Rattle.timetable.specs.declared.fault.LoadFault.{LoadFault}
use Rattle.timetable.specs.declared.fault.LoadFault.TheVariants.{Broken, TooLarge, Folder, NoMemory}
use Rattle.timetable.specs.declared.scope.Scope.{Scope}
use Rattle.timetable.specs.declared.timetable.Timetable.{Timetable}

-- the zone was found, and then the reading of the feed's files ended so
pub record ReadsFeed (scope : Scope) (old new : FolderSeen) (zone : Zone) (result : Result Tables FeedFault) : Type 0 where
  pub between : FolderSeen
  pub zone_read : ReadsZone old between scope.zone zone
  pub files_read : EndsSo between new scope.feed result

-- the tables of the feed were read
abbrev pub ReadsTables : Scope → FolderSeen → FolderSeen → Zone → Tables → Type 0
ReadsTables scope old new zone tables = ReadsFeed scope old new zone (Ok tables)

-- the zone was found, and a file of the feed breaks this rule first
pub record BreaksRule (scope : Scope) (old new : FolderSeen) (rule : ℕ) (file : List ℕ) (row : ℕ) : Type 0 where
  pub zone : Zone
  pub at : FeedFile
  pub read : ReadsFeed scope old new zone (Err (feed.Broken rule at row))
  pub named : file ≡ name_of at

-- the word says no zone, which is rule 15
pub record HasNoZone (scope : Scope) (old new : FolderSeen) (rule : ℕ) (file : List ℕ) (row : ℕ) : Type 0 where
  pub wrong : FindsNoZone old new scope.zone
  pub by_rule : rule ≡ 15
  pub word : file ≡ scope.zone
  pub of_no_row : row ≡ 0

-- a file of the feed has so many rows, which are too many
pub record HasTooManyRows (scope : Scope) (old new : FolderSeen) (what : What) (count : ℕ) : Type 0 where
  pub zone : Zone
  pub read : ReadsFeed scope old new zone (Err (feed.TooLarge what count))

-- the tables were read, but there is too much of something in their timetable
pub record MakesTooMuch (scope : Scope) (old new : FolderSeen) (what : What) (count : ℕ) : Type 0 where
  pub zone : Zone
  pub tables : Tables
  pub read : ReadsTables scope old new zone tables
  pub much : HasManyConnections scope zone tables what count ⊎ HasManyChangesAlone scope zone tables what count

-- the tables were read, and this is their timetable
pub record Loads (scope : Scope) (old new : FolderSeen) (made : Timetable) : Type 0 where
  pub zone : Zone
  pub tables : Tables
  pub read : ReadsTables scope old new zone tables
  pub is : IsTimetableOf scope zone tables made

-- a file could not be read: that of the zone, or one of the feed
abbrev pub FailsAt : Scope → FolderSeen → FolderSeen → Type 0
FailsAt scope old new =
    FailsAtZone old new scope.zone
    ⊎ ((zone : Zone) × (before : ℕ) × (after : ℕ) × ReadsFeed scope old new zone (Err (feed.Folder before after)))

-- How the loading ends. Each fault has its cause; memory may run out at any place.
abbrev pub LoadsSo : Scope → FolderSeen → FolderSeen → Result Timetable LoadFault → Type 0
LoadsSo scope old new (Ok made) = Loads scope old new made
LoadsSo scope old new (Err (Broken rule file row)) = HasNoZone scope old new rule file row ⊎ BreaksRule scope old new rule file row
LoadsSo scope old new (Err (TooLarge what count)) =
    HasTooManyRows scope old new what count ⊎ MakesTooMuch scope old new what count
LoadsSo scope old new (Err (Folder before after)) =
    (before ≡ old.faults) × (after ≡ new.faults) × Rose before after × FailsAt scope old new
LoadsSo scope old new (Err NoMemory) =
    RunsOutAtZone old new scope.zone
    ⊎ ((zone : Zone) × (result : Result Tables FeedFault) × ReadsFeed scope old new zone result)

-- how the fault of a feed is reported, where the count of the directory's faults was this at the start; memory may run out
abbrev pub IsReportedAs : FeedFault → ℕ → LoadFault → Type 0
IsReportedAs (feed.Broken rule at row) before fault = (fault ≡ Broken rule (name_of at) row) ⊎ (fault ≡ NoMemory)
IsReportedAs (feed.TooLarge what count) before fault = fault ≡ TooLarge what count
IsReportedAs (feed.Folder first after) before fault = fault ≡ Folder before after
IsReportedAs feed.NoMemory before fault = fault ≡ NoMemory
