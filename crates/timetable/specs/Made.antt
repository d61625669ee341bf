-- Why no timetable is made of tables: they have too many connections, or too many changes. Running out of memory is no cause.
use Rattle.std.specs.Prelude.{◌≡◌, ◌⊎◌, ℕ, ◌<◌, List, length}
use Rattle.lc_model.specs.Connection.{connections_of}
use Rattle.lc_model.specs.declared.run.Run.{Run}
use Rattle.lc_time.specs.declared.zone.Zone.{Zone}
use Rattle.change_table.specs.ChangeTable.{count_of_changes}
use Rattle.gtfs_tables.specs.declared.tables.Tables.{Tables}
use Rattle.gtfs_tables.specs.declared.what.What.{What}
use Rattle.gtfs_tables.specs.declared.what.What.TheVariants.{Connections, Changes}
use Rattle.timetable.specs.Timetable.{HaveFewConnections, RunsAre}
use Rattle.timetable.specs.declared.fault.LoadFault.{LoadFault}
use Rattle.timetable.specs.declared.fault.LoadFault.TheVariants.{Broken, TooLarge, Folder, NoMemory}
use Rattle.timetable.specs.declared.scope.Scope.{Scope}

-- the runs of the tables have so many connections, which are too many
pub record HasManyConnections (scope : Scope) (zone : Zone) (tables : Tables) (what : What) (count : ℕ) : Type 0 where
  pub runs : List Run
  pub are_runs : RunsAre scope zone tables runs
  pub many : 4_000_000 < length (connections_of runs)
  pub counted : count ≡ length (connections_of runs)
  pub of_connections : what ≡ Connections

-- there are too many changes between the stops of the tables, of which the first that is too many is counted
pub record HasManyChanges (scope : Scope) (tables : Tables) (what : What) (count : ℕ) : Type 0 where
  pub many : 1_000_000 < count_of_changes tables.stops tables.transfers scope.change
  pub counted : count ≡ 1_000_001
  pub of_changes : what ≡ Changes

-- the runs of the tables have few connections, but there are too many changes
pub record HasManyChangesAlone (scope : Scope) (zone : Zone) (tables : Tables) (what : What) (count : ℕ) : Type 0 where
  pub runs : List Run
  pub are_runs : RunsAre scope zone tables runs
  pub few : HaveFewConnections runs
  pub changes : HasManyChanges scope tables what count

-- why no runs are made
abbrev pub FailsToMakeRuns : Scope → Zone → Tables → LoadFault → Type 0
FailsToMakeRuns scope zone tables (Broken rule file row) = ⊥
FailsToMakeRuns scope zone tables (TooLarge what count) = HasManyConnections scope zone tables what count
FailsToMakeRuns scope zone tables (Folder before after) = ⊥
FailsToMakeRuns scope zone tables NoMemory = Unit {0}

-- why no changes are made
abbrev pub FailsToMakeChanges : Scope → Tables → LoadFault → Type 0
FailsToMakeChanges scope tables (Broken rule file row) = ⊥
FailsToMakeChanges scope tables (TooLarge what count) = HasManyChanges scope tables what count
FailsToMakeChanges scope tables (Folder before after) = ⊥
FailsToMakeChanges scope tables NoMemory = Unit {0}

-- why no timetable is made
abbrev pub FailsToMake : Scope → Zone → Tables → LoadFault → Type 0
FailsToMake scope zone tables (Broken rule file row) = ⊥
FailsToMake scope zone tables (TooLarge what count) =
    HasManyConnections scope zone tables what count ⊎ HasManyChangesAlone scope zone tables what count
FailsToMake scope zone tables (Folder before after) = ⊥
FailsToMake scope zone tables NoMemory = Unit {0}
