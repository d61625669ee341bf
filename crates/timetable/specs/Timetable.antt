-- The timetable of a feed: what its tables say in a window of days, in a zone.
use Rattle.std.specs.Prelude.{◌≡◌, ◌≤◌, List, length}
use Rattle.lc_model.specs.Connection.{connections_of}
use Rattle.lc_model.specs.declared.doc.StopsDoc.{StopsDoc}
use Rattle.lc_model.specs.declared.run.Run.{Run}
use Rattle.lc_time.specs.declared.zone.Zone.{Zone}
use Rattle.change_table.specs.ChangeTable.{AreChangesOf, count_of_changes}
use Rattle.gtfs_tables.specs.declared.tables.Tables.{Tables}
use Rattle.service_days.specs.Days.{AreDays}
use Rattle.service_days.specs.declared.service_day.ServiceDay.{ServiceDay}
use Rattle.timetable.specs.declared.scope.Scope.{Scope}
use Rattle.timetable.specs.declared.timetable.Timetable.{Timetable}
use Rattle.trip_calls.specs.Runs.{AreRunsOf}

-- these are the runs of the tables on the dates of the window, in the zone
pub record RunsAre (scope : Scope) (zone : Zone) (tables : Tables) (runs : List Run) : Type 0 where
  pub days : List ServiceDay
  pub are_days : AreDays tables.services.weekly tables.services.dates scope.first scope.days days
  pub are_runs : AreRunsOf tables.trips tables.stop_times tables.frequencies days zone runs

-- the document has the stops of the tables, and the changes between them
pub record IsDocOf (scope : Scope) (tables : Tables) (doc : StopsDoc) : Type 0 where
  pub stops : doc.stops ≡ tables.stops
  pub changes : AreChangesOf tables.stops tables.transfers scope.change doc.changes

-- the runs have at most so many connections as are taken
abbrev pub HaveFewConnections : List Run → Type 0
HaveFewConnections runs = length (connections_of runs) ≤ 4_000_000

-- at most so many ordered pairs of stops have a change as are taken
abbrev pub HasFewChanges : Scope → Tables → Type 0
HasFewChanges scope tables = count_of_changes tables.stops tables.transfers scope.change ≤ 1_000_000

-- the timetable of these tables in the scope, by the clock of this zone
pub record IsTimetableOf (scope : Scope) (zone : Zone) (tables : Tables) (made : Timetable) : Type 0 where
  pub zone_is : made.zone ≡ zone
  pub runs : RunsAre scope zone tables made.runs
  pub connections : made.connections ≡ length (connections_of made.runs)
  pub few_connections : HaveFewConnections made.runs
  pub doc : IsDocOf scope tables made.doc
  pub few_changes : HasFewChanges scope tables
  pub trips : made.trips ≡ length tables.trips
  pub left_out : made.left_out ≡ tables.left_out
