-- Where the columns of stops.txt are in a sheet.
use Rattle.std.specs.Prelude.{codes}
use Rattle.gtfs_rows.specs.Sheet.{Sheet}
use Rattle.gtfs_tables.specs.Fields.Columns.{IsColumn}
use Rattle.gtfs_tables.specs.declared.trips.stops.StopColumns.{StopColumns}

-- these are the columns of stops.txt
pub record AreStopColumns (sheet : Sheet) (columns : StopColumns) : Type 0 where
  pub id : IsColumn sheet (codes "stop_id") columns.id
  pub name : IsColumn sheet (codes "stop_name") columns.name
  pub parent : IsColumn sheet (codes "parent_station") columns.parent
