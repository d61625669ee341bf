-- Where the columns of stop_times.txt are in a sheet.
use Rattle.std.specs.Prelude.{codes}
use Rattle.gtfs_rows.specs.Sheet.{Sheet}
use Rattle.gtfs_tables.specs.Fields.Columns.{IsColumn}
use Rattle.gtfs_tables.specs.declared.trips.stop_time_rows.StopTimeColumns.{StopTimeColumns}

-- the places of the columns that are read
pub record AreStopTimeColumns (sheet : Sheet) (columns : StopTimeColumns) : Type 0 where
  pub trip : IsColumn sheet (codes "trip_id") columns.trip
  pub stop : IsColumn sheet (codes "stop_id") columns.stop
  pub seq : IsColumn sheet (codes "stop_sequence") columns.seq
  pub arr : IsColumn sheet (codes "arrival_time") columns.arr
  pub dep : IsColumn sheet (codes "departure_time") columns.dep
  pub pickup : IsColumn sheet (codes "pickup_type") columns.pickup
  pub drop_off : IsColumn sheet (codes "drop_off_type") columns.drop_off
