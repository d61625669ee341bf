-- Where the columns of trips.txt are in a sheet.
use Rattle.std.specs.Prelude.{codes}
use Rattle.gtfs_rows.specs.Sheet.{Sheet}
use Rattle.gtfs_tables.specs.Fields.Columns.{IsColumn}
use Rattle.gtfs_tables.specs.declared.trips.trips.TripColumns.{TripColumns}

-- these are the columns of trips.txt
pub record AreTripColumns (sheet : Sheet) (columns : TripColumns) : Type 0 where
  pub trip : IsColumn sheet (codes "trip_id") columns.trip
  pub service : IsColumn sheet (codes "service_id") columns.service
