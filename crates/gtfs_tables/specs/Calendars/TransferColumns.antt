-- The columns of transfers.txt by their places.
use Rattle.std.specs.Prelude.{codes}
use Rattle.gtfs_rows.specs.Sheet.{Sheet}
use Rattle.gtfs_tables.specs.Fields.Columns.{IsColumn}
use Rattle.gtfs_tables.specs.declared.calendars.transfers_file.TransferColumns.{TransferColumns}

-- these are the columns of transfers.txt
pub record AreTransferColumns (sheet : Sheet) (columns : TransferColumns) : Type 0 where
  pub from : IsColumn sheet (codes "from_stop_id") columns.from
  pub to : IsColumn sheet (codes "to_stop_id") columns.to
  pub kind : IsColumn sheet (codes "transfer_type") columns.kind
  pub seconds : IsColumn sheet (codes "min_transfer_time") columns.seconds
  pub from_route : IsColumn sheet (codes "from_route_id") columns.from_route
  pub to_route : IsColumn sheet (codes "to_route_id") columns.to_route
  pub from_trip : IsColumn sheet (codes "from_trip_id") columns.from_trip
  pub to_trip : IsColumn sheet (codes "to_trip_id") columns.to_trip
