-- The columns of calendar_dates.txt by their places.
use Rattle.std.specs.Prelude.{codes}
use Rattle.gtfs_rows.specs.Sheet.{Sheet}
use Rattle.gtfs_tables.specs.Fields.Columns.{IsColumn}
use Rattle.gtfs_tables.specs.declared.calendars.calendar_dates_file.DateColumns.{DateColumns}

-- these are the columns of calendar_dates.txt
pub record AreDateColumns (sheet : Sheet) (columns : DateColumns) : Type 0 where
  pub service : IsColumn sheet (codes "service_id") columns.service
  pub date : IsColumn sheet (codes "date") columns.date
  pub kind : IsColumn sheet (codes "exception_type") columns.kind
