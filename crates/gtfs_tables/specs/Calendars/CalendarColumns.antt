-- The columns of calendar.txt by their places.
use Rattle.std.specs.Prelude.{codes}
use Rattle.gtfs_rows.specs.Sheet.{Sheet}
use Rattle.gtfs_tables.specs.Fields.Columns.{IsColumn}
use Rattle.gtfs_tables.specs.declared.calendars.calendar_file.CalendarColumns.{CalendarColumns}

-- these are the columns of calendar.txt
pub record AreCalendarColumns (sheet : Sheet) (columns : CalendarColumns) : Type 0 where
  pub service : IsColumn sheet (codes "service_id") columns.service
  pub monday : IsColumn sheet (codes "monday") columns.monday
  pub tuesday : IsColumn sheet (codes "tuesday") columns.tuesday
  pub wednesday : IsColumn sheet (codes "wednesday") columns.wednesday
  pub thursday : IsColumn sheet (codes "thursday") columns.thursday
  pub friday : IsColumn sheet (codes "friday") columns.friday
  pub saturday : IsColumn sheet (codes "saturday") columns.saturday
  pub sunday : IsColumn sheet (codes "sunday") columns.sunday
  pub from : IsColumn sheet (codes "start_date") columns.from
  pub to : IsColumn sheet (codes "end_date") columns.to
