-- The columns of frequencies.txt by their places.
use Rattle.std.specs.Prelude.{codes}
use Rattle.gtfs_rows.specs.Sheet.{Sheet}
use Rattle.gtfs_tables.specs.Fields.Columns.{IsColumn}
use Rattle.gtfs_tables.specs.declared.calendars.frequencies_file.FrequencyColumns.{FrequencyColumns}

-- these are the columns of frequencies.txt
pub record AreFrequencyColumns (sheet : Sheet) (columns : FrequencyColumns) : Type 0 where
  pub trip : IsColumn sheet (codes "trip_id") columns.trip
  pub from : IsColumn sheet (codes "start_time") columns.from
  pub to : IsColumn sheet (codes "end_time") columns.to
  pub headway : IsColumn sheet (codes "headway_secs") columns.headway
