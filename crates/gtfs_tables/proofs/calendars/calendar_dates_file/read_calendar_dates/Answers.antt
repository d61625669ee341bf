use Rattle.gtfs_tables.proofs.CalendarsLemmas.CalendarDatesFacts.{dates_stand_once}
use Rattle.gtfs_tables.proofs.calendars.calendar_dates_file.read_calendar_dates.Goals as goal

pub from_list-requires : goal.from_list-requires
from_list-requires c = dates_stand_once c.in_ok-rows.rows c.in_ok-list.list.items c.in_ok-list.ensures.unbroken c.in_ok-list.ensures.listed
