use Rattle.gtfs_tables.proofs.CalendarsLemmas.SpanLemmas.{spans}
use Rattle.gtfs_tables.proofs.calendars.frequencies_file.read_frequencies.Goals as goal

pub from_list-requires : goal.from_list-requires
from_list-requires c = spans c.in_ok-rows.rows c.in_ok-list.list.items c.in_ok-list.ensures.listed
