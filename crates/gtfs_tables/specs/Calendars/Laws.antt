-- Each file of services, frequencies and transfers says one value, or has one first fault, and never both.
use Rattle.std.specs.Prelude.{List}
use Rattle.lc_model.specs.declared.stop.Stop.{Stop}
use Rattle.gtfs_tables.specs.Fields.Laws.{AreNeverBoth, SayOne}
use Rattle.gtfs_tables.specs.declared.fields.trip_rows.TripRow.{TripRow}
use Rattle.gtfs_tables.specs.Calendars.Calendar.{AreWeekly, IsCalendarFault}
use Rattle.gtfs_tables.specs.Calendars.CalendarDates.{AreDates, IsCalendarDatesFault}
use Rattle.gtfs_tables.specs.Calendars.Frequencies.{AreFrequencies, IsFrequenciesFault}
use Rattle.gtfs_tables.specs.Calendars.Transfers.{AreTransfers, IsTransfersFault}
use Rattle.gtfs_tables.specs.declared.calendars.calendar.Weekly.{Weekly}
use Rattle.gtfs_tables.specs.declared.calendars.calendar_dates.DateRow.{DateRow}
use Rattle.gtfs_tables.specs.declared.calendars.frequency.Frequency.{Frequency}
use Rattle.gtfs_tables.specs.declared.calendars.transfer.Transfer.{Transfer}

-- the weekdays of services
abbrev pub OneWeekly : Type 0
OneWeekly = SayOne {Value = List Weekly} AreWeekly

-- the first fault of calendar.txt
abbrev pub OneCalendarFault : Type 0
OneCalendarFault = SayOne IsCalendarFault

-- calendar.txt never says weekdays and has a fault
abbrev pub NeverBothWeekly : Type 0
NeverBothWeekly = AreNeverBoth {Value = List Weekly} AreWeekly IsCalendarFault

-- the dates of services
abbrev pub OneDates : Type 0
OneDates = SayOne {Value = List DateRow} AreDates

-- the first fault of calendar_dates.txt
abbrev pub OneCalendarDatesFault : Type 0
OneCalendarDatesFault = SayOne IsCalendarDatesFault

-- calendar_dates.txt never says dates and has a fault
abbrev pub NeverBothDates : Type 0
NeverBothDates = AreNeverBoth {Value = List DateRow} AreDates IsCalendarDatesFault

-- frequencies of given trips
abbrev pub OneFrequencies : Type 0
OneFrequencies = (trips : List TripRow) → SayOne {Value = List Frequency} (AreFrequencies trips)

-- the first fault of frequencies.txt
abbrev pub OneFrequenciesFault : Type 0
OneFrequenciesFault = (trips : List TripRow) → SayOne (IsFrequenciesFault trips)

-- frequencies.txt never says frequencies and has a fault
abbrev pub NeverBothFrequencies : Type 0
NeverBothFrequencies = (trips : List TripRow) → AreNeverBoth {Value = List Frequency} (AreFrequencies trips) (IsFrequenciesFault trips)

-- transfers between given stops
abbrev pub OneTransfers : Type 0
OneTransfers = (stops : List Stop) → SayOne {Value = List Transfer} (AreTransfers stops)

-- the first fault of transfers.txt
abbrev pub OneTransfersFault : Type 0
OneTransfersFault = (stops : List Stop) → SayOne (IsTransfersFault stops)

-- transfers.txt never says transfers and has a fault
abbrev pub NeverBothTransfers : Type 0
NeverBothTransfers = (stops : List Stop) → AreNeverBoth {Value = List Transfer} (AreTransfers stops) (IsTransfersFault stops)
