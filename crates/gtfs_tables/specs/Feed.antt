-- The tables of a feed (GTFS Schedule Reference, "Dataset files" and "File requirements"). They say what each of its files has to
-- be, what is wrong with one that is not, and the first that is not.
use Rattle.std.specs.Prelude.{◌≡◌, ℕ, ◌+◌, ◌⊎◌, List, [], take, length, Option, Some, None, IsNone, IsSome, IsSomeAnd, MatchOption, is_none, if◌then◌else◌}
use Rattle.std.specs.List.{All, slice_get}
use Rattle.lc_model.specs.declared.stop.Stop.{Stop}
use Rattle.gtfs_tables.specs.declared.fields.fault.FileFault.{FileFault}
use Rattle.gtfs_tables.specs.declared.fields.fault.FileFault.TheVariants.{Broken}
use Rattle.gtfs_tables.specs.declared.fields.trip_rows.TripRow.{TripRow}
use Rattle.gtfs_tables.specs.Trips.Stops.{AreStopsOf, IsStopsFault}
use Rattle.gtfs_tables.specs.Trips.StopTimes.{AreStopTimesOf, IsStopTimesFault}
use Rattle.gtfs_tables.specs.Trips.Trips.{AreTripsOf, IsTripsFault}
use Rattle.gtfs_tables.specs.declared.trips.stop_times.StopTime.{StopTime}
use Rattle.gtfs_tables.specs.Calendars.Calendar.{AreWeekly, IsCalendarFault}
use Rattle.gtfs_tables.specs.Calendars.CalendarDates.{AreDates, IsCalendarDatesFault}
use Rattle.gtfs_tables.specs.Calendars.Frequencies.{AreFrequencies, IsFrequenciesFault}
use Rattle.gtfs_tables.specs.Calendars.Transfers.{AreTransfers, IsTransfersFault}
use Rattle.gtfs_tables.specs.declared.calendars.calendar.Weekly.{Weekly}
use Rattle.gtfs_tables.specs.declared.calendars.calendar_dates.DateRow.{DateRow}
use Rattle.gtfs_tables.specs.declared.calendars.frequency.Frequency.{Frequency}
use Rattle.gtfs_tables.specs.declared.calendars.transfer.Transfer.{Transfer}
use Rattle.gtfs_tables.specs.Files.{Found, feed_files}
use Rattle.gtfs_tables.specs.declared.feed_file.FeedFile.{FeedFile}
use Rattle.gtfs_tables.specs.declared.feed_file.FeedFile.TheVariants as file
use Rattle.gtfs_tables.specs.declared.tables.Tables.{Tables}
use Rattle.gtfs_tables.specs.declared.what.What.{What}
use Rattle.gtfs_tables.specs.declared.what.What.TheVariants as what

-- the file is there, and its bytes are so
abbrev pub Holds : Option (List ℕ) → (List ℕ → Type 0) → Type 0
Holds found IsSo = IsSomeAnd found IsSo

-- the bytes say these rows; a file that is absent has none
abbrev pub HasRows : {Row : Type 0} → (List ℕ → List Row → Type 0) → Option (List ℕ) → List Row → Type 0
HasRows Say found rows = MatchOption found (rows ≡ []) (λ bytes. Say bytes rows)

-- stops.txt says these stops
abbrev pub StopsAre : Found → List Stop → Type 0
StopsAre found stops = Holds (found file.Stops) (λ bytes. AreStopsOf bytes stops)

-- trips.txt says these trips
abbrev pub TripsAre : Found → List TripRow → Type 0
TripsAre found trips = Holds (found file.Trips) (λ bytes. AreTripsOf bytes trips)

-- stop_times.txt says these stop times of these stops and trips, and these of the trips are not left out
abbrev pub StopTimesAre : Found → List Stop → List TripRow → List StopTime → List TripRow → Type 0
StopTimesAre found stops trips times kept = Holds (found file.StopTimes) (λ bytes. AreStopTimesOf stops trips bytes times kept)

-- calendar.txt says these rows, or it is absent and there are none
abbrev pub WeeklyAre : Found → List Weekly → Type 0
WeeklyAre found weekly = HasRows AreWeekly (found file.Calendar) weekly

-- calendar_dates.txt says these rows, or it is absent and there are none
abbrev pub DatesAre : Found → List DateRow → Type 0
DatesAre found dates = HasRows AreDates (found file.CalendarDates) dates

-- one of the files that give the dates of services is there
abbrev pub HasServices : Found → Type 0
HasServices found = IsSome (found file.Calendar) ⊎ IsSome (found file.CalendarDates)

-- frequencies.txt says these rows of these trips, or it is absent and there are none
abbrev pub FrequenciesAre : Found → List TripRow → List Frequency → Type 0
FrequenciesAre found trips frequencies = HasRows (AreFrequencies trips) (found file.Frequencies) frequencies

-- transfers.txt says these rows of these stops, or it is absent and there are none
abbrev pub TransfersAre : Found → List Stop → List Transfer → Type 0
TransfersAre found stops transfers = HasRows (AreTransfers stops) (found file.Transfers) transfers

-- These are the tables of the feed. The stop times, and the trips that are not left out, are of the stops of stops.txt and
-- all trips of trips.txt. The frequencies are of all these trips too, also of those that are left out.
pub record AreTables (found : Found) (tables : Tables) : Type 0 where
  pub stops : StopsAre found tables.stops
  pub all_trips : List TripRow
  pub trips : TripsAre found all_trips
  pub stop_times : StopTimesAre found tables.stops all_trips tables.stop_times tables.trips
  pub left_out : tables.left_out + length tables.trips ≡ length all_trips
  pub weekly : WeeklyAre found tables.services.weekly
  pub dates : DatesAre found tables.services.dates
  pub services : HasServices found
  pub frequencies : FrequenciesAre found all_trips tables.frequencies
  pub transfers : TransfersAre found tables.stops tables.transfers

-- stop_times.txt is as it has to be, for the stops and the trips of the feed
abbrev pub AreTimesRight : Found → Type 0
AreTimesRight found =
    (stops : List Stop) × (trips : List TripRow) × (times : List StopTime) × (kept : List TripRow)
    × StopsAre found stops × TripsAre found trips × StopTimesAre found stops trips times kept

-- frequencies.txt is as it has to be, for the trips of the feed
abbrev pub AreFrequenciesRight : Found → Type 0
AreFrequenciesRight found =
    (trips : List TripRow) × (frequencies : List Frequency) × TripsAre found trips × FrequenciesAre found trips frequencies

-- transfers.txt is as it has to be, for the stops of the feed
abbrev pub AreTransfersRight : Found → Type 0
AreTransfersRight found = (stops : List Stop) × (transfers : List Transfer) × StopsAre found stops × TransfersAre found stops transfers

-- A file is as it has to be: it says its rows. Three files have to be there, and one of the two that give the dates of
-- services; this is seen at the second of these.
abbrev pub IsRightAt : Found → FeedFile → Type 0
IsRightAt found file.Stops = (stops : List Stop) × StopsAre found stops
IsRightAt found file.Trips = (trips : List TripRow) × TripsAre found trips
IsRightAt found file.StopTimes = AreTimesRight found
IsRightAt found file.Calendar = (weekly : List Weekly) × WeeklyAre found weekly
IsRightAt found file.CalendarDates = (dates : List DateRow) × DatesAre found dates × HasServices found
IsRightAt found file.Frequencies = AreFrequenciesRight found
IsRightAt found file.Transfers = AreTransfersRight found

-- a file is absent that has to be there: rule 1, said of the file
abbrev pub IsAbsence : FileFault → Type 0
IsAbsence fault = fault ≡ Broken 1 0

-- what is wrong first with stop_times.txt, for the stops and the trips of the feed
abbrev pub AreTimesWrong : Found → FileFault → Type 0
AreTimesWrong found fault =
    (stops : List Stop) × (trips : List TripRow) × StopsAre found stops × TripsAre found trips
    × MatchOption (found file.StopTimes) (IsAbsence fault) (λ bytes. IsStopTimesFault stops trips bytes fault)

-- what is wrong first with calendar_dates.txt: it is absent, and calendar.txt too, or its bytes break a rule
abbrev pub AreDatesWrong : Found → FileFault → Type 0
AreDatesWrong found fault =
    MatchOption (found file.CalendarDates) (IsNone (found file.Calendar) × IsAbsence fault) (λ bytes. IsCalendarDatesFault bytes fault)

-- what is wrong first with frequencies.txt, for the trips of the feed
abbrev pub AreFrequenciesWrong : Found → FileFault → Type 0
AreFrequenciesWrong found fault =
    (trips : List TripRow) × TripsAre found trips × Holds (found file.Frequencies) (λ bytes. IsFrequenciesFault trips bytes fault)

-- what is wrong first with transfers.txt, for the stops of the feed
abbrev pub AreTransfersWrong : Found → FileFault → Type 0
AreTransfersWrong found fault =
    (stops : List Stop) × StopsAre found stops × Holds (found file.Transfers) (λ bytes. IsTransfersFault stops bytes fault)

-- What is wrong first with a file: it is absent though it has to be there, or breaks a rule, or has too many rows. A rule is of
-- a row or of the whole file.
abbrev pub IsFaultAt : Found → FeedFile → FileFault → Type 0
IsFaultAt found file.Stops fault = MatchOption (found file.Stops) (IsAbsence fault) (λ bytes. IsStopsFault bytes fault)
IsFaultAt found file.Trips fault = MatchOption (found file.Trips) (IsAbsence fault) (λ bytes. IsTripsFault bytes fault)
IsFaultAt found file.StopTimes fault = AreTimesWrong found fault
IsFaultAt found file.Calendar fault = Holds (found file.Calendar) (λ bytes. IsCalendarFault bytes fault)
IsFaultAt found file.CalendarDates fault = AreDatesWrong found fault
IsFaultAt found file.Frequencies fault = AreFrequenciesWrong found fault
IsFaultAt found file.Transfers fault = AreTransfersWrong found fault

-- This file, at this place of the order of reading, is the first that is not as it has to be. This is what is wrong first
-- with it.
pub record IsFirstBroken (found : Found) (place : ℕ) (at : FeedFile) (fault : FileFault) : Type 0 where
  pub stands : slice_get feed_files place ≡ Some at
  pub before : All (IsRightAt found) (take place feed_files)
  pub broken : IsFaultAt found at fault

-- The file that is named where this one is the first that is not as it has to be. It is that file. But a feed that has neither
-- of the files that give the dates of services is said to lack calendar.txt.
abbrev pub named_at : Found → FeedFile → FeedFile
named_at found file.Stops = file.Stops
named_at found file.Trips = file.Trips
named_at found file.StopTimes = file.StopTimes
named_at found file.Calendar = file.Calendar
named_at found file.CalendarDates = if is_none (found file.CalendarDates) then file.Calendar else file.CalendarDates
named_at found file.Frequencies = file.Frequencies
named_at found file.Transfers = file.Transfers

-- what a file has too much of where it has too many rows; the other files may have any number
abbrev pub what_of : FeedFile → Option What
what_of file.Stops = Some what.Stops
what_of file.Trips = Some what.Trips
what_of file.StopTimes = Some what.StopTimes
what_of file.Calendar = None
what_of file.CalendarDates = None
what_of file.Frequencies = None
what_of file.Transfers = None
