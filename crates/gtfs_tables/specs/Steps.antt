-- The steps in which a feed is read, one for each file: what the directory was asked and found, and what was made of it.
use Rattle.std.specs.Prelude.{◌≡◌, ℕ, suc, ◌+◌, ◌⊎◌, Bool, true, false, List, length, Option, Some, IfSome, IsNone, IsSome, IsSomeAnd, MatchOption, Result, Ok, Err}
use Rattle.lc_model.specs.declared.stop.Stop.{Stop}
use Rattle.lc_io.specs.Counts.{Rose}
use Rattle.lc_io.specs.Folder.{FolderSeen, asked_after}
use Rattle.gtfs_tables.specs.declared.fields.fault.FileFault.{FileFault}
use Rattle.gtfs_tables.specs.declared.fields.fault.FileFault.TheVariants as wrong
use Rattle.gtfs_tables.specs.declared.fields.trip_rows.TripRow.{TripRow}
use Rattle.gtfs_tables.specs.Trips.Stops.{AreStopsOf, HaveKnownParents, IsStopsFault}
use Rattle.gtfs_tables.specs.Trips.StopTimes.{AreStopTimesOf, IsStopTimesFault}
use Rattle.gtfs_tables.specs.Trips.Trips.{AreTripsOf, IsTripsFault}
use Rattle.gtfs_tables.specs.declared.trips.timed_trips.TimedTrips.{TimedTrips}
use Rattle.gtfs_tables.specs.Calendars.Calendar.{AreWeekly, IsCalendarFault}
use Rattle.gtfs_tables.specs.Calendars.CalendarDates.{AreDates, IsCalendarDatesFault}
use Rattle.gtfs_tables.specs.Calendars.Frequencies.{AreFrequencies, IsFrequenciesFault}
use Rattle.gtfs_tables.specs.Calendars.Transfers.{AreTransfers, IsTransfersFault}
use Rattle.gtfs_tables.specs.declared.calendars.calendar.Weekly.{Weekly}
use Rattle.gtfs_tables.specs.declared.calendars.calendar_dates.DateRow.{DateRow}
use Rattle.gtfs_tables.specs.declared.calendars.frequency.Frequency.{Frequency}
use Rattle.gtfs_tables.specs.declared.calendars.transfer.Transfer.{Transfer}
use Rattle.gtfs_tables.specs.Feed.{AreTables, HasRows, Holds, IsAbsence, IsFirstBroken, named_at, what_of}
use Rattle.gtfs_tables.specs.Files.{Found, files_of, path_of}
use Rattle.gtfs_tables.specs.Reading.{Keeps, Reads}
use Rattle.gtfs_tables.specs.declared.end.End.{End}
use Rattle.gtfs_tables.specs.declared.end.End.TheVariants.{Failed, NoMemory, Wrong}
use Rattle.gtfs_tables.specs.declared.fault.FeedFault.{FeedFault}
use Rattle.gtfs_tables.specs.declared.fault.FeedFault.TheVariants as fault
use Rattle.gtfs_tables.specs.declared.feed_file.FeedFile.{FeedFile}
use Rattle.gtfs_tables.specs.declared.tables.Tables.{Tables}

-- the end at a fault of a file; running out of memory is none of the file's
abbrev pub end_of : FeedFile → FileFault → End
end_of file (wrong.Broken rule row) = Wrong file (wrong.Broken rule row)
end_of file (wrong.TooMany count) = Wrong file (wrong.TooMany count)
end_of file wrong.NoMemory = NoMemory

-- the directory was asked for this file, and this was found: its bytes, or none, and an absence was counted
pub record Finds (old new : FolderSeen) (feed : List ℕ) (at : FeedFile) (found : Option (List ℕ)) : Type 0 where
  pub there : IfSome old.files (λ files. found ≡ files_of files feed at)
  pub asked : new.asked ≡ asked_after old.asked (path_of feed at)
  pub counted : IsNone found → Rose old.absences new.absences

-- the directory was asked for this file and failed to read it, and a fault was counted
pub record Fails (old new : FolderSeen) (feed : List ℕ) (at : FeedFile) : Type 0 where
  pub asked : new.asked ≡ asked_after old.asked (path_of feed at)
  pub counted : Rose old.faults new.faults

-- What is made of what was found. It is a value of which it says so, or this is wrong first with it, and this is the file that is
-- named.
abbrev pub Judges : {T : Type 0} → FeedFile → Option (List ℕ) → (Option (List ℕ) → T → Type 0) → (Option (List ℕ) → FileFault → Type 0) → Result T End → Type 0
Judges at found Says IsWrong (Ok value) = Says found value
Judges at found Says IsWrong (Err (Wrong named fault)) = IsWrong found fault × (named ≡ named_at (λ _. found) at)
Judges at found Says IsWrong (Err Failed) = ⊥
Judges at found Says IsWrong (Err NoMemory) = Unit {0}

-- How the step of a file ends: with what is made of what was found, at a failed read, or out of memory. Memory runs out before the
-- directory was asked for the file or after.
abbrev pub StepEnds : {T : Type 0} → FolderSeen → FolderSeen → List ℕ → FeedFile → (Option (List ℕ) → T → Type 0) → (Option (List ℕ) → FileFault → Type 0) → Result T End → Type 0
StepEnds old new feed at Says IsWrong (Ok value) = (found : Option (List ℕ)) × Finds old new feed at found × Says found value
StepEnds old new feed at Says IsWrong (Err (Wrong named fault)) =
    (found : Option (List ℕ)) × Finds old new feed at found × IsWrong found fault × (named ≡ named_at (λ _. found) at)
StepEnds old new feed at Says IsWrong (Err Failed) = Fails old new feed at
StepEnds old new feed at Says IsWrong (Err NoMemory) = (new.asked ≡ old.asked) ⊎ (new.asked ≡ asked_after old.asked (path_of feed at))

-- the step of a file, which leaves the files as they are and lets no count fall
pub record IsStep {T : Type 0} (old new : FolderSeen) (feed : List ℕ) (at : FeedFile) (Says : Option (List ℕ) → T → Type 0)
    (IsWrong : Option (List ℕ) → FileFault → Type 0) (result : Result T End) : Type 0 where
  pub kept : Keeps old new
  pub ends : StepEnds old new feed at Says IsWrong result

-- How all the steps end, one after the other.
abbrev pub WalkEnds : FolderSeen → FolderSeen → List ℕ → Result Tables End → Type 0
WalkEnds old new feed (Ok tables) = (found : Found) × Reads old new feed found 7 7 × AreTables found tables
WalkEnds old new feed (Err (Wrong named fault)) =
    (found : Found) × (place : ℕ) × (at : FeedFile) × Reads old new feed found (suc place) (suc place)
    × IsFirstBroken found place at fault × (named ≡ named_at found at)
WalkEnds old new feed (Err Failed) =
    Rose old.faults new.faults × ((found : Found) × (place : ℕ) × Reads old new feed found (suc place) place)
WalkEnds old new feed (Err NoMemory) = (found : Found) × (asked : ℕ) × (answered : ℕ) × Reads old new feed found asked answered

-- the steps, which leave the files as they are and let no count fall
pub record IsWalk (old new : FolderSeen) (feed : List ℕ) (result : Result Tables End) : Type 0 where
  pub kept : Keeps old new
  pub ends : WalkEnds old new feed result

-- The end can be reported as a fault. A file with too many rows is one whose rows have a limit, and no fault is running out of memory.
abbrev pub IsReportable : End → Type 0
IsReportable (Wrong named (wrong.Broken rule row)) = Unit {0}
IsReportable (Wrong named (wrong.TooMany count)) = IsSome (what_of named)
IsReportable (Wrong named wrong.NoMemory) = ⊥
IsReportable Failed = Unit {0}
IsReportable NoMemory = Unit {0}

-- how the end is reported as a fault
abbrev pub IsFaultOf : End → ℕ → ℕ → FeedFault → Type 0
IsFaultOf (Wrong at (wrong.Broken broken place)) first last (fault.Broken rule file row) = (rule ≡ broken) × (file ≡ at) × (row ≡ place)
IsFaultOf (Wrong at (wrong.TooMany rows)) first last (fault.TooLarge what count) = (what_of at ≡ Some what) × (count ≡ rows)
IsFaultOf Failed first last (fault.Folder before after) = (before ≡ first) × (after ≡ last)
IsFaultOf NoMemory first last fault.NoMemory = Unit {0}
IsFaultOf end first last fault = ⊥

-- these are the stops that are said, and each parent is one of them
pub record HasStops (found : Option (List ℕ)) (stops : List Stop) : Type 0 where
  pub are : Holds found (λ bytes. AreStopsOf bytes stops)
  pub parents : HaveKnownParents stops

-- what is wrong first with stops.txt
abbrev pub IsWrongStops : Option (List ℕ) → FileFault → Type 0
IsWrongStops found fault = MatchOption found (IsAbsence fault) (λ bytes. IsStopsFault bytes fault)

-- these are the trips that are said
abbrev pub HasTrips : Option (List ℕ) → List TripRow → Type 0
HasTrips found trips = Holds found (λ bytes. AreTripsOf bytes trips)

-- what is wrong first with trips.txt
abbrev pub IsWrongTrips : Option (List ℕ) → FileFault → Type 0
IsWrongTrips found fault = MatchOption found (IsAbsence fault) (λ bytes. IsTripsFault bytes fault)

-- these are the stop times that are said of these stops and trips, and the trips that are not left out
pub record HasTimes (stops : List Stop) (trips : List TripRow) (found : Option (List ℕ)) (timed : TimedTrips) : Type 0 where
  pub are : Holds found (λ bytes. AreStopTimesOf stops trips bytes timed.times timed.trips)
  pub left_out : timed.left_out + length timed.trips ≡ length trips

-- what is wrong first with stop_times.txt, for these stops and trips
abbrev pub IsWrongTimes : List Stop → List TripRow → Option (List ℕ) → FileFault → Type 0
IsWrongTimes stops trips found fault = MatchOption found (IsAbsence fault) (λ bytes. IsStopTimesFault stops trips bytes fault)

-- these are the rows of calendar.txt, none where the file is absent
abbrev pub HasWeekly : Option (List ℕ) → Option (List Weekly) → Type 0
HasWeekly found weekly = MatchOption found (IsNone weekly) (λ bytes. IsSomeAnd weekly (AreWeekly bytes))

-- what is wrong first with calendar.txt
abbrev pub IsWrongWeekly : Option (List ℕ) → FileFault → Type 0
IsWrongWeekly found fault = Holds found (λ bytes. IsCalendarFault bytes fault)

-- these are the rows of calendar_dates.txt; where the file is absent, calendar.txt is there
pub record HasDates (has_calendar : Bool) (found : Option (List ℕ)) (dates : List DateRow) : Type 0 where
  pub are : HasRows AreDates found dates
  pub services : IsNone found → has_calendar ≡ true

-- what is wrong first with calendar_dates.txt
abbrev pub IsWrongDates : Bool → Option (List ℕ) → FileFault → Type 0
IsWrongDates has_calendar found fault = MatchOption found ((has_calendar ≡ false) × IsAbsence fault) (λ bytes. IsCalendarDatesFault bytes fault)

-- these are the rows of frequencies.txt, of these trips
abbrev pub HasFrequencies : List TripRow → Option (List ℕ) → List Frequency → Type 0
HasFrequencies trips found frequencies = HasRows (AreFrequencies trips) found frequencies

-- what is wrong first with frequencies.txt, for these trips
abbrev pub IsWrongFrequencies : List TripRow → Option (List ℕ) → FileFault → Type 0
IsWrongFrequencies trips found fault = Holds found (λ bytes. IsFrequenciesFault trips bytes fault)

-- these are the rows of transfers.txt, of these stops
abbrev pub HasTransfers : List Stop → Option (List ℕ) → List Transfer → Type 0
HasTransfers stops found transfers = HasRows (AreTransfers stops) found transfers

-- what is wrong first with transfers.txt, for these stops
abbrev pub IsWrongTransfers : List Stop → Option (List ℕ) → FileFault → Type 0
IsWrongTransfers stops found fault = Holds found (λ bytes. IsTransfersFault stops bytes fault)
