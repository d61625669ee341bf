-- The walk over the files of a feed, in parts. What is known after some files, and how a part goes on or ends the walk.
use Rattle.std.specs.Prelude.{◌≡◌, ℕ, ◌++◌, List, [], ◌∷◌, Option, option_map, is_some, take, IfSome, Result, Ok, Err}
use Rattle.lc_io.specs.Counts.{RoseBy}
use Rattle.lc_io.specs.Folder.{FolderSeen}
use Rattle.lc_io.specs.declared.file.File.{File}
use Rattle.lc_model.specs.declared.stop.Stop.{Stop}
use Rattle.gtfs_tables.specs.declared.fields.trip_rows.TripRow.{TripRow}
use Rattle.gtfs_tables.specs.declared.trips.timed_trips.TimedTrips.{TimedTrips}
use Rattle.gtfs_tables.specs.declared.calendars.calendar.Weekly.{Weekly}
use Rattle.gtfs_tables.specs.declared.calendars.calendar_dates.DateRow.{DateRow}
use Rattle.gtfs_tables.specs.declared.calendars.frequency.Frequency.{Frequency}
use Rattle.gtfs_tables.specs.declared.calendars.transfer.Transfer.{Transfer}
use Rattle.gtfs_tables.specs.Feed.{IsRightAt}
use Rattle.gtfs_tables.specs.Files.{Found, feed_files, files_of, first_paths}
use Rattle.gtfs_tables.specs.Reading.{Keeps, absent_among}
use Rattle.gtfs_tables.specs.Steps.{HasDates, HasFrequencies, HasStops, HasTimes, HasTransfers, HasTrips, HasWeekly, IsWalk}
use Rattle.gtfs_tables.specs.declared.end.End.{End}
use Rattle.gtfs_tables.specs.declared.feed_file.FeedFile.{FeedFile}
use Rattle.gtfs_tables.specs.declared.feed_file.FeedFile.TheVariants as file

-- what was found is what the directory records, where it records its files
abbrev pub Recorded : Option (List File) → List ℕ → Found → Type 0
Recorded recorded feed found = IfSome recorded (λ files. (at : FeedFile) → found at ≡ files_of files feed at)

-- it holds of each item, by the items
abbrev pub Each : {X : Type 0} → (X → Type 0) → List X → Type 0
Each P [] = Unit {0}
Each P (x ∷ xs) = P x × Each P xs

-- the first files, so many, were asked for and found as they have to be
pub record Walked (old new : FolderSeen) (feed : List ℕ) (found : Found) (count : ℕ) : Type 0 where
  pub kept : Keeps old new
  pub recorded : Recorded old.files feed found
  pub in_turn : new.asked ≡ option_map (λ names. names ++ first_paths feed count) old.asked
  pub right : Each (IsRightAt found) (take count feed_files)
  pub absences : RoseBy (absent_among found count) old.absences new.absences

-- the first files, so many, were found as they have to be, and this is known of what was found
pub record SoFar (old new : FolderSeen) (feed : List ℕ) (count : ℕ) (Knows : Found → Type 0) : Type 0 where
  pub found : Found
  pub walked : Walked old new feed found count
  pub knows : Knows found

-- what the steps find out of the files, in their order
abbrev pub Stops : List Stop → Found → Type 0
Stops stops found = HasStops (found file.Stops) stops

abbrev pub Trips : List Stop → List TripRow → Found → Type 0
Trips stops trips found = Stops stops found × HasTrips (found file.Trips) trips

abbrev pub Times : List Stop → List TripRow → TimedTrips → Found → Type 0
Times stops trips timed found = Trips stops trips found × HasTimes stops trips (found file.StopTimes) timed

abbrev pub Weeks : List Stop → List TripRow → TimedTrips → Option (List Weekly) → Found → Type 0
Weeks stops trips timed weekly found = Times stops trips timed found × HasWeekly (found file.Calendar) weekly

abbrev pub Dates : List Stop → List TripRow → TimedTrips → Option (List Weekly) → List DateRow → Found → Type 0
Dates stops trips timed weekly dates found = Weeks stops trips timed weekly found × HasDates (is_some weekly) (found file.CalendarDates) dates

abbrev pub Spans : List Stop → List TripRow → TimedTrips → Option (List Weekly) → List DateRow → List Frequency → Found → Type 0
Spans stops trips timed weekly dates frequencies found =
    Dates stops trips timed weekly dates found × HasFrequencies trips (found file.Frequencies) frequencies

abbrev pub Ways : List Stop → List TripRow → TimedTrips → Option (List Weekly) → List DateRow → List Frequency → List Transfer → Found → Type 0
Ways stops trips timed weekly dates frequencies transfers found =
    Spans stops trips timed weekly dates frequencies found × HasTransfers stops (found file.Transfers) transfers

-- How a part of the walk ends: with a value of which this is known, after so many files, or as the walk does.
abbrev pub PartEnds : {T : Type 0} → FolderSeen → FolderSeen → List ℕ → Result T End → ℕ → (T → Found → Type 0) → Type 0
PartEnds old new feed (Ok value) count Learns = SoFar old new feed count (Learns value)
PartEnds old new feed (Err end) count Learns = IsWalk old new feed (Err end)

-- the walk up to the end of a part of it
pub record GoesOn {T : Type 0} (old new : FolderSeen) (feed : List ℕ) (result : Result T End) (count : ℕ) (Learns : T → Found → Type 0) : Type 0 where
  pub ends : PartEnds old new feed result count Learns
