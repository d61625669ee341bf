-- The files of a feed (GTFS Schedule Reference, "Dataset files"), and what is found of them in a directory.
use Rattle.std.specs.Prelude.{ℕ, List, [], ◌∷◌, ◌++◌, map, take, Option, codes}
use Rattle.lc_io.specs.Folder.{bytes_named}
use Rattle.lc_io.specs.declared.file.File.{File}
use Rattle.gtfs_tables.specs.declared.feed_file.FeedFile.{FeedFile}
use Rattle.gtfs_tables.specs.declared.feed_file.FeedFile.TheVariants as file

-- the files, in the order in which they are read
abbrev pub feed_files : List FeedFile
feed_files = file.Stops ∷ file.Trips ∷ file.StopTimes ∷ file.Calendar ∷ file.CalendarDates ∷ file.Frequencies ∷ file.Transfers ∷ []

-- the name of a file
abbrev pub name_of : FeedFile → List ℕ
name_of file.Stops = codes "stops.txt"
name_of file.Trips = codes "trips.txt"
name_of file.StopTimes = codes "stop_times.txt"
name_of file.Calendar = codes "calendar.txt"
name_of file.CalendarDates = codes "calendar_dates.txt"
name_of file.Frequencies = codes "frequencies.txt"
name_of file.Transfers = codes "transfers.txt"

-- the name under which a directory has a file of the feed
abbrev pub path_of : List ℕ → FeedFile → List ℕ
path_of feed at = feed ++ codes "/" ++ name_of at

-- what was found of each file: its bytes, or none where it is absent
abbrev pub Found : Type 0
Found = FeedFile → Option (List ℕ)

-- what a directory of these files has of the feed
abbrev pub files_of : List File → List ℕ → Found
files_of files feed at = bytes_named files (path_of feed at)

-- the names of the first files of the feed, so many, in the order in which they are read
abbrev pub first_paths : List ℕ → ℕ → List (List ℕ)
first_paths feed count = map (path_of feed) (take count feed_files)
