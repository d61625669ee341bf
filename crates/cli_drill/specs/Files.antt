-- The files of a drill.
use Rattle.std.specs.Prelude.{ℕ, zero, suc, List, [], ◌∷◌, ◌++◌, codes}
use Rattle.lc_io.specs.declared.file.File.{File}
use Rattle.cli_drill.specs.Messages.{message_of}
use Rattle.cli_drill.specs.Network.{side_of}
use Rattle.cli_drill.specs.Rows.{dates_text, stops_text, times_text, trips_text}
use Rattle.cli_drill.specs.Script.{message_name, script_text}

-- the file of the message of this number
abbrev pub file_of : ℕ → ℕ → File
file_of seed message = record { name = message_name message; bytes = message_of seed message }

-- those of the first messages, so many
unfoldable pub message_files : ℕ → ℕ → List File
message_files seed zero = []
message_files seed (suc count) = message_files seed count ++ file_of seed count ∷ []

-- the tables of the feed, on so many dates
abbrev pub feed_files : ℕ → ℕ → List File
feed_files seed days =
    record { name = codes "feed/stops.txt"; bytes = stops_text (side_of seed) }
    ∷ record { name = codes "feed/trips.txt"; bytes = trips_text (side_of seed) }
    ∷ record { name = codes "feed/stop_times.txt"; bytes = times_text (side_of seed) }
    ∷ record { name = codes "feed/calendar_dates.txt"; bytes = dates_text days } ∷ []

-- the script, the tables, and ten messages
abbrev pub drill_files : ℕ → ℕ → List File
drill_files seed days = record { name = codes "script.csv"; bytes = script_text seed } ∷ (feed_files seed days ++ message_files seed 10)
