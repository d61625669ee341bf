-- Rows that say when trips start (GTFS Schedule Reference, frequencies.txt).
use Rattle.std.specs.Prelude.{◌<◌, List}
use Rattle.std.specs.List.{All}
use Rattle.gtfs_tables.specs.declared.calendars.frequency.Frequency.{Frequency}

-- the times of the row are below 100 hours, and from one start to the next it is at least a second
pub record IsSpan (f : Frequency) : Type 0 where
  pub from_in_day : f.from < 360_000
  pub to_in_day : f.to < 360_000
  pub apart : 0 < f.headway

-- each row is so
abbrev pub AreSpans : List Frequency → Type 0
AreSpans frequencies = All IsSpan frequencies
