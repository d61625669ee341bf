-- The timetable of a feed by the files that a directory records.
use Rattle.std.specs.Prelude.{ℕ, List, Option, option_and_then}
use Rattle.lc_io.specs.Folder.{bytes_named}
use Rattle.lc_io.specs.declared.file.File.{File}
use Rattle.lc_time.specs.declared.zone.Zone.{Zone}
use Rattle.service_days.specs.ZoneWord.{SaysZone, file_named}
use Rattle.gtfs_tables.specs.Feed.{AreTables}
use Rattle.gtfs_tables.specs.Files.{files_of}
use Rattle.gtfs_tables.specs.declared.tables.Tables.{Tables}
use Rattle.timetable.specs.Timetable.{IsTimetableOf}
use Rattle.timetable.specs.declared.scope.Scope.{Scope}
use Rattle.timetable.specs.declared.timetable.Timetable.{Timetable}

-- the bytes of the file that the zone's word names, none where it names none
abbrev pub zone_bytes : List File → List ℕ → Option (List ℕ)
zone_bytes files word = option_and_then (bytes_named files) (file_named word)

-- The word says a zone, the feed breaks no rule, and this is its timetable, which no limit refuses.
pub record IsSound (files : List File) (scope : Scope) (made : Timetable) : Type 0 where
  pub zone : Zone
  pub says : SaysZone scope.zone (zone_bytes files scope.zone) zone
  pub tables : Tables
  pub are_tables : AreTables (files_of files scope.feed) tables
  pub is : IsTimetableOf scope zone tables made
