-- What is printed of what is too large.
use Rattle.std.specs.Prelude.{ℕ, List, codes}
use Rattle.gtfs_tables.specs.declared.what.What.{What}
use Rattle.gtfs_tables.specs.declared.what.What.TheVariants as what

-- the words for what there is too much of
abbrev pub what_text : What → List ℕ
what_text what.Stops = codes "stops"
what_text what.Trips = codes "trips"
what_text what.StopTimes = codes "stop times"
what_text what.Connections = codes "connections"
what_text what.Changes = codes "changes"
what_text what.Update = codes "update"
