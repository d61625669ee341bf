-- How long it takes to change between stops (GTFS Schedule Reference, transfers.txt: from_stop_id, to_stop_id,
-- transfer_type, min_transfer_time; stops.txt: parent_station).
use Rattle.std.specs.Prelude.{ℕ, max, List, Option, Some, None, option_map, unwrap_or, Bool, false, find, ◌&&◌, ◌||◌, ◌==◌, nat_le, if◌then◌else◌}
use Rattle.std.specs.Option.{option_and_then, option_map_or, option_or}
use Rattle.lc_model.specs.Change.{is_same_id}
use Rattle.lc_model.specs.declared.stop.Stop.{Stop}
use Rattle.gtfs_tables.specs.declared.calendars.transfer.Transfer.{Transfer}

-- the row is of a type that says something of every traveller
abbrev pub has_known_kind : Transfer → Bool
has_known_kind row = nat_le row.kind 3

-- the row is from the one stop or station to the other
abbrev pub is_between : List ℕ → List ℕ → Transfer → Bool
is_between from to row = is_same_id row.from from && is_same_id row.to to

-- of the rows from one stop or station to another the first in the file; there is none where there is no such station
abbrev pub first_row : List Transfer → Option (List ℕ) → Option (List ℕ) → Option Transfer
first_row transfers None to = None
first_row transfers (Some from) None = None
first_row transfers (Some from) (Some to) = find (λ row. is_between from to row && has_known_kind row) transfers

-- The row that decides: one between the two stops, else from the one to the parent of the other. Else it is from the parent
-- of the one to the other, or between the parents.
abbrev pub deciding_row : List Transfer → Stop → Stop → Option Transfer
deciding_row transfers from to =
    option_or (first_row transfers (Some from.id) (Some to.id)) (
    option_or (first_row transfers (Some from.id) to.parent) (
    option_or (first_row transfers from.parent (Some to.id)) (
    first_row transfers from.parent to.parent)))

-- there are two stations, and they are one
abbrev pub is_same_station : Option (List ℕ) → Option (List ℕ) → Bool
is_same_station None other = false
is_same_station (Some station) None = false
is_same_station (Some station) (Some other) = is_same_id station other

-- the stops are one, or they have one parent
abbrev pub are_together : Stop → Stop → Bool
are_together from to = is_same_id from.id to.id || is_same_station from.parent to.parent

-- What a row says. By type 3 there is no change. By type 2 it takes the time of the row, or the default where that is
-- empty. By type 1 the other vehicle waits, which is one second. By type 0 it takes the default.
abbrev pub said_seconds : ℕ → Transfer → Option ℕ
said_seconds default row =
    if row.kind == 3 then None
    else (if row.kind == 2 then Some (unwrap_or row.seconds default)
    else (if row.kind == 1 then Some 1 else Some default))

-- where no row says anything, one changes at a stop and within a station, and it takes the default
abbrev pub usual_seconds : ℕ → Bool → Option ℕ
usual_seconds default together = if together then Some default else None

-- what the deciding row says of a change, or what is usual where there is none
unfoldable pub given_seconds : List Transfer → ℕ → Stop → Stop → Option ℕ
given_seconds transfers default from to =
    option_map_or (said_seconds default) (deciding_row transfers from to) (usual_seconds default (are_together from to))

-- the seconds of the change from one stop to another, at least one, or none where there is no change
abbrev pub change_from_to : List Transfer → ℕ → Stop → Stop → Option ℕ
change_from_to transfers default from to = option_map (max 1) (given_seconds transfers default from to)

-- the stop of an id
abbrev pub stop_of : List Stop → List ℕ → Option Stop
stop_of stops id = find (λ (stop : Stop). is_same_id stop.id id) stops

-- the seconds of a change, by the ids of two of the stops; there is no change from or to what is no stop
abbrev pub change_of : List Stop → List Transfer → ℕ → List ℕ → List ℕ → Option ℕ
change_of stops transfers default from to =
    option_and_then (λ a. option_and_then (change_from_to transfers default a) (stop_of stops to)) (stop_of stops from)
