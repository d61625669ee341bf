-- The rules of the rows of a trip, looked at together (GTFS Schedule Reference, stop_times.txt: arrival_time).
use Rattle.std.specs.Prelude.{ℕ, ◌-◌, ◌&&◌, ◌||◌, Bool, if◌then◌else◌, List, [], ◌∷◌, Option, Some, None, filter, is_none, length, nat_lt, option_and_then, option_map}
use Rattle.std.specs.List.{list_any, slice_get}
use Rattle.std.specs.Option.{option_map_or, option_or}
use Rattle.lc_model.specs.Change.{is_same_id}
use Rattle.gtfs_tables.specs.Fields.Rules.{IsFirstBroken}
use Rattle.gtfs_tables.specs.declared.fields.fault.FileFault.{FileFault}
use Rattle.gtfs_tables.specs.declared.fields.fault.FileFault.TheVariants.{Broken, TooMany, NoMemory}
use Rattle.gtfs_tables.specs.declared.fields.trip_rows.TripRow.{TripRow}
use Rattle.gtfs_tables.specs.declared.trips.visits.Visit.{Visit}

-- the visits of a trip
abbrev pub visits_of : List Visit → List ℕ → List Visit
visits_of visits trip = filter (λ (v : Visit). is_same_id v.trip trip) visits

-- a trip is left out: one of its rows names no stop
abbrev pub is_left_out : List Visit → List ℕ → Bool
is_left_out visits trip = list_any (λ (v : Visit). is_none v.stop && is_same_id v.trip trip) visits

-- rule 13 at a place: the row has neither time
abbrev pub untimed_at : List Visit → ℕ → Option (ℕ × ℕ)
untimed_at visits place =
    option_and_then (λ (v : Visit). if is_none v.arr && is_none v.dep then Some (13, v.row) else None) (slice_get visits place)

-- the last of three times, or none where one is earlier than the one before it
abbrev pub last_time : ℕ → ℕ → ℕ → Option ℕ
last_time before arr dep = if nat_lt arr before || nat_lt dep arr then None else Some dep

-- The last time after a row with these times, where it was `before`; none where a time is earlier than the one before
-- it. A row with one of its two times uses it for both.
abbrev pub time_after : ℕ → Option ℕ → Option ℕ → Option ℕ
time_after before None None = Some before
time_after before (Some arr) None = last_time before arr arr
time_after before None (Some dep) = last_time before dep dep
time_after before (Some arr) (Some dep) = last_time before arr dep

-- the first row, in the order of the sequence, with a time that is earlier than the one before it
abbrev pub early_row : ℕ → List Visit → Option ℕ
early_row before [] = None
early_row before (v ∷ rest) = option_map_or (λ after. early_row after rest) (time_after before v.arr v.dep) (Some v.row)

-- rule 13 at the first row of a trip, then at its last, then rule 14
abbrev pub timing_fault : List Visit → Option (ℕ × ℕ)
timing_fault visits =
    option_or (untimed_at visits 0)
    (option_or (untimed_at visits (length visits - 1)) (option_map (λ row. (14, row)) (early_row 0 visits)))

-- the first rule that the rows of a trip break together, and the row; none where the trip is left out
abbrev pub trip_fault : List Visit → List ℕ → Option (ℕ × ℕ)
trip_fault visits trip = if is_left_out visits trip then None else timing_fault (visits_of visits trip)

-- the first rule that the rows of the trip at a place of the trips break together
abbrev pub trip_fault_at : List Visit → List TripRow → ℕ → Option (ℕ × ℕ)
trip_fault_at visits trips place = option_and_then (λ (t : TripRow). trip_fault visits t.trip) (slice_get trips place)

-- of the trips in their order, the first whose rows break a rule is reported
abbrev pub IsTripFault : List Visit → List TripRow → FileFault → Type 0
IsTripFault visits trips (Broken rule row) = (place : ℕ) × IsFirstBroken (trip_fault_at visits trips) (length trips) place (rule, row)
IsTripFault visits trips (TooMany count) = ⊥
IsTripFault visits trips NoMemory = ⊥
