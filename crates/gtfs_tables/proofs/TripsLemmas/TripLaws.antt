-- trips.txt says one list of trips, or has one first fault, and never both.
use Rattle.std.proofs.Common.{◌≡◌, ◌∙◌, ap, map, sym}
use Rattle.gtfs_rows.specs.Sheet.{Sheet}
use Rattle.gtfs_tables.proofs.FieldsLemmas.TableLaws.{file_faults_are_one, sound_has_no_fault, sound_sheets_are_one}
use Rattle.gtfs_tables.specs.Trips.Laws.{NeverBothTrips, OneTrips, OneTripsFault}
use Rattle.gtfs_tables.specs.Trips.Trips.{most_trips, trip_of, trip_rule_at, trips_columns}

pub trips_are_one : OneTrips
trips_are_one bytes a b h k =
    let same : h.sheet ≡ k.sheet = sound_sheets_are_one trips_columns most_trips bytes trip_rule_at h.sheet k.sheet h.sound k.sound in
    h.are ∙ ap (λ (s : Sheet). map (trip_of s) s.rows) same ∙ sym k.are

pub trips_faults_are_one : OneTripsFault
trips_faults_are_one bytes = file_faults_are_one trips_columns most_trips bytes trip_rule_at

pub trips_have_no_fault : NeverBothTrips
trips_have_no_fault bytes trips fault h k = sound_has_no_fault trips_columns most_trips bytes trip_rule_at h.sheet fault h.sound k
