-- The tables of a feed are one: each file says one list.
use Rattle.std.proofs.Common.{◌≡◌, ◌∙◌, ℕ, ◌+◌, List, Option, Some, None, length, ap, subst, arith}
use Rattle.std.proofs.Props.{props}
use Rattle.lc_model.specs.declared.stop.Stop.{Stop}
use Rattle.gtfs_tables.specs.declared.fields.trip_rows.TripRow.{TripRow}
use Rattle.gtfs_tables.proofs.TripsLemmas.StopLaws.{stops_are_one}
use Rattle.gtfs_tables.proofs.TripsLemmas.StopTimeLaws.{stop_times_are_one}
use Rattle.gtfs_tables.proofs.TripsLemmas.TripLaws.{trips_are_one}
use Rattle.gtfs_tables.specs.Trips.Stops.{AreStopsOf, HaveKnownParents}
use Rattle.gtfs_tables.specs.Trips.StopTimes.{AreStopTimesOf}
use Rattle.gtfs_tables.specs.Trips.Trips.{AreTripsOf}
use Rattle.gtfs_tables.specs.declared.trips.stop_times.StopTime.{StopTime}
use Rattle.gtfs_tables.proofs.CalendarsLemmas.ReadLaws.{dates_are_one, frequencies_are_one, transfers_are_one, weekly_are_one}
use Rattle.gtfs_tables.specs.Calendars.Calendar.{AreWeekly}
use Rattle.gtfs_tables.specs.Calendars.CalendarDates.{AreDates}
use Rattle.gtfs_tables.specs.Calendars.Frequencies.{AreFrequencies}
use Rattle.gtfs_tables.specs.Calendars.Transfers.{AreTransfers}
use Rattle.gtfs_tables.specs.declared.calendars.calendar.Weekly.{Weekly}
use Rattle.gtfs_tables.specs.declared.calendars.calendar_dates.DateRow.{DateRow}
use Rattle.gtfs_tables.specs.declared.calendars.frequency.Frequency.{Frequency}
use Rattle.gtfs_tables.specs.declared.calendars.transfer.Transfer.{Transfer}
use Rattle.gtfs_tables.specs.Feed.{FrequenciesAre, Holds, StopTimesAre, TransfersAre}
use Rattle.gtfs_tables.specs.Laws.{OneTables}
use Rattle.gtfs_tables.specs.declared.feed_file.FeedFile.TheVariants as file
use Rattle.gtfs_tables.specs.declared.tables.Tables.{Tables}
use Rattle.gtfs_tables.proofs.FeedLaws.{rows_are_one, said_is_one}

times_are_one : (stops : List Stop) (trips : List TripRow) (found : Option (List ℕ)) (a b : List StopTime) (s t : List TripRow)
    → Holds found (λ bytes. AreStopTimesOf stops trips bytes a s) → Holds found (λ bytes. AreStopTimesOf stops trips bytes b t) → (a ≡ b) × (s ≡ t)
times_are_one stops trips None a b s t p q = absurd p
times_are_one stops trips (Some bytes) a b s t p q = stop_times_are_one stops trips bytes a b s t p q

abbrev with_parents : (stops : List Stop) (trips : List TripRow) (times : List StopTime) (weekly : List Weekly) (dates : List DateRow)
    (frequencies : List Frequency) (transfers : List Transfer) (left_out : ℕ) → ∥ HaveKnownParents stops ∥₁ → Tables
with_parents stops trips times weekly dates frequencies transfers left_out known = record {
  stops = stops;
  trips = trips;
  stop_times = times;
  services = record { weekly = weekly; dates = dates };
  frequencies = frequencies;
  transfers = transfers;
  left_out = left_out;
  parents_known = known;
}

known_prop : (stops : List Stop) → IsProp ∥ HaveKnownParents stops ∥₁
known_prop stops = hlevel props

same_tables : (a b : Tables) → a.stops ≡ b.stops → a.trips ≡ b.trips → a.stop_times ≡ b.stop_times → a.services.weekly ≡ b.services.weekly → a.services.dates ≡ b.services.dates
    → a.frequencies ≡ b.frequencies → a.transfers ≡ b.transfers → a.left_out ≡ b.left_out → a ≡ b
same_tables a b stops trips times weekly dates frequencies transfers left_out =
    subst (λ (s : List Stop). (known : ∥ HaveKnownParents s ∥₁)
    → a ≡ with_parents s b.trips b.stop_times b.services.weekly b.services.dates b.frequencies b.transfers b.left_out known) stops
    (λ known.
    (λ i. with_parents a.stops (trips i) (times i) (weekly i) (dates i) (frequencies i) (transfers i) (left_out i) a.parents_known)
    ∙ ap (with_parents a.stops b.trips b.stop_times b.services.weekly b.services.dates b.frequencies b.transfers b.left_out) (known_prop a.stops a.parents_known known))
    b.parents_known

one_left_out : (few other_few many other_many : List TripRow) (left other_left : ℕ) → few ≡ other_few → many ≡ other_many
    → left + length few ≡ length many → other_left + length other_few ≡ length other_many → left ≡ other_left
one_left_out few other_few many other_many left other_left same_few same_many p q =
    let f : length few ≡ length other_few = ap (λ (l : List TripRow). length l) same_few in
    let m : length many ≡ length other_many = ap (λ (l : List TripRow). length l) same_many in
    omega arith

pub one_tables : OneTables
one_tables found a b p q =
    let stops : a.stops ≡ b.stops = said_is_one AreStopsOf stops_are_one (found file.Stops) a.stops b.stops p.stops q.stops in
    let trips : p.all_trips ≡ q.all_trips = said_is_one AreTripsOf trips_are_one (found file.Trips) p.all_trips q.all_trips p.trips q.trips in
    let times : (a.stop_times ≡ b.stop_times) × (a.trips ≡ b.trips) =
    times_are_one b.stops q.all_trips (found file.StopTimes) a.stop_times b.stop_times a.trips b.trips
    (subst (λ (s : List Stop). StopTimesAre found s q.all_trips a.stop_times a.trips) stops
    (subst (λ (t : List TripRow). StopTimesAre found a.stops t a.stop_times a.trips) trips p.stop_times)) q.stop_times in
    same_tables a b stops times.1 times.0
    (rows_are_one AreWeekly weekly_are_one (found file.Calendar) a.services.weekly b.services.weekly p.weekly q.weekly)
    (rows_are_one AreDates dates_are_one (found file.CalendarDates) a.services.dates b.services.dates p.dates q.dates)
    (rows_are_one (AreFrequencies q.all_trips) (frequencies_are_one q.all_trips) (found file.Frequencies) a.frequencies b.frequencies
    (subst (λ (t : List TripRow). FrequenciesAre found t a.frequencies) trips p.frequencies) q.frequencies)
    (rows_are_one (AreTransfers b.stops) (transfers_are_one b.stops) (found file.Transfers) a.transfers b.transfers
    (subst (λ (s : List Stop). TransfersAre found s a.transfers) stops p.transfers) q.transfers)
    (one_left_out a.trips b.trips p.all_trips q.all_trips a.left_out b.left_out times.1 trips p.left_out q.left_out)
