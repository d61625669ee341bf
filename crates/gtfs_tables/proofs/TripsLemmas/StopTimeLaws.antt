-- stop_times.txt says one list of stop times and one of trips, or has one first fault, and never both.
use Rattle.std.proofs.Common.{◌≡◌, ◌∙◌, ℕ, List, ap, ap₂, inl, inr, length, not, subst, sym}
use Rattle.std.specs.Prelude.{filter}
use Rattle.std.specs.List.{filter_map}
use Rattle.std.specs.List.Sorted.{IsPermutation}
use Rattle.gtfs_rows.specs.Sheet.{Sheet}
use Rattle.lc_model.specs.declared.stop.Stop.{Stop}
use Rattle.lc_model.proofs.OrdersLemmas.{strict_orders_are_one}
use Rattle.gtfs_tables.specs.Fields.Rules.{IsUnbroken}
use Rattle.gtfs_tables.specs.declared.fields.fault.FileFault.{FileFault}
use Rattle.gtfs_tables.specs.declared.fields.fault.FileFault.TheVariants.{Broken, TooMany, NoMemory}
use Rattle.gtfs_tables.specs.declared.fields.trip_rows.TripRow.{TripRow}
use Rattle.gtfs_tables.proofs.FieldsLemmas.TableLaws.{file_faults_are_one, first_is_broken, firsts_say_one, sound_has_no_fault, sound_sheets_are_one}
use Rattle.gtfs_tables.specs.Trips.Laws.{NeverBothStopTimes, OneStopTimes, OneStopTimesFault}
use Rattle.gtfs_tables.specs.Trips.StopTimeRows.{most_stop_times, stop_time_rule_at, stop_times_columns}
use Rattle.gtfs_tables.specs.Trips.StopTimes.{SaysVisits, time_of}
use Rattle.gtfs_tables.specs.Trips.Timing.{IsTripFault, is_left_out, trip_fault_at}
use Rattle.gtfs_tables.specs.Trips.Visits.{visit_cmp, visits_of_rows}
use Rattle.gtfs_tables.specs.declared.trips.visits.Visit.{Visit}
use Rattle.gtfs_tables.proofs.TripsLemmas.VisitFacts.{visit_total}

-- two first trips whose rows break a rule are one
trip_faults_are_one : (visits : List Visit) (trips : List TripRow) (a b : FileFault) → IsTripFault visits trips a → IsTripFault visits trips b → a ≡ b
trip_faults_are_one visits trips (Broken rule row) (Broken rule2 row2) (p, h) (q, k) =
    let same = firsts_say_one (trip_fault_at visits trips) (length trips) p q (rule, row) (rule2, row2) h k in
    ap₂ (λ (r s : ℕ). Broken r s) (ap (λ (x : ℕ × ℕ). x.0) same) (ap (λ (x : ℕ × ℕ). x.1) same)
trip_faults_are_one visits trips (Broken rule row) (TooMany n) h k = absurd k
trip_faults_are_one visits trips (Broken rule row) NoMemory h k = absurd k
trip_faults_are_one visits trips (TooMany n) b h k = absurd h
trip_faults_are_one visits trips NoMemory b h k = absurd h

trip_fault_is_broken : (visits : List Visit) (trips : List TripRow) (fault : FileFault) → IsTripFault visits trips fault → IsUnbroken (trip_fault_at visits trips) (length trips) → ⊥
trip_fault_is_broken visits trips (Broken rule row) (p, h) none = first_is_broken (trip_fault_at visits trips) (length trips) p (rule, row) h none
trip_fault_is_broken visits trips (TooMany n) h none = h
trip_fault_is_broken visits trips NoMemory h none = h

module _ (stops : List Stop) (trips : List TripRow) (bytes : List ℕ) where
  -- the visits of a file are one list
  visits_are_one : (a b : List Visit) → SaysVisits stops trips bytes a → SaysVisits stops trips bytes b → a ≡ b
  visits_are_one a b h k =
      let same : h.sheet ≡ k.sheet = sound_sheets_are_one stop_times_columns most_stop_times bytes (stop_time_rule_at stops trips) h.sheet k.sheet h.sound k.sound in
      strict_orders_are_one visit_cmp visit_total (visits_of_rows k.sheet) a b
      (subst (λ (s : Sheet). IsPermutation (visits_of_rows s) a) same h.are.are) k.are.are h.are.in_order k.are.in_order

pub stop_times_are_one : OneStopTimes
stop_times_are_one stops trips bytes a b s t h k =
    let same : h.visits ≡ k.visits = visits_are_one stops trips bytes h.visits k.visits h.says k.says in (
      h.timed.times ∙ ap (λ (v : List Visit). filter_map (time_of v) v) same ∙ sym k.timed.times,
      h.timed.trips_kept ∙ ap (λ (v : List Visit). filter (λ (r : TripRow). not (is_left_out v r.trip)) trips) same ∙ sym k.timed.trips_kept,
    )

pub stop_times_faults_are_one : OneStopTimesFault
stop_times_faults_are_one stops trips bytes a b (inl h) (inl k) = file_faults_are_one stop_times_columns most_stop_times bytes (stop_time_rule_at stops trips) a b h k
stop_times_faults_are_one stops trips bytes a b (inl h) (inr k) = absurd (sound_has_no_fault stop_times_columns most_stop_times bytes (stop_time_rule_at stops trips) k.says.sheet a k.says.sound h)
stop_times_faults_are_one stops trips bytes a b (inr h) (inl k) = absurd (sound_has_no_fault stop_times_columns most_stop_times bytes (stop_time_rule_at stops trips) h.says.sheet b h.says.sound k)
stop_times_faults_are_one stops trips bytes a b (inr h) (inr k) =
    let same : h.visits ≡ k.visits = visits_are_one stops trips bytes h.visits k.visits h.says k.says in
    trip_faults_are_one k.visits trips a b (subst (λ (v : List Visit). IsTripFault v trips a) same h.first) k.first

pub stop_times_have_no_fault : NeverBothStopTimes
stop_times_have_no_fault stops trips bytes times kept fault h (inl k) = sound_has_no_fault stop_times_columns most_stop_times bytes (stop_time_rule_at stops trips) h.says.sheet fault h.says.sound k
stop_times_have_no_fault stops trips bytes times kept fault h (inr k) =
    let same : k.visits ≡ h.visits = visits_are_one stops trips bytes k.visits h.visits k.says h.says in
    trip_fault_is_broken h.visits trips fault (subst (λ (v : List Visit). IsTripFault v trips fault) same k.first) h.timed.timed
