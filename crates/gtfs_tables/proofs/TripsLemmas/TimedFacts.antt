-- What is kept of visits and trips.
use Rattle.std.proofs.Common.{Bor, ◌≡◌, ◌≢◌, ◌∙◌, ◌⊎◌, ℕ, Bool, true, false, List, Option, Some, None, Result, Ok, Err, IfErr, IfOk, ap, cond, inl, inr, not, subst, sym}
use Rattle.std.specs.Prelude.{filter, option_map}
use Rattle.std.specs.List.{filter_map, list_any}
use Rattle.std.specs.declared.cmp.Ordering.TheVariants.{Less}
use Rattle.lc_model.specs.Change.{is_same_id}
use Rattle.lc_model.specs.Order.{IsStrict}
use Rattle.lc_model.specs.declared.stop.Stop.{Stop}
use Rattle.gtfs_tables.specs.Fields.Table.{IsFileFault}
use Rattle.gtfs_tables.specs.Fields.TripRows.{HaveOneRowATrip}
use Rattle.gtfs_tables.specs.declared.fields.fault.FileFault.{FileFault}
use Rattle.gtfs_tables.specs.declared.fields.fault.FileFault.TheVariants.{NoMemory}
use Rattle.gtfs_tables.specs.declared.fields.trip_rows.TripRow.{TripRow}
use Rattle.gtfs_tables.specs.Trips.LeftOut.{AreLeftOut, AreSorted, is_in, time_unless}
use Rattle.gtfs_tables.specs.Trips.StopTimeOrder.{InTripOrder, stop_time_cmp}
use Rattle.gtfs_tables.specs.Trips.StopTimeRows.{most_stop_times, stop_time_rule_at, stop_times_columns}
use Rattle.gtfs_tables.specs.Trips.StopTimes.{AreStopTimesOf, AreTimed, IsStopTimesFault, SaysVisits, time_of}
use Rattle.gtfs_tables.specs.Trips.Timing.{IsTripFault, is_left_out}
use Rattle.gtfs_tables.specs.Trips.Visits.{visit_cmp}
use Rattle.gtfs_tables.specs.declared.trips.left_out.Stopless.{Stopless}
use Rattle.gtfs_tables.specs.declared.trips.stop_times.StopTime.{StopTime}
use Rattle.gtfs_tables.specs.declared.trips.timed_trips.TimedTrips.{TimedTrips}
use Rattle.gtfs_tables.specs.declared.trips.visits.Visit.{Visit}
use Rattle.gtfs_tables.proofs.TripsLemmas.KeptFacts.{filter_map_same, filter_same, pairs_filtered, pairs_kept}

-- the stop time of a visit, where there is one, has its trip and its number
record HasKey (v : Visit) (t : StopTime) : Type 0 where
  pub trip : t.trip ≡ v.trip
  pub seq : t.seq ≡ v.seq

some_key : (v : Visit) (stop : Option (List ℕ)) (t : StopTime)
    → option_map (λ stop. record { trip = v.trip; stop = stop; seq = v.seq; arr = v.arr; dep = v.dep; board = v.board; alight = v.alight }) stop ≡ Some t → HasKey v t
some_key v None t h = cc
some_key v (Some stop) t h =
    let made : StopTime = record { trip = v.trip; stop = stop; seq = v.seq; arr = v.arr; dep = v.dep; board = v.board; alight = v.alight } in
    let same : made ≡ t = cc in
    record { trip = sym (ap (λ (x : StopTime). x.trip) same); seq = sym (ap (λ (x : StopTime). x.seq) same) }

none_not_some : {A : Type 0} (x : A) → (◌≡◌ {A = Option A} None (Some x)) → ⊥
none_not_some x e = cc

key_kept : (left : List (Bor (List ℕ))) (v : Visit) (t : StopTime) → time_unless left v ≡ Some t → HasKey v t
key_kept left v t h = by_test (is_in left v.trip) h
  where
    by_test : (b : Bool) → cond b None (option_map (λ stop. record { trip = v.trip; stop = stop; seq = v.seq; arr = v.arr; dep = v.dep; board = v.board; alight = v.alight }) v.stop) ≡ Some t → HasKey v t
    by_test true e = absurd (none_not_some t e)
    by_test false e = some_key v v.stop t e

same_order : (v w : Visit) (t u : StopTime) → HasKey v t → HasKey w u → visit_cmp v w ≡ Less → stop_time_cmp t u ≡ Less
same_order v w t u h k less = rw (h.trip, h.seq, k.trip, k.seq) less

-- the stop times of visits in order are in order
pub times_in_order : (left : List (Bor (List ℕ))) (visits : List Visit) (times : List StopTime) → times ≡ filter_map (time_unless left) visits → IsStrict visit_cmp visits → InTripOrder times
times_in_order left visits times are strict =
    subst InTripOrder (sym are)
    (pairs_kept (time_unless left) (λ v w. visit_cmp v w ≡ Less) (λ t u. stop_time_cmp t u ≡ Less)
    (λ v w t u is is' less. same_order v w t u (key_kept left v t is) (key_kept left w u is') less) visits strict)

-- they are those of the trips that are not left out
pub times_are : (visits : List Visit) (left : List (Bor (List ℕ))) (times : List StopTime) → AreLeftOut visits left → times ≡ filter_map (time_unless left) visits → times ≡ filter_map (time_of visits) visits
times_are visits left times out are = are ∙ filter_map_same (time_unless left) (time_of visits) (λ v. ap (λ b. cond b None (option_map (λ stop. record { trip = v.trip; stop = stop; seq = v.seq; arr = v.arr; dep = v.dep; board = v.board; alight = v.alight }) v.stop)) (out.are v.trip)) visits

-- the trips are those that are not left out
pub trips_are : (visits : List Visit) (left : List (Bor (List ℕ))) (trips kept : List TripRow) → AreLeftOut visits left → kept ≡ filter (λ (t : TripRow). not (is_in left t.trip)) trips
    → kept ≡ filter (λ (t : TripRow). not (is_left_out visits t.trip)) trips
trips_are visits left trips kept out are =
    are ∙ filter_same (λ (t : TripRow). not (is_in left t.trip)) (λ (t : TripRow). not (is_left_out visits t.trip)) (λ t. ap not (out.are t.trip)) trips

pub kept_once : (p : TripRow → Bool) (trips kept : List TripRow) → kept ≡ filter p trips → HaveOneRowATrip trips → HaveOneRowATrip kept
kept_once p trips kept are once = subst HaveOneRowATrip (sym are) (pairs_filtered (λ (x y : TripRow). x.trip ≢ y.trip) p trips once)

-- the trips that name no stop in a row are those that are left out
pub left_out_is : (visits seen : List Visit) (stopless given : List Stopless) (left : List (Bor (List ℕ))) → seen ≡ visits → given ≡ stopless → AreSorted left
    → ((trip : List ℕ) → is_in left trip ≡ list_any (λ (s : Stopless). is_same_id s.trip trip) given)
    → ((trip : List ℕ) → list_any (λ (s : Stopless). is_same_id s.trip trip) stopless ≡ is_left_out seen trip) → AreLeftOut visits left
left_out_is visits seen stopless given left same_visits same_stopless sorted tested recorded = record {
  sorted = sorted;
  are = λ trip.
      tested trip ∙ ap (λ (l : List Stopless). list_any (λ (s : Stopless). is_same_id s.trip trip) l) same_stopless ∙ recorded trip
      ∙ ap (λ (l : List Visit). is_left_out l trip) same_visits;
}

pub says_lent : (stops stops' : List Stop) (trips trips' : List TripRow) (bytes : List ℕ) (visits : List Visit) → stops ≡ stops' → trips ≡ trips' → SaysVisits stops trips bytes visits → SaysVisits stops' trips' bytes visits
says_lent stops stops' trips trips' bytes visits e f h = subst (λ (s : List Stop). SaysVisits s trips' bytes visits) e (subst (λ (t : List TripRow). SaysVisits stops t bytes visits) f h)

-- what the visits say is what the file says
pub times_whole : (stops : List Stop) (trips : List TripRow) (bytes : List ℕ) (visits : List Visit) (r : Result TimedTrips FileFault) → SaysVisits stops trips bytes visits
    → IfOk r (λ read. AreTimed visits trips read.times read.trips) → IfOk r (λ read. AreStopTimesOf stops trips bytes read.times read.trips)
times_whole stops trips bytes visits (Ok read) says timed = record { visits = visits; says = says; timed = timed }
times_whole stops trips bytes visits (Err fault) says timed = tt

pub faults_whole : (stops : List Stop) (trips : List TripRow) (bytes : List ℕ) (visits : List Visit) (r : Result TimedTrips FileFault) → SaysVisits stops trips bytes visits
    → IfErr r (λ fault. (fault ≡ NoMemory) ⊎ IsTripFault visits trips fault) → IfErr r (λ fault. (fault ≡ NoMemory) ⊎ IsStopTimesFault stops trips bytes fault)
faults_whole stops trips bytes visits (Ok read) says h = tt
faults_whole stops trips bytes visits (Err fault) says (inl e) = inl e
faults_whole stops trips bytes visits (Err fault) says (inr first) = inr (inr (record { visits = visits; says = says; first = first }))

pub row_fault_whole : (stops stops' : List Stop) (trips trips' : List TripRow) (bytes : List ℕ) (fault : FileFault) → stops ≡ stops' → trips ≡ trips'
    → (fault ≡ NoMemory) ⊎ IsFileFault stop_times_columns most_stop_times (stop_time_rule_at stops trips) bytes fault → (fault ≡ NoMemory) ⊎ IsStopTimesFault stops' trips' bytes fault
row_fault_whole stops stops' trips trips' bytes fault e f (inl none) = inl none
row_fault_whole stops stops' trips trips' bytes fault e f (inr h) =
    inr (inl (subst (λ (s : List Stop). IsFileFault stop_times_columns most_stop_times (stop_time_rule_at s trips') bytes fault) e
    (subst (λ (t : List TripRow). IsFileFault stop_times_columns most_stop_times (stop_time_rule_at stops t) bytes fault) f h)))
