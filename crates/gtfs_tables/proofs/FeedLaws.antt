-- A feed has tables or one first file that is not as it has to be, and never both.
use Rattle.std.proofs.Common.{◌≡◌, ◌∙◌, ℕ, ◌<◌, ◌⊎◌, inl, inr, List, Option, Some, None, IsNone, IsSome, take, length, ap, sym, subst, arith}
use Rattle.std.specs.Prelude.{MatchOption}
use Rattle.std.proofs.lemmas.Bool.{cases_order}
use Rattle.std.proofs.lemmas.List.{get_or-take, length-take}
use Rattle.std.proofs.lemmas.Option.{get_or_from_slice_get, slice_get_within}
use Rattle.std.specs.List.{All, slice_get}
use Rattle.lc_model.specs.declared.stop.Stop.{Stop}
use Rattle.gtfs_tables.specs.Fields.Laws.{AreNeverBoth, SayOne}
use Rattle.gtfs_tables.specs.declared.fields.fault.FileFault.{FileFault}
use Rattle.gtfs_tables.specs.declared.fields.trip_rows.TripRow.{TripRow}
use Rattle.gtfs_tables.proofs.TripsLemmas.StopLaws.{stops_are_one, stops_faults_are_one, stops_have_no_fault}
use Rattle.gtfs_tables.proofs.TripsLemmas.StopTimeLaws.{stop_times_faults_are_one, stop_times_have_no_fault}
use Rattle.gtfs_tables.proofs.TripsLemmas.TripLaws.{trips_are_one, trips_faults_are_one, trips_have_no_fault}
use Rattle.gtfs_tables.specs.Trips.Stops.{AreStopsOf, IsStopsFault}
use Rattle.gtfs_tables.specs.Trips.StopTimes.{AreStopTimesOf, IsStopTimesFault}
use Rattle.gtfs_tables.specs.Trips.Trips.{AreTripsOf, IsTripsFault}
use Rattle.gtfs_tables.specs.declared.trips.stop_times.StopTime.{StopTime}
use Rattle.gtfs_tables.proofs.CalendarsLemmas.ReadLaws.{calendar_dates_faults_are_one, calendar_faults_are_one, dates_have_no_fault, frequencies_faults_are_one, frequencies_have_no_fault, transfers_faults_are_one, transfers_have_no_fault, weekly_have_no_fault}
use Rattle.gtfs_tables.specs.Calendars.Calendar.{AreWeekly, IsCalendarFault}
use Rattle.gtfs_tables.specs.Calendars.CalendarDates.{AreDates, IsCalendarDatesFault}
use Rattle.gtfs_tables.specs.Calendars.Frequencies.{AreFrequencies, IsFrequenciesFault}
use Rattle.gtfs_tables.specs.Calendars.Transfers.{AreTransfers, IsTransfersFault}
use Rattle.gtfs_tables.specs.declared.calendars.calendar_dates.DateRow.{DateRow}
use Rattle.gtfs_tables.specs.Feed.{AreFrequenciesRight, AreFrequenciesWrong, AreTables, AreTimesRight, AreTimesWrong, AreTransfersRight, AreTransfersWrong, HasRows, Holds, IsAbsence, IsFaultAt, IsRightAt, StopsAre, TripsAre}
use Rattle.gtfs_tables.specs.Files.{Found, feed_files}
use Rattle.gtfs_tables.specs.Laws.{NeverBoth, OneFirst}
use Rattle.gtfs_tables.specs.declared.feed_file.FeedFile.{FeedFile}
use Rattle.gtfs_tables.specs.declared.feed_file.FeedFile.TheVariants as file
use Rattle.gtfs_tables.specs.declared.tables.Tables.{Tables}

-- a file that is there says one value
pub said_is_one : {Value : Type 0} (Say : List ℕ → Value → Type 0) → SayOne Say → (found : Option (List ℕ)) (a b : Value)
    → Holds found (λ bytes. Say bytes a) → Holds found (λ bytes. Say bytes b) → a ≡ b
said_is_one Say one None a b p q = absurd p
said_is_one Say one (Some bytes) a b p q = one bytes a b p q

-- a file that may be absent says one list
pub rows_are_one : {Row : Type 0} (Say : List ℕ → List Row → Type 0) → SayOne Say → (found : Option (List ℕ)) (a b : List Row)
    → HasRows Say found a → HasRows Say found b → a ≡ b
rows_are_one Say one None a b p q = p ∙ sym q
rows_are_one Say one (Some bytes) a b p q = one bytes a b p q

-- a file that has to be there has one first fault
required_is_one : (IsFault : List ℕ → FileFault → Type 0) → SayOne IsFault → (found : Option (List ℕ)) (a b : FileFault)
    → MatchOption found (IsAbsence a) (λ bytes. IsFault bytes a) → MatchOption found (IsAbsence b) (λ bytes. IsFault bytes b) → a ≡ b
required_is_one IsFault one None a b p q = p ∙ sym q
required_is_one IsFault one (Some bytes) a b p q = one bytes a b p q

-- a file that has to be there and says a value has no fault
required_never : {Value : Type 0} (Say : List ℕ → Value → Type 0) (IsFault : List ℕ → FileFault → Type 0) → AreNeverBoth Say IsFault
    → (found : Option (List ℕ)) (value : Value) (fault : FileFault) → Holds found (λ bytes. Say bytes value)
    → MatchOption found (IsAbsence fault) (λ bytes. IsFault bytes fault) → ⊥
required_never Say IsFault never None value fault says wrong = absurd says
required_never Say IsFault never (Some bytes) value fault says wrong = never bytes value fault says wrong

-- a file that may be absent and says rows has no fault
optional_never : {Row : Type 0} (Say : List ℕ → List Row → Type 0) (IsFault : List ℕ → FileFault → Type 0) → AreNeverBoth Say IsFault
    → (found : Option (List ℕ)) (rows : List Row) (fault : FileFault) → HasRows Say found rows → Holds found (λ bytes. IsFault bytes fault) → ⊥
optional_never Say IsFault never None rows fault says wrong = absurd wrong
optional_never Say IsFault never (Some bytes) rows fault says wrong = never bytes rows fault says wrong

dates_never : (calendar dates : Option (List ℕ)) (rows : List DateRow) (fault : FileFault) → HasRows AreDates dates rows
    → IsSome calendar ⊎ IsSome dates → MatchOption dates (IsNone calendar × IsAbsence fault) (λ bytes. IsCalendarDatesFault bytes fault) → ⊥
dates_never calendar None rows fault are (inl there) wrong = let both = sym there ∙ wrong.0 in cc
dates_never calendar None rows fault are (inr there) wrong = cc
dates_never calendar (Some bytes) rows fault are there wrong = dates_have_no_fault bytes rows fault are wrong

dates_fault_is_one : (calendar dates : Option (List ℕ)) (a b : FileFault)
    → MatchOption dates (IsNone calendar × IsAbsence a) (λ bytes. IsCalendarDatesFault bytes a)
    → MatchOption dates (IsNone calendar × IsAbsence b) (λ bytes. IsCalendarDatesFault bytes b) → a ≡ b
dates_fault_is_one calendar None a b p q = p.1 ∙ sym q.1
dates_fault_is_one calendar (Some bytes) a b p q = calendar_dates_faults_are_one bytes a b p q

one_stops_of : (found : Found) (a b : List Stop) → StopsAre found a → StopsAre found b → a ≡ b
one_stops_of found a b p q = said_is_one AreStopsOf stops_are_one (found file.Stops) a b p q

one_trips_of : (found : Found) (a b : List TripRow) → TripsAre found a → TripsAre found b → a ≡ b
one_trips_of found a b p q = said_is_one AreTripsOf trips_are_one (found file.Trips) a b p q

times_never_of : (stops : List Stop) (trips : List TripRow) (found : Option (List ℕ)) (times : List StopTime) (kept : List TripRow) (fault : FileFault)
    → Holds found (λ bytes. AreStopTimesOf stops trips bytes times kept)
    → MatchOption found (IsAbsence fault) (λ bytes. IsStopTimesFault stops trips bytes fault) → ⊥
times_never_of stops trips None times kept fault says wrong = absurd says
times_never_of stops trips (Some bytes) times kept fault says wrong = stop_times_have_no_fault stops trips bytes times kept fault says wrong

times_never : (found : Found) (fault : FileFault) → AreTimesRight found → AreTimesWrong found fault → ⊥
times_never found fault (stops, trips, times, kept, stops_are, trips_are, say) (others, other_trips, others_are, other_trips_are, wrong) =
    let IsWrong : List Stop → List TripRow → Type 0 = λ s t. MatchOption (found file.StopTimes) (IsAbsence fault) (λ bytes. IsStopTimesFault s t bytes fault) in
    times_never_of stops trips (found file.StopTimes) times kept fault say
    (subst (λ (s : List Stop). IsWrong s trips) (one_stops_of found others stops others_are stops_are)
    (subst (λ (t : List TripRow). IsWrong others t) (one_trips_of found other_trips trips other_trips_are trips_are) wrong))

times_fault_is_one : (found : Found) (a b : FileFault) → AreTimesWrong found a → AreTimesWrong found b → a ≡ b
times_fault_is_one found a b (others, other_trips, others_are, other_trips_are, p) (stops, trips, stops_are, trips_are, q) =
    let IsWrong : List Stop → List TripRow → Type 0 = λ s t. MatchOption (found file.StopTimes) (IsAbsence a) (λ bytes. IsStopTimesFault s t bytes a) in
    required_is_one (IsStopTimesFault stops trips) (stop_times_faults_are_one stops trips) (found file.StopTimes) a b
    (subst (λ (s : List Stop). IsWrong s trips) (one_stops_of found others stops others_are stops_are)
    (subst (λ (t : List TripRow). IsWrong others t) (one_trips_of found other_trips trips other_trips_are trips_are) p))
    q

frequencies_never : (found : Found) (fault : FileFault) → AreFrequenciesRight found → AreFrequenciesWrong found fault → ⊥
frequencies_never found fault (trips, frequencies, trips_are, say) (others, others_are, wrong) =
    optional_never (AreFrequencies trips) (IsFrequenciesFault trips) (frequencies_have_no_fault trips) (found file.Frequencies) frequencies fault say
    (subst (λ (t : List TripRow). Holds (found file.Frequencies) (λ bytes. IsFrequenciesFault t bytes fault)) (one_trips_of found others trips others_are trips_are) wrong)

frequencies_fault_is_one : (found : Found) (a b : FileFault) → AreFrequenciesWrong found a → AreFrequenciesWrong found b → a ≡ b
frequencies_fault_is_one found a b (others, others_are, p) (trips, trips_are, q) =
    said_is_one (IsFrequenciesFault trips) (frequencies_faults_are_one trips) (found file.Frequencies) a b
    (subst (λ (t : List TripRow). Holds (found file.Frequencies) (λ bytes. IsFrequenciesFault t bytes a)) (one_trips_of found others trips others_are trips_are) p)
    q

transfers_never : (found : Found) (fault : FileFault) → AreTransfersRight found → AreTransfersWrong found fault → ⊥
transfers_never found fault (stops, transfers, stops_are, say) (others, others_are, wrong) =
    optional_never (AreTransfers stops) (IsTransfersFault stops) (transfers_have_no_fault stops) (found file.Transfers) transfers fault say
    (subst (λ (s : List Stop). Holds (found file.Transfers) (λ bytes. IsTransfersFault s bytes fault)) (one_stops_of found others stops others_are stops_are) wrong)

transfers_fault_is_one : (found : Found) (a b : FileFault) → AreTransfersWrong found a → AreTransfersWrong found b → a ≡ b
transfers_fault_is_one found a b (others, others_are, p) (stops, stops_are, q) =
    said_is_one (IsTransfersFault stops) (transfers_faults_are_one stops) (found file.Transfers) a b
    (subst (λ (s : List Stop). Holds (found file.Transfers) (λ bytes. IsTransfersFault s bytes a)) (one_stops_of found others stops others_are stops_are) p)
    q

-- a file that is as it has to be has no fault
never_both_at : (found : Found) (at : FeedFile) (fault : FileFault) → IsRightAt found at → IsFaultAt found at fault → ⊥
never_both_at found file.Stops fault right wrong = required_never AreStopsOf IsStopsFault stops_have_no_fault (found file.Stops) right.0 fault right.1 wrong
never_both_at found file.Trips fault right wrong = required_never AreTripsOf IsTripsFault trips_have_no_fault (found file.Trips) right.0 fault right.1 wrong
never_both_at found file.StopTimes fault right wrong = times_never found fault right wrong
never_both_at found file.Calendar fault right wrong = optional_never AreWeekly IsCalendarFault weekly_have_no_fault (found file.Calendar) right.0 fault right.1 wrong
never_both_at found file.CalendarDates fault right wrong = dates_never (found file.Calendar) (found file.CalendarDates) right.0 fault right.1 right.2 wrong
never_both_at found file.Frequencies fault right wrong = frequencies_never found fault right wrong
never_both_at found file.Transfers fault right wrong = transfers_never found fault right wrong

-- one thing is wrong first with a file
one_fault_at : (found : Found) (at : FeedFile) (a b : FileFault) → IsFaultAt found at a → IsFaultAt found at b → a ≡ b
one_fault_at found file.Stops a b p q = required_is_one IsStopsFault stops_faults_are_one (found file.Stops) a b p q
one_fault_at found file.Trips a b p q = required_is_one IsTripsFault trips_faults_are_one (found file.Trips) a b p q
one_fault_at found file.StopTimes a b p q = times_fault_is_one found a b p q
one_fault_at found file.Calendar a b p q = said_is_one IsCalendarFault calendar_faults_are_one (found file.Calendar) a b p q
one_fault_at found file.CalendarDates a b p q = dates_fault_is_one (found file.Calendar) (found file.CalendarDates) a b p q
one_fault_at found file.Frequencies a b p q = frequencies_fault_is_one found a b p q
one_fault_at found file.Transfers a b p q = transfers_fault_is_one found a b p q

-- each file of a feed with tables is as it has to be
right_at : (found : Found) (tables : Tables) (at : FeedFile) → AreTables found tables → IsRightAt found at
right_at found tables file.Stops are = (tables.stops, are.stops)
right_at found tables file.Trips are = (are.all_trips, are.trips)
right_at found tables file.StopTimes are =
    (tables.stops, are.all_trips, tables.stop_times, tables.trips, are.stops, are.trips, are.stop_times)
right_at found tables file.Calendar are = (tables.services.weekly, are.weekly)
right_at found tables file.CalendarDates are = (tables.services.dates, are.dates, are.services)
right_at found tables file.Frequencies are = (are.all_trips, tables.frequencies, are.trips, are.frequencies)
right_at found tables file.Transfers are = (tables.stops, tables.transfers, are.stops, are.transfers)

pub never_both : NeverBoth
never_both found tables place at fault are first = never_both_at found at fault (right_at found tables at are) first.broken

-- what holds of the first items of a list holds of the one at a place among them
place_holds : {X : Type 0} (P : X → Type 0) (xs : List X) (n k : ℕ) (x : X) → All P (take n xs) → k < n → slice_get xs k ≡ Some x → P x
place_holds P xs n k x all low at =
    let inside : k < length xs = slice_get_within xs k x at in
    let within : k < length (take n xs) = omega (arith, length-take n xs) in
    subst P (get_or-take n xs k x low ∙ get_or_from_slice_get xs k x x at) (all k x within)

pub one_first : OneFirst
one_first found place other a b x y first second =
    elim (cases_order place other) [
      | inl same ↦
          let files : a ≡ b = (let e : Some a ≡ Some b = sym first.stands ∙ ap (slice_get feed_files) same ∙ second.stands in cc) in
          (same, files, one_fault_at found b x y (subst (λ (at : FeedFile). IsFaultAt found at x) files first.broken) second.broken)
      | inr (inl before) ↦ absurd (never_both_at found a x (place_holds (IsRightAt found) feed_files other place a second.before before first.stands) first.broken)
      | inr (inr after) ↦ absurd (never_both_at found b y (place_holds (IsRightAt found) feed_files place other b first.before after second.stands) second.broken)
    ]
