-- The walk over the seven files: what is known after each, and where it ends.
use Rattle.std.proofs.Common.{◌≡◌, ◌∙◌, ◌⊎◌, ℕ, inl, inr, Bool, true, List, [], Option, Some, None, Result, Ok, IsNone, IsSome, arith, ap, length, refl, subst, sym}
use Rattle.std.specs.Prelude.{is_some, unwrap_or, MatchOption}
use Rattle.lc_model.specs.declared.stop.Stop.{Stop}
use Rattle.lc_io.specs.Folder.{FolderSeen}
use Rattle.gtfs_tables.specs.declared.fields.fault.FileFault.{FileFault}
use Rattle.gtfs_tables.specs.declared.fields.trip_rows.TripRow.{TripRow}
use Rattle.gtfs_tables.specs.Trips.Stops.{HaveKnownParents}
use Rattle.gtfs_tables.specs.declared.trips.stop_times.StopTime.{StopTime}
use Rattle.gtfs_tables.specs.declared.trips.timed_trips.TimedTrips.{TimedTrips}
use Rattle.gtfs_tables.specs.Calendars.Calendar.{AreWeekly}
use Rattle.gtfs_tables.specs.Calendars.CalendarDates.{IsCalendarDatesFault}
use Rattle.gtfs_tables.specs.declared.calendars.calendar.Weekly.{Weekly}
use Rattle.gtfs_tables.specs.declared.calendars.calendar_dates.DateRow.{DateRow}
use Rattle.gtfs_tables.specs.declared.calendars.frequency.Frequency.{Frequency}
use Rattle.gtfs_tables.specs.Feed.{HasRows, IsAbsence, StopTimesAre, WeeklyAre}
use Rattle.gtfs_tables.specs.Steps.{HasDates, HasFrequencies, HasStops, HasTimes, HasTransfers, HasTrips, HasWeekly, IsStep, IsWalk, IsWrongDates, IsWrongFrequencies, IsWrongStops, IsWrongTimes, IsWrongTransfers, IsWrongTrips, IsWrongWeekly, StepEnds}
use Rattle.gtfs_tables.specs.declared.end.End.{End}
use Rattle.gtfs_tables.specs.declared.feed_file.FeedFile.TheVariants as file
use Rattle.gtfs_tables.specs.declared.tables.Tables.{Tables}
use Rattle.gtfs_tables.specs.Parts.{Dates, SoFar, Spans, Stops, Times, Trips, Ways, Weeks}
use Rattle.gtfs_tables.proofs.WalkLemmas.{Stands, Turn, reads_walked}

stands_0 : Stands 0 file.Stops
stands_0 = record { low = omega arith; stands = refl; next = refl; absent_before = λ found x. refl; right_before = λ found x each. each; here = λ found x. refl; named = λ found x. refl }

stands_1 : Stands 1 file.Trips
stands_1 = record { low = omega arith; stands = refl; next = refl; absent_before = λ found x. refl; right_before = λ found x each. each; here = λ found x. refl; named = λ found x. refl }

stands_2 : Stands 2 file.StopTimes
stands_2 = record { low = omega arith; stands = refl; next = refl; absent_before = λ found x. refl; right_before = λ found x each. each; here = λ found x. refl; named = λ found x. refl }

stands_3 : Stands 3 file.Calendar
stands_3 = record { low = omega arith; stands = refl; next = refl; absent_before = λ found x. refl; right_before = λ found x each. each; here = λ found x. refl; named = λ found x. refl }

stands_4 : Stands 4 file.CalendarDates
stands_4 = record { low = omega arith; stands = refl; next = refl; absent_before = λ found x. refl; right_before = λ found x each. each; here = λ found x. refl; named = λ found x. refl }

stands_5 : Stands 5 file.Frequencies
stands_5 = record { low = omega arith; stands = refl; next = refl; absent_before = λ found x. refl; right_before = λ found x each. each; here = λ found x. refl; named = λ found x. refl }

stands_6 : Stands 6 file.Transfers
stands_6 = record { low = omega arith; stands = refl; next = refl; absent_before = λ found x. refl; right_before = λ found x each. each; here = λ found x. refl; named = λ found x. refl }

-- calendar.txt was found where its rows are there
calendar_there : (found : Option (List ℕ)) (weekly : Option (List Weekly)) → HasWeekly found weekly → is_some weekly ≡ is_some found
calendar_there None weekly has = has
calendar_there (Some bytes) None has = absurd has
calendar_there (Some bytes) (Some weekly) has = refl

-- the rows of calendar.txt, none where it is absent
weekly_rows : (found : Option (List ℕ)) (weekly : Option (List Weekly)) → HasWeekly found weekly → HasRows AreWeekly found (unwrap_or weekly [])
weekly_rows None None has = refl
weekly_rows None (Some weekly) has = absurd (cc)
weekly_rows (Some bytes) None has = absurd has
weekly_rows (Some bytes) (Some weekly) has = has

services : (calendar dates : Option (List ℕ)) (has_calendar : Bool) → has_calendar ≡ is_some calendar → (IsNone dates → has_calendar ≡ true)
    → IsSome calendar ⊎ IsSome dates
services calendar None has_calendar same there = inl (sym same ∙ there refl)
services calendar (Some bytes) has_calendar same there = inr refl

dates_wrong : (calendar dates : Option (List ℕ)) (has_calendar : Bool) (fault : FileFault) → has_calendar ≡ is_some calendar
    → IsWrongDates has_calendar dates fault → MatchOption dates (IsNone calendar × IsAbsence fault) (λ bytes. IsCalendarDatesFault bytes fault)
dates_wrong calendar None has_calendar fault same wrong = (sym same ∙ wrong.0, wrong.1)
dates_wrong calendar (Some bytes) has_calendar fault same wrong = wrong

-- the steps of the seven files
pub of_stops_file : Turn 0 file.Stops HasStops IsWrongStops (λ found. Unit {0}) Stops
of_stops_file = record {
  stands = stands_0;
  right = λ found x stops knows has. (stops, has.are);
  learns = λ found x stops knows has. has;
  tells = λ found x fault knows wrong. wrong;
}

pub of_trips_file : (stops : List Stop) → Turn 1 file.Trips HasTrips IsWrongTrips (Stops stops) (Trips stops)
of_trips_file stops = record {
  stands = stands_1;
  right = λ found x trips knows are. (trips, are);
  learns = λ found x trips knows are. (knows, are);
  tells = λ found x fault knows wrong. wrong;
}

pub of_times_file : (stops : List Stop) (trips : List TripRow)
    → Turn 2 file.StopTimes (HasTimes stops trips) (IsWrongTimes stops trips) (Trips stops trips) (Times stops trips)
of_times_file stops trips = record {
  stands = stands_2;
  right = λ found x timed knows has. (stops, trips, timed.times, timed.trips, knows.0.are, knows.1, has.are);
  learns = λ found x timed knows has. (knows, has);
  tells = λ found x fault knows wrong. (stops, trips, knows.0.are, knows.1, wrong);
}

pub of_calendar : (stops : List Stop) (trips : List TripRow) (timed : TimedTrips)
    → Turn 3 file.Calendar HasWeekly IsWrongWeekly (Times stops trips timed) (Weeks stops trips timed)
of_calendar stops trips timed = record {
  stands = stands_3;
  right = λ found x weekly knows has. (unwrap_or weekly [], weekly_rows x weekly has);
  learns = λ found x weekly knows has. (knows, has);
  tells = λ found x fault knows wrong. wrong;
}

pub of_dates_file : (stops : List Stop) (trips : List TripRow) (timed : TimedTrips) (weekly : Option (List Weekly)) (has_calendar : Bool)
    → has_calendar ≡ is_some weekly
    → Turn 4 file.CalendarDates (HasDates has_calendar) (IsWrongDates has_calendar) (Weeks stops trips timed weekly) (Dates stops trips timed weekly)
of_dates_file stops trips timed weekly has_calendar same = record {
  stands = stands_4;
  right = λ found x dates knows has. (dates, has.are, services (found file.Calendar) x has_calendar (same ∙ calendar_there (found file.Calendar) weekly knows.1) has.services);
  learns = λ found x dates knows has. (knows, subst (λ (b : Bool). HasDates b x dates) same has);
  tells = λ found x fault knows wrong. dates_wrong (found file.Calendar) x has_calendar fault (same ∙ calendar_there (found file.Calendar) weekly knows.1) wrong;
}

pub of_frequencies : (stops : List Stop) (trips : List TripRow) (timed : TimedTrips) (weekly : Option (List Weekly)) (dates : List DateRow)
    → Turn 5 file.Frequencies (HasFrequencies trips) (IsWrongFrequencies trips) (Dates stops trips timed weekly dates) (Spans stops trips timed weekly dates)
of_frequencies stops trips timed weekly dates = record {
  stands = stands_5;
  right = λ found x frequencies knows has. (trips, frequencies, knows.0.0.0.1, has);
  learns = λ found x frequencies knows has. (knows, has);
  tells = λ found x fault knows wrong. (trips, knows.0.0.0.1, wrong);
}

pub of_transfers : (stops : List Stop) (trips : List TripRow) (timed : TimedTrips) (weekly : Option (List Weekly)) (dates : List DateRow) (frequencies : List Frequency)
    → Turn 6 file.Transfers (HasTransfers stops) (IsWrongTransfers stops) (Spans stops trips timed weekly dates frequencies) (Ways stops trips timed weekly dates frequencies)
of_transfers stops trips timed weekly dates frequencies = record {
  stands = stands_6;
  right = λ found x transfers knows has. (stops, transfers, knows.0.0.0.0.0.are, has);
  learns = λ found x transfers knows has. (knows, has);
  tells = λ found x fault knows wrong. (stops, knows.0.0.0.0.0.are, wrong);
}

pub all_read : {old new : FolderSeen} {feed : List ℕ} {all_trips : List TripRow} {timed : TimedTrips} (weekly : Option (List Weekly)) (tables : Tables)
    → tables.trips ≡ timed.trips → tables.stop_times ≡ timed.times → tables.left_out ≡ timed.left_out → tables.services.weekly ≡ unwrap_or weekly []
    → SoFar old new feed 7 (Ways tables.stops all_trips timed weekly tables.services.dates tables.frequencies tables.transfers) → IsWalk old new feed (Ok tables)
all_read {old} {new} {feed} {all_trips} {timed} weekly tables trips times left rows far =
    let has = far.knows.0.0.0.0.1 in
    let calendar = far.knows.0.0.0.1 in
    let dates = far.knows.0.0.1 in
    let lengths : length tables.trips ≡ length timed.trips = ap (λ (l : List TripRow). length l) trips in
    record {
      kept = far.walked.kept;
      ends = (
        far.found,
        reads_walked old new feed far.found 7 (omega arith) far.walked,
        record {
          stops = far.knows.0.0.0.0.0.0.are;
          all_trips = all_trips;
          trips = far.knows.0.0.0.0.0.1;
          stop_times = subst (λ (t : List StopTime). StopTimesAre far.found tables.stops all_trips t tables.trips) (sym times)
              (subst (λ (t : List TripRow). StopTimesAre far.found tables.stops all_trips timed.times t) (sym trips) has.are);
          left_out = omega (arith, lengths, left, has.left_out);
          weekly = subst (λ (w : List Weekly). WeeklyAre far.found w) (sym rows) (weekly_rows (far.found file.Calendar) weekly calendar);
          dates = dates.are;
          services = services (far.found file.Calendar) (far.found file.CalendarDates) (is_some weekly) (calendar_there (far.found file.Calendar) weekly calendar) dates.services;
          frequencies = far.knows.0.1;
          transfers = far.knows.1;
        },
      );
    }

-- what a step that gave stops says of their parents
pub parents_read : {old new : FolderSeen} {feed : List ℕ} {step : Result (List Stop) End} {stops : List Stop} → step ≡ Ok stops
    → IsStep old new feed file.Stops HasStops IsWrongStops step → HaveKnownParents stops
parents_read {old} {new} {feed} {step} {stops} was is =
    let ends = subst (λ (r : Result (List Stop) End). StepEnds old new feed file.Stops HasStops IsWrongStops r) was is.ends in
    ends.2.parents
