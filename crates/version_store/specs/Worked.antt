-- Worked values: a store with one run from A at 08:00 to B at 08:10 and one message of 07:00. By it the run arrives 60 seconds late in B.
-- They are its versions, and near values that these are not. Moments are seconds of 1970-01-01.
use Rattle.std.specs.Prelude.{◌≡◌, ◌<◌, ℕ, pos, List, [], ◌∷◌, codes, true, Some, None}
use Rattle.lc_model.specs.Connection.{connection_between}
use Rattle.lc_model.specs.declared.call.Call.{Call}
use Rattle.lc_model.specs.declared.connection.Connection.{Connection}
use Rattle.lc_model.specs.declared.key.RunKey.{RunKey}
use Rattle.lc_model.specs.declared.run.Run.{Run}
use Rattle.lc_time.specs.declared.zone.Zone.TheVariants.{Utc}
use Rattle.lc_model.specs.Versions.Added.{IsFurtherRun}
use Rattle.lc_model.specs.Versions.History.{Entry}
use Rattle.lc_model.specs.Versions.News.{StopSaid, TripSaid}
use Rattle.lc_model.specs.Versions.Worked.{at, call, entity, entry, late, stop_news, timed, two_stops}
use Rattle.lc_model.specs.declared.versions.event.Relation.TheVariants.{Scheduled}
use Rattle.lc_model.specs.declared.versions.event.TripKind.{TripKind}
use Rattle.lc_model.specs.declared.versions.event.TripKind.TheVariants as kinds
use Rattle.lc_model.specs.declared.versions.update.Update.{Update}
use Rattle.trip_updates.specs.declared.fault.Part.TheVariants.{Header}
use Rattle.trip_updates.specs.declared.fault.RtFault.TheVariants.{Cut, Missing, NoMoment}
use Rattle.version_store.specs.Admission.{IsRefused, IsTaken}
use Rattle.version_store.specs.Dates.{first_date}
use Rattle.version_store.specs.Rows.{AreRows}
use Rattle.version_store.specs.Store.{AreRunsAt, Stored}
use Rattle.version_store.specs.declared.admission.AdmitFault.TheVariants.{Broken, Full, NotNewer, TooLong}

-- a trip without a start has none out of range
pub no_start : (seconds : ℕ) → None ≡ Some seconds → seconds < 360_000
no_start seconds is = absurd (let e : None ≡ Some seconds = is in cc)

-- a trip of 1970-01-01 that is not repeated
abbrev pub key_of : List ℕ → RunKey
key_of trip = record { trip = trip; date = first_date; start = None; start_in_range = no_start }

-- A at 08:00 and B at a moment, so late
abbrev pub calls_to : ℕ → ℕ → List Call
calls_to moment seconds = call (codes "A") 1 (at 8 0) (at 8 0) (pos 0) (pos 0) ∷ call (codes "B") 2 moment moment (pos seconds) (pos seconds) ∷ []

-- the run as the timetable has it
abbrev pub on_time : Run
on_time = record { key = key_of (codes "T1"); calls = calls_to (at 8 10) 0 }

-- the run 60 seconds late in B
abbrev pub late_run : Run
late_run = record { key = key_of (codes "T1"); calls = calls_to (at 8 11) 60 }

-- the connection of the two calls
abbrev pub connection_to : ℕ → ℕ → Connection
connection_to moment seconds =
    connection_between (key_of (codes "T1")) (call (codes "A") 1 (at 8 0) (at 8 0) (pos 0) (pos 0)) (call (codes "B") 2 moment moment (pos seconds) (pos seconds))

-- news of the run of a trip, with its date
abbrev pub dated_news : List ℕ → TripKind → List StopSaid → TripSaid
dated_news trip kind stops = record { trip = trip; date = Some first_date; start = None; kind = kind; stops = stops }

-- a full message of 07:00: the run arrives 60 seconds late in B
abbrev pub one_message : Entry
one_message = entry (at 7 0) true (entity (codes "1") (Some (dated_news (codes "T1") kinds.Scheduled (stop_news (Some 2) None Scheduled (late (pos 60)) None ∷ []))) ∷ [])

-- the store
abbrev pub small_store : Stored
small_store = record { runs = on_time ∷ []; stops = []; zone = Utc; base = at 6 0; history = one_message ∷ [] }

-- At the base the run is on time, and at the version of 07:00 it is late. There it is not left out, not on time, not there twice, and
-- no other run is beside it.
pub record WorkedRuns : Type 0 where
  pub at_the_base : AreRunsAt small_store (at 6 0) (on_time ∷ [])
  pub late_at_the_base : AreRunsAt small_store (at 6 0) (late_run ∷ []) → ⊥
  pub at_the_message : AreRunsAt small_store (at 7 0) (late_run ∷ [])
  pub no_run : AreRunsAt small_store (at 7 0) [] → ⊥
  pub on_time_still : AreRunsAt small_store (at 7 0) (on_time ∷ []) → ⊥
  pub twice : AreRunsAt small_store (at 7 0) (late_run ∷ late_run ∷ []) → ⊥
  pub one_more : (other : Run) → AreRunsAt small_store (at 7 0) (late_run ∷ other ∷ []) → ⊥

-- The rows are the one connection. It is not left out, not on time, not there twice, and does not depart before 08:00, up to which there is none.
pub record WorkedRows : Type 0 where
  pub from_eight : AreRows small_store (at 7 0) (at 8 0) None (connection_to (at 8 11) 60 ∷ [])
  pub no_row : AreRows small_store (at 7 0) (at 8 0) None [] → ⊥
  pub on_time_still : AreRows small_store (at 7 0) (at 8 0) None (connection_to (at 8 10) 0 ∷ []) → ⊥
  pub twice : AreRows small_store (at 7 0) (at 8 0) None (connection_to (at 8 11) 60 ∷ connection_to (at 8 11) 60 ∷ []) → ⊥
  pub up_to_eight : AreRows small_store (at 7 0) 0 (Some (at 8 0)) []
  pub at_eight_too : AreRows small_store (at 7 0) 0 (Some (at 8 0)) (connection_to (at 8 11) 60 ∷ []) → ⊥

-- news of an added trip from A at 08:05 to D at 08:25
abbrev pub added_news : List ℕ → TripSaid
added_news trip =
    dated_news trip kinds.Added (stop_news None (Some (codes "A")) Scheduled None (timed (at 8 5)) ∷ stop_news None (Some (codes "D")) Scheduled (timed (at 8 25)) None ∷ [])

-- the run of these news, with these calls
abbrev pub run_with : List ℕ → List Call → Run
run_with trip calls = record { key = key_of trip; calls = calls }

-- the calls of an added trip: A at 08:05, and D at a moment
abbrev pub added_calls_to : ℕ → List Call
added_calls_to moment = call (codes "A") 1 (at 8 5) (at 8 5) (pos 0) (pos 0) ∷ call (codes "D") 2 moment moment (pos 0) (pos 0) ∷ []

-- The news of X1 make a further run. They make none that arrives a second later, none of a trip of the timetable, and none without its
-- second call. They make none of another trip, and none where later news cancel it.
pub record WorkedFurther : Type 0 where
  pub x1 : IsFurtherRun (on_time ∷ []) two_stops (added_news (codes "X1") ∷ []) (run_with (codes "X1") (added_calls_to (at 8 25)))
  pub a_second_later : IsFurtherRun (on_time ∷ []) two_stops (added_news (codes "X1") ∷ []) (run_with (codes "X1") (added_calls_to 30_301)) → ⊥
  pub by_the_timetable : (calls : List Call) → IsFurtherRun (on_time ∷ []) two_stops (added_news (codes "T1") ∷ []) (run_with (codes "T1") calls) → ⊥
  pub one_call :
      IsFurtherRun (on_time ∷ []) two_stops (added_news (codes "X1") ∷ []) (run_with (codes "X1") (call (codes "A") 1 (at 8 5) (at 8 5) (pos 0) (pos 0) ∷ [])) → ⊥
  pub other_trip : (calls : List Call) → IsFurtherRun (on_time ∷ []) two_stops (added_news (codes "X1") ∷ []) (run_with (codes "X2") calls) → ⊥
  pub canceled :
      (calls : List Call) → IsFurtherRun (on_time ∷ []) two_stops (added_news (codes "X1") ∷ dated_news (codes "X1") kinds.Canceled [] ∷ []) (run_with (codes "X1") calls) → ⊥

-- No bytes at all lack their header. They are refused for that and for no other cause, and not taken. The tag of a header alone is cut off, and
-- that is not the end of a message that lacks it.
pub record WorkedRefusals : Type 0 where
  pub no_header : IsRefused small_store [] (Broken (Missing Header))
  pub no_moment : IsRefused small_store [] (Broken NoMoment) → ⊥
  pub not_newer : (newest : ℕ) → IsRefused small_store [] (NotNewer newest) → ⊥
  pub full : (messages kept : ℕ) → IsRefused small_store [] (Full messages kept) → ⊥
  pub too_long : (count : ℕ) → IsRefused small_store [] (TooLong count) → ⊥
  pub taken : (update : Update) → IsTaken small_store [] update → ⊥
  pub cut_off : IsRefused small_store (10 ∷ []) (Broken (Cut 0))
  pub not_the_end : IsRefused small_store (10 ∷ []) (Broken (Missing Header)) → ⊥
