-- The timetable of the small feed, five trips over six stops, all on 2024-05-01, as worked out by hand.
use Rattle.std.specs.Prelude.{◌≡◌, ℕ, ◌+◌, ◌*◌, pos, true, List, [], ◌∷◌, Option, None, Some, map, codes}
use Rattle.std.proofs.Common.{lit≤, subst}
use Rattle.timetable.specs.declared.timetable.Timetable.{Timetable}
use Rattle.lc_model.specs.declared.call.Call.{Call}
use Rattle.lc_model.specs.declared.change.Change.{Change}
use Rattle.lc_model.specs.declared.date.ServiceDate.{ServiceDate}
use Rattle.lc_model.specs.declared.key.RunKey.{RunKey}
use Rattle.lc_model.specs.declared.run.Run.{Run}
use Rattle.lc_model.specs.declared.stop.Stop.{Stop}

-- the seconds of a day at a time of the clock
abbrev pub clock : ℕ → ℕ → ℕ
clock hours minutes = 3_600 * hours + 60 * minutes

-- the moment at a time of the clock on 2024-05-01, whose midnight in UTC is 1,714,521,600 seconds after 1970
abbrev pub moment : ℕ → ℕ → ℕ
moment hours minutes = 1_714_521_600 + clock hours minutes

-- a stop with no parent, by the name of its id
abbrev pub stop_named : List ℕ → Stop
stop_named id = record { id = id; name = id; parent = None }

-- the ids of the stops
abbrev pub stop_ids : List (List ℕ)
stop_ids = codes "A" ∷ codes "B" ∷ codes "C" ∷ codes "D" ∷ codes "E" ∷ codes "F" ∷ []

-- the stops
abbrev pub tiny_stops : List Stop
tiny_stops = map stop_named stop_ids

-- 2024-05-01
abbrev pub first_of_may : ServiceDate
first_of_may = record {
  year = 2_024;
  month = 5;
  day = 1;
  civil = record {
    year_from = lit≤ tt;
    year_to = lit≤ tt;
    month_from = lit≤ tt;
    month_to = lit≤ tt;
    day_from = lit≤ tt;
    day_to = lit≤ tt;
  };
}

-- a call at a stop, where one may board and alight, and which is on time
abbrev pub call : List ℕ → ℕ → ℕ → ℕ → Call
call stop seq arr dep = record {
  stop = stop;
  seq = seq;
  arr = arr;
  dep = dep;
  board = true;
  alight = true;
  arr_delay = pos 0;
  dep_delay = pos 0;
}

-- there is nothing
pub IsNothing : Option ℕ → Type 0
IsNothing None = Unit {0}
IsNothing (Some x) = ⊥

-- none is not some start
pub no_start : (x : ℕ) → None ≡ Some x → ⊥
unfolding IsNothing
no_start x e = subst IsNothing e tt

-- the key of the run of a trip on that date
abbrev pub key_of : List ℕ → RunKey
key_of trip = record { trip = trip; date = first_of_may; start = None; start_in_range = λ seconds e. absurd (no_start seconds e) }

-- the run of a trip on that date
abbrev pub run_of : List ℕ → List Call → Run
run_of trip calls = record { key = key_of trip; calls = calls }

-- the runs
abbrev pub tiny_runs : List Run
tiny_runs =
    run_of (codes "T1")
    (call (codes "A") 1 (moment 8 0) (moment 8 0) ∷ call (codes "B") 2 (moment 8 10) (moment 8 11) ∷ call (codes "C") 3 (moment 8 30) (moment 8 30) ∷ [])
    ∷ run_of (codes "T2") (call (codes "B") 1 (moment 8 20) (moment 8 20) ∷ call (codes "D") 2 (moment 8 40) (moment 8 40) ∷ [])
    ∷ run_of (codes "T3") (call (codes "B") 1 (moment 8 12) (moment 8 12) ∷ call (codes "D") 2 (moment 8 31) (moment 8 31) ∷ [])
    ∷ run_of (codes "T4") (call (codes "E") 1 (moment 9 0) (moment 9 0) ∷ call (codes "F") 2 (moment 9 10) (moment 9 10) ∷ [])
    ∷ run_of (codes "T5") (call (codes "E") 1 (moment 10 0) (moment 10 0) ∷ call (codes "F") 2 (moment 10 10) (moment 10 10) ∷ [])
    ∷ []

-- the change at a stop, which takes two minutes
abbrev pub change_at : Stop → Change
change_at stop = record { from = stop.id; to = stop.id; seconds = 120; takes_time = lit≤ tt }

-- a change at each stop
abbrev pub tiny_changes : List Change
tiny_changes = map change_at tiny_stops

-- the timetable has these runs, stops and changes
pub record IsTiny (made : Timetable) : Type 0 where
  pub runs : made.runs ≡ tiny_runs
  pub stops : made.doc.stops ≡ tiny_stops
  pub changes : made.doc.changes ≡ tiny_changes
