-- How many connections runs have, and the runs of a feed in the order of their keys.
use Rattle.std.proofs.Common.{◌≡◌, ◌≢◌, ◌∙◌, ℕ, ◌+◌, ◌-◌, ◌*◌, ◌<◌, ◌≤◌, List, [], ◌∷◌, ◌++◌, Option, Some, None, ap, ap₂, arith, length, length-append, map, refl, subst, suc, sym}
use Rattle.std.specs.List.{Any}
use Rattle.std.specs.List.Sorted.{IsPermutation, IsSorted}
use Rattle.std.specs.Ordering.{on}
use Rattle.std.specs.declared.cmp.Ordering.{Ordering}
use Rattle.std.proofs.lemmas.Cmp.{on_total}
use Rattle.std.proofs.lemmas.Grind.{flat_map-append}
use Rattle.std.proofs.lemmas.List.Concat.{length-flat_map}
use Rattle.std.proofs.lemmas.List.Sorted.{All-permutation, Contains-permutation, IsPermutation-sym, sum_by-IsPermutation}
use Rattle.lc_model.specs.Call.{GoesForward}
use Rattle.lc_model.specs.Connection.{connections_from, connections_of, connections_of_calls}
use Rattle.lc_model.specs.RunKey.{key_cmp}
use Rattle.lc_model.specs.Totals.{key_cmp_total}
use Rattle.lc_model.specs.declared.call.Call.{Call}
use Rattle.lc_model.specs.declared.connection.Connection.{Connection}
use Rattle.lc_model.specs.declared.key.RunKey.{RunKey}
use Rattle.lc_model.specs.declared.run.Run.{Run}
use Rattle.lc_model.proofs.OrdersLemmas.{IsStrict-from_sorted, strict_lists_are_one}
use Rattle.lc_time.specs.declared.zone.Zone.{Zone}
use Rattle.gtfs_tables.specs.declared.fields.trip_rows.TripRow.{TripRow}
use Rattle.gtfs_tables.specs.Trips.Timely.{AreTimely, rows_of}
use Rattle.gtfs_tables.specs.declared.trips.stop_times.StopTime.{StopTime}
use Rattle.gtfs_tables.specs.declared.calendars.frequency.Frequency.{Frequency}
use Rattle.service_days.specs.Days.{InDayOrder}
use Rattle.service_days.specs.declared.service_day.ServiceDay.{ServiceDay}
use Rattle.trip_calls.specs.Counting.{HaveConnections}
use Rattle.trip_calls.specs.LoadFault.{HaveTooMany}
use Rattle.trip_calls.specs.Laws.{OneListOfRuns}
use Rattle.trip_calls.specs.Plannable.{ArePlannable}
use Rattle.lc_model.specs.Run.{RunsForward}
use Rattle.trip_calls.specs.Runs.{AreRunsOf, IsRunOf, calls_of}
use Rattle.trip_calls.specs.Starts.{HaveStarts, IsStartOf, StartsTrip}
use Rattle.trip_calls.specs.TripRuns.{AreAllRuns, RiseInSequence, dates_of, run_from, runs_of_trip, runs_on}
use Rattle.trip_calls.specs.declared.load_fault.TheConstants.{MOST_CONNECTIONS}
use Rattle.trip_calls.specs.declared.start.Start.{Start}
use Rattle.trip_calls.proofs.CallLemmas.{calls_forward, length-calls_of}
use Rattle.lc_model.proofs.ListLemmas.{All-from_contains}
use Rattle.trip_calls.proofs.RunLemmas.{of_trip}
use Rattle.trip_calls.proofs.SortLemmas.{in_order, in_order_moved, in_order_strict}

-- calls have one connection less than there are
length-connections_from : (key : RunKey) (from : Call) (rest : List Call) → length (connections_from key from rest) ≡ length rest
length-connections_from key from [] = refl
length-connections_from key from (to ∷ rest) = let e = length-connections_from key to rest in omega (arith, e)

length-connections_of_calls : (key : RunKey) (calls : List Call) → length (connections_of_calls key calls) ≡ length calls - 1
length-connections_of_calls key [] = omega arith
length-connections_of_calls key (first ∷ rest) = let e = length-connections_from key first rest in omega (arith, e)

connections_of-append : (a b : List Run) → length (connections_of (a ++ b)) ≡ length (connections_of a) + length (connections_of b)
connections_of-append a b =
    let of : Run → List Connection = λ (r : Run). connections_of_calls r.key r.calls in
    ap length (flat_map-append of a b) ∙ length-append (connections_of a) (connections_of b)

module _ (zone : Zone) (rows : List StopTime) (trip : List ℕ) where
  of_run : (day : ServiceDay) (anchor : ℕ) (s : Start) → length (connections_of_calls (run_from rows trip day.date anchor s).key (calls_of anchor s.seconds rows)) ≡ length rows - 1
  of_run day anchor s =
      length-connections_of_calls (run_from rows trip day.date anchor s).key (calls_of anchor s.seconds rows) ∙ ap (λ n. n - 1) (length-calls_of anchor s.seconds rows)

  of_starts : (day : ServiceDay) (anchor : ℕ) (starts : List Start) → length (connections_of (map (run_from rows trip day.date anchor) starts)) ≡ length starts * (length rows - 1)
  of_starts day anchor [] = omega arith
  of_starts day anchor (s ∷ starts) =
      let rest = of_starts day anchor starts in
      let one = of_run day anchor s in
      let sum = length-append (connections_of_calls (run_from rows trip day.date anchor s).key (calls_of anchor s.seconds rows)) (connections_of (map (run_from rows trip day.date anchor) starts)) in
      omega (arith, rest, one, sum)

  pub of_dates : (starts : List Start) (dates : List ServiceDay) → length (connections_of (runs_of_trip zone rows trip starts dates)) ≡ length dates * length starts * (length rows - 1)
  of_dates starts [] = omega arith
  of_dates starts (day ∷ dates) =
      let rest = of_dates starts dates in
      let one = of_starts day _ starts in
      let sum = connections_of-append (runs_on zone rows trip starts day) (runs_of_trip zone rows trip starts dates) in
      let e : suc (length dates) * length starts * (length rows - 1) ≡ length starts * (length rows - 1) + length dates * length starts * (length rows - 1) = omega arith in
      sum ∙ ap₂ (λ a b. a + b) one rest ∙ sym e

pub connections_more : (a b : List Run) (n m count : ℕ) → length (connections_of a) ≡ n → length (connections_of b) ≡ m → count ≡ n + m → length (connections_of (a ++ b)) ≡ count
connections_more a b n m count e f g = connections_of-append a b ∙ ap₂ (λ x y. x + y) e f ∙ sym g

abbrev pub by_key : Run → Run → Ordering
by_key = on (λ (r : Run). r.key) key_cmp

pub connections_moved : (a b : List Run) → IsPermutation a b → length (connections_of b) ≡ length (connections_of a)
connections_moved a b moved =
    let of : Run → List Connection = λ (r : Run). connections_of_calls r.key r.calls in
    length-flat_map of b ∙ sum_by-IsPermutation (λ r. length (of r)) a b moved ∙ sym (length-flat_map of a)

module _ (trips : List TripRow) (times : List StopTime) (frequencies : List Frequency) (days : List ServiceDay) (zone : Zone) where
  -- all runs, in the order of their keys
  pub sorted_runs : (made sorted : List Run) → AreAllRuns trips times frequencies days zone made → IsPermutation made sorted → IsSorted by_key sorted → AreRunsOf trips times frequencies days zone sorted
  sorted_runs made sorted are moved up = record {
    all = λ r. (
      λ h. (are.all r).0 (Contains-permutation sorted made r (IsPermutation-sym made sorted moved) h),
      λ is. Contains-permutation made sorted r moved ((are.all r).1 is),
    );
    in_order = IsStrict-from_sorted by_key (on_total (λ (r : Run). r.key) key_cmp_total) made sorted moved up are.once;
  }

  -- there is a list of the runs in that order
  ordered_runs : (made : List Run) → AreAllRuns trips times frequencies days zone made → AreRunsOf trips times frequencies days zone (in_order by_key made)
  ordered_runs made are =
      let moved = in_order_moved by_key made in
      record {
        all = λ r. (
          λ h. (are.all r).0 (Contains-permutation (in_order by_key made) made r (IsPermutation-sym made (in_order by_key made) moved) h),
          λ is. Contains-permutation made (in_order by_key made) r moved ((are.all r).1 is),
        );
        in_order = in_order_strict by_key (on_total (λ (r : Run). r.key) key_cmp_total) made are.once;
      }

  pub too_many : (count : ℕ) → HaveConnections trips times frequencies days zone count → MOST_CONNECTIONS < count → HaveTooMany trips times frequencies days zone count
  too_many count have lt = record {
    runs = in_order by_key have.runs;
    are = ordered_runs have.runs have.are;
    counted = connections_moved have.runs (in_order by_key have.runs) (in_order_moved by_key have.runs) ∙ have.counted;
    too_many = lt;
  }

  pub one_list : (a b : List Run) → AreRunsOf trips times frequencies days zone a → AreRunsOf trips times frequencies days zone b → a ≡ b
  one_list a b p q =
      strict_lists_are_one by_key (on_total (λ (r : Run). r.key) key_cmp_total) a b p.in_order q.in_order
      (λ run h. (q.all run).1 ((p.all run).0 h)) (λ run h. (p.all run).1 ((q.all run).0 h))

  pub few_enough : (count : ℕ) (runs : List Run) → HaveConnections trips times frequencies days zone count → count ≤ MOST_CONNECTIONS → AreRunsOf trips times frequencies days zone runs
      → length (connections_of runs) ≤ MOST_CONNECTIONS
  few_enough count runs have le are =
      let same = one_list runs (in_order by_key have.runs) are (ordered_runs have.runs have.are) in
      let size : length (connections_of runs) ≡ count =
      ap (λ (l : List Run). length (connections_of l)) same ∙ connections_moved have.runs (in_order by_key have.runs) (in_order_moved by_key have.runs) ∙ have.counted in
      omega (arith, size, le)

  -- no run of timely rows goes back in time
  pub all_forward : (runs : List Run) → AreRunsOf trips times frequencies days zone runs → AreTimely times → ((trip : List ℕ) → RiseInSequence (rows_of times trip)) → RunsForward runs
  all_forward runs are timely rise =
      All-from_contains (λ (r : Run). GoesForward r.calls) runs (λ r h.
      let is = (are.all r).0 h in
      subst GoesForward (sym is.calls) (calls_forward is.anchor r.key.start (rows_of times is.trip.trip) (timely is.trip.trip) (rise is.trip.trip)))

-- rows in another order give the same starts
any_moved : {X : Type 0} (P : X → Type 0) (xs ys : List X) → IsPermutation xs ys → Any P xs → Any P ys
any_moved P xs ys moved (k, x, lt, at, p) = let c = Contains-permutation xs ys x moved (k, lt, at) in (c.0, x, c.1, c.2, p)

start_moved : (xs ys : List Frequency) (trip : List ℕ) (start : Option ℕ) → IsPermutation xs ys → IsStartOf xs trip start → IsStartOf ys trip start
start_moved xs ys trip None moved h = All-permutation (λ (f : Frequency). f.trip ≢ trip) xs ys moved h
start_moved xs ys trip (Some s) moved h = any_moved (StartsTrip trip s) xs ys moved h

run_moved : (xs ys : List Frequency) (trips : List TripRow) (times : List StopTime) (days : List ServiceDay) (zone : Zone) (r : Run) → IsPermutation xs ys → IsRunOf trips times xs days zone r → IsRunOf trips times ys days zone r
run_moved xs ys trips times days zone r moved is = record {
  trip = is.trip;
  stands = is.stands;
  trip_is = is.trip_is;
  on_date = is.on_date;
  starts = start_moved xs ys is.trip.trip r.key.start moved is.starts;
  anchor = is.anchor;
  anchor_is = is.anchor_is;
  calls = is.calls;
}

pub runs_by_rows : (xs ys : List Frequency) (trips : List TripRow) (times : List StopTime) (days : List ServiceDay) (zone : Zone) (runs : List Run) → IsPermutation xs ys
    → AreAllRuns trips times ys days zone runs → AreAllRuns trips times xs days zone runs
runs_by_rows xs ys trips times days zone runs moved are = record {
  all = λ r. (
    λ h. run_moved ys xs trips times days zone r (IsPermutation-sym xs ys moved) ((are.all r).0 h),
    λ is. (are.all r).1 (run_moved xs ys trips times days zone r moved is),
  );
  once = are.once;
}

pub counted_by_rows : (xs ys : List Frequency) (trips : List TripRow) (times : List StopTime) (days : List ServiceDay) (zone : Zone) (count : ℕ) → IsPermutation xs ys
    → HaveConnections trips times ys days zone count → HaveConnections trips times xs days zone count
counted_by_rows xs ys trips times days zone count moved have = record { runs = have.runs; are = runs_by_rows xs ys trips times days zone have.runs moved have.are; counted = have.counted }

pub one_list_of_runs : OneListOfRuns
one_list_of_runs trips times frequencies days zone a b p q = one_list trips times frequencies days zone a b p q

-- how many connections the runs of one trip have
pub of_one : (t : TripRow) (times : List StopTime) (spans : List Frequency) (days : List ServiceDay) (zone : Zone) (own : List StopTime) (starts : ℕ) (dates : List ServiceDay) (count : ℕ)
    → own ≡ rows_of times t.trip → HaveStarts spans t.trip starts → dates ≡ dates_of days t.service → ArePlannable days → InDayOrder dates
    → count ≡ length dates * starts * (length own - 1) → HaveConnections (t ∷ []) times spans days zone count
of_one t times spans days zone own starts dates count e have g planned up counted = record {
  runs = runs_of_trip zone (rows_of times t.trip) t.trip have.starts (dates_of days t.service);
  are = of_trip t times spans days zone have.starts have.are planned (subst InDayOrder g up);
  counted = of_dates zone (rows_of times t.trip) t.trip have.starts (dates_of days t.service)
      ∙ sym (counted ∙ ap (λ (l : List ServiceDay). length l * starts * (length own - 1)) g ∙ ap (λ n. length (dates_of days t.service) * n * (length own - 1)) have.counted
      ∙ ap (λ (l : List StopTime). length (dates_of days t.service) * length have.starts * (length l - 1)) e);
}

-- what is counted and listed of slices is so of what they are slices of
pub counted_of : (trips lent : List TripRow) (times read : List StopTime) (frequencies spans rows : List Frequency) (days : List ServiceDay) (zone : Zone) (count : ℕ) → lent ≡ trips → read ≡ times → rows ≡ spans
    → IsPermutation frequencies spans → HaveConnections lent read rows days zone count → HaveConnections trips times frequencies days zone count
counted_of trips lent times read frequencies spans rows days zone count e f g moved have =
    counted_by_rows frequencies spans trips times days zone count moved
    (subst (λ (l : List TripRow). HaveConnections l times spans days zone count) e
    (subst (λ (l : List StopTime). HaveConnections lent l spans days zone count) f (subst (λ (l : List Frequency). HaveConnections lent read l days zone count) g have)))

pub listed_of : (trips lent : List TripRow) (times read : List StopTime) (frequencies spans rows : List Frequency) (days : List ServiceDay) (zone : Zone) (runs : List Run) → lent ≡ trips → read ≡ times → rows ≡ spans
    → IsPermutation frequencies spans → AreAllRuns lent read rows days zone runs → AreAllRuns trips times frequencies days zone runs
listed_of trips lent times read frequencies spans rows days zone runs e f g moved are =
    runs_by_rows frequencies spans trips times days zone runs moved
    (subst (λ (l : List TripRow). AreAllRuns l times spans days zone runs) e
    (subst (λ (l : List StopTime). AreAllRuns lent l spans days zone runs) f (subst (λ (l : List Frequency). AreAllRuns lent read l days zone runs) g are)))
