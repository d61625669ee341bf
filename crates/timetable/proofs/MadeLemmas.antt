-- Days of a window, connections of runs one more at a time, and the stops that changes name.
use Rattle.std.proofs.Common.{◌≡◌, ◌∙◌, ℕ, ◌+◌, ◌-◌, ◌<◌, ◌≤◌, List, [], ◌∷◌, ◌++◌, Option, Some, None, ap, arith, drop, get_or, length, length-append, refl, sym, take, take-append-drop}
use Rattle.std.specs.Option.{option_and_then}
use Rattle.std.proofs.lemmas.Grind.{flat_map-append}
use Rattle.std.proofs.lemmas.List.{get_or_default, take_more}
use Rattle.std.proofs.lemmas.Slice.Eq.{bytes_eq-Decides}
use Rattle.jiff_core.proofs.SignedLemmas.{signed_arith}
use Rattle.lc_model.specs.Change.{is_same_id}
use Rattle.lc_model.specs.Connection.{connections_from, connections_of, connections_of_calls}
use Rattle.lc_model.specs.Stop.{HasStop}
use Rattle.lc_model.specs.StopsDoc.{NamesItsStops}
use Rattle.lc_model.specs.declared.call.Call.{Call}
use Rattle.lc_model.specs.declared.change.Change.{Change}
use Rattle.lc_model.specs.declared.connection.Connection.{Connection}
use Rattle.lc_model.specs.declared.date.ServiceDate.{ServiceDate}
use Rattle.lc_model.specs.declared.key.RunKey.{RunKey}
use Rattle.lc_model.specs.declared.run.Run.{Run}
use Rattle.lc_model.specs.declared.stop.Stop.{Stop}
use Rattle.gtfs_tables.specs.Trips.Stops.{HaveKnownParents}
use Rattle.gtfs_tables.specs.declared.calendars.calendar.Weekly.{Weekly}
use Rattle.gtfs_tables.specs.declared.calendars.calendar_dates.DateRow.{DateRow}
use Rattle.gtfs_tables.specs.declared.calendars.transfer.Transfer.{Transfer}
use Rattle.service_days.specs.Days.{AreDays, IsInWindow}
use Rattle.service_days.specs.declared.service_day.ServiceDay.{ServiceDay}
use Rattle.change_table.specs.ChangeRule.{change_from_to, change_of, stop_of}
use Rattle.change_table.specs.ChangeTable.{AreChangesOf}
use Rattle.change_table.proofs.ListLemmas.{IsKept-find}
use Rattle.trip_calls.specs.Plannable.{ArePlannable, IsPlannable}
use Rattle.timetable.specs.Scope.{IsWindow}

-- a date of the window may be planned
date_plannable : (first date : ServiceDate) (count : ℕ) → IsWindow first count → IsInWindow first count date → IsPlannable date
date_plannable first date count window within = record {
  not_before = omega (arith, signed_arith, window.not_before, within.not_before);
  not_after = omega (arith, signed_arith, window.not_after, within.not_after);
}

-- all days of the window may be planned
pub days_plannable : (weekly : List Weekly) (dates : List DateRow) (first : ServiceDate) (count : ℕ) (days : List ServiceDay) → AreDays weekly dates first count days → IsWindow first count → ArePlannable days
days_plannable weekly dates first count days are window place d inside =
    let day = get_or days place d in
    date_plannable first day.date count window ((are.all day).0 (place, inside, get_or_default days place day d inside)).0

-- calls have one connection less than there are
length-connections_from : (key : RunKey) (from : Call) (rest : List Call) → length (connections_from key from rest) ≡ length rest
length-connections_from key from [] = refl
length-connections_from key from (to ∷ rest) = let e = length-connections_from key to rest in omega (arith, e)

length-connections_of_calls : (key : RunKey) (calls : List Call) → length (connections_of_calls key calls) ≡ length calls - 1
length-connections_of_calls key [] = omega arith
length-connections_of_calls key (first ∷ rest) = let e = length-connections_from key first rest in omega (arith, e)

connections_of-append : (a b : List Run) → length (connections_of (a ++ b)) ≡ length (connections_of a) + length (connections_of b)
connections_of-append a b =
    let of : Run → List Connection = λ (r : Run). connections_of_calls r.key r.calls in
    ap length (flat_map-append of a b) ∙ length-append (connections_of a) (connections_of b)

connections_of_one : (run : Run) → length (connections_of (run ∷ [])) ≡ length run.calls - 1
connections_of_one run =
    length-append (connections_of_calls run.key run.calls) [] ∙ (let e = length-connections_of_calls run.key run.calls in omega (arith, e))

-- the connections of one run more
pub one_more : (runs : List Run) (place : ℕ) (run : Run) → place < length runs → run ≡ get_or runs place run → length (connections_of (take (place + 1) runs)) ≡ length (connections_of (take place runs)) + (length run.calls - 1)
one_more runs place run below is =
    ap (λ r. length (connections_of r)) (take_more runs place run below ∙ ap (λ r. take place runs ++ r ∷ []) (sym is))
    ∙ connections_of-append (take place runs) (run ∷ [])
    ∙ ap (λ n. length (connections_of (take place runs)) + n) (connections_of_one run)

-- the first of the runs have no more connections than all
pub no_more : (runs : List Run) (count : ℕ) → length (connections_of (take count runs)) ≤ length (connections_of runs)
no_more runs count =
    let parted = ap (λ r. length (connections_of r)) (sym (take-append-drop count runs)) ∙ connections_of-append (take count runs) (drop count runs) in
    omega (arith, parted)

-- a stop that is found by its id is there
found_there : (stops : List Stop) (id : List ℕ) (stop : Stop) → stop_of stops id ≡ Some stop → HasStop stops id
found_there stops id stop e =
    let found = IsKept-find (λ (s : Stop). is_same_id s.id id) stops stop e in
    (found.stands.0, stop, found.stands.1, found.stands.2, (bytes_eq-Decides stop.id id).0 found.passes)

-- a change is between two stops
ends_there : (stops : List Stop) (transfers : List Transfer) (default : ℕ) (from to : List ℕ) (seconds : ℕ) → change_of stops transfers default from to ≡ Some seconds → HasStop stops from × HasStop stops to
ends_there stops transfers default from to seconds e = first (stop_of stops from) refl e where
  second : (a : Stop) → stop_of stops from ≡ Some a → (o : Option Stop) → stop_of stops to ≡ o → option_and_then (change_from_to transfers default a) o ≡ Some seconds → HasStop stops from × HasStop stops to
  second a at None f g = absurd (cc)
  second a at (Some b) f g = (found_there stops from a at, found_there stops to b f)

  first : (o : Option Stop) → stop_of stops from ≡ o → option_and_then (λ (x : Stop). option_and_then (change_from_to transfers default x) (stop_of stops to)) o ≡ Some seconds → HasStop stops from × HasStop stops to
  first None f g = absurd (cc)
  first (Some a) f g = second a f (stop_of stops to) refl g

-- the changes between stops name these
pub changes_named : (stops : List Stop) (transfers : List Transfer) (default : ℕ) (changes : List Change) → HaveKnownParents stops → AreChangesOf stops transfers default changes → NamesItsStops stops changes
changes_named stops transfers default changes parents are =
    let ends : (place : ℕ) (d : Change) → place < length changes → HasStop stops (get_or changes place d).from × HasStop stops (get_or changes place d).to = λ place d inside.
    let c = get_or changes place d in
    ends_there stops transfers default c.from c.to c.seconds ((are.all c).0 (place, inside, get_or_default changes place c d inside)) in
    record {
      parents = parents;
      changes_from = λ place d inside. (ends place d inside).0;
      changes_to = λ place d inside. (ends place d inside).1;
    }
