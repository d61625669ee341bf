-- Journeys over one kind of ride are journeys over another.
use Rattle.std.proofs.Common.{◌≡◌, ℕ, ◌+◌, ◌≤◌, List, [], ◌∷◌, Option, Some, None, suc, ap, ◌∙◌, arith}
use Rattle.std.specs.List.{slice_get}
use Rattle.std.specs.Option.{IsSomeAnd}
use Rattle.std.proofs.lemmas.Option.{slice_get-get_or}
use Rattle.lc_model.specs.Call.{GoesForward}
use Rattle.lc_model.specs.Change.{change_between}
use Rattle.lc_model.specs.Journey.{AreRides, GoesOn, IsJourney, arrival_of_rides}
use Rattle.lc_model.specs.Leg.{IsLegOf, in_time}
use Rattle.lc_model.specs.Question.{latest_of}
use Rattle.lc_model.specs.Ride.{IsRideAt}
use Rattle.lc_model.specs.declared.call.Call.{Call}
use Rattle.lc_model.specs.declared.connection.Connection.{Connection}
use Rattle.lc_model.specs.declared.doc.StopsDoc.{StopsDoc}
use Rattle.lc_model.specs.Walk.{seconds_of}
use Rattle.lc_model.specs.declared.journey.Journey.{Journey}
use Rattle.lc_model.specs.declared.query.Query.{Query}
use Rattle.lc_model.specs.declared.ride.Ride.{Ride}
use Rattle.lc_model.specs.declared.run.Run.{Run}
use Rattle.convoy.proofs.PageLawsLemmas.PlacesLemmas.{all_at, pair_at}
use Rattle.convoy.proofs.PageLawsLemmas.RidesAreLegsLemmas.{Timetable, leg_is_ride, ride_is_leg}

-- a change takes time
pub waits : (seconds : Option ℕ) (arr dep : ℕ) → IsSomeAnd seconds (λ s. arr + s ≤ dep) → arr ≤ dep
waits None arr dep change = absurd change
waits (Some s) arr dep change = omega arith

-- rides that are all of another kind too are rides of that kind
pub goes_over : (A B : Ride → Type 0) (doc : StopsDoc) (ride : Ride) (rest : List Ride) → ((r : Ride) → A r → B r) → GoesOn A doc ride rest → GoesOn B doc ride rest
goes_over A B doc ride [] all goes = goes
goes_over A B doc ride (next ∷ rest) all goes = (all next goes.0, goes.1, goes_over A B doc next rest all goes.2)

pub rides_over : (A B : Ride → Type 0) (doc : StopsDoc) (rides : List Ride) → ((r : Ride) → A r → B r) → AreRides A doc rides → AreRides B doc rides
rides_over A B doc [] all are = are
rides_over A B doc (first ∷ rest) all are = (all first are.0, goes_over A B doc first rest all are.1)

-- a journey with rides of another kind is a journey over that kind: its walks and its moments stay
pub of_kind : (A B : Ride → Type 0) (query : Query) (doc : StopsDoc) (journey : Journey) → IsJourney A query doc journey → AreRides B doc journey.rides → IsJourney B query doc journey
of_kind A B query doc journey is are = record {
  are_rides = are;
  begins = is.begins;
  not_early = is.not_early;
  ends = is.ends;
  in_time = is.in_time;
}

-- A journey over one kind is one over another kind that has those rides which arrive by a moment. All do, where the last one does.
goes_in_time : (A B : Ride → Type 0) (doc : StopsDoc) (latest : ℕ) (ride : Ride) (rest : List Ride) → ((r : Ride) → A r → r.dep ≤ r.arr) → ((r : Ride) → A r → r.arr ≤ latest → B r) → GoesOn A doc ride rest → arrival_of_rides (ride ∷ rest) ≤ latest → GoesOn B doc ride rest × (ride.arr ≤ latest)
goes_in_time A B doc latest ride [] forward all goes arrives = (goes, arrives)
goes_in_time A B doc latest ride (next ∷ rest) forward all goes arrives =
    let onward = goes_in_time A B doc latest next rest forward all goes.2 arrives in
    let next_goes : next.dep ≤ next.arr = forward next goes.0 in
    let waited : ride.arr ≤ next.dep = waits (change_between doc.changes ride.alight next.board) ride.arr next.dep goes.1 in
    ((all next goes.0 onward.1, goes.1, onward.0), omega (arith, onward.1))

pub rides_in_time : (A B : Ride → Type 0) (doc : StopsDoc) (latest : ℕ) (rides : List Ride) → ((r : Ride) → A r → r.dep ≤ r.arr) → ((r : Ride) → A r → r.arr ≤ latest → B r) → AreRides A doc rides → arrival_of_rides rides ≤ latest → AreRides B doc rides
rides_in_time A B doc latest [] forward all are arrives = are
rides_in_time A B doc latest (first ∷ rest) forward all are arrives =
    let onward = goes_in_time A B doc latest first rest forward all are.1 arrives in
    (all first are.0 onward.1, onward.0)

-- the last ride arrives no later than the journey
pub last_in_time : (arrival walk latest : ℕ) → arrival + walk ≤ latest → arrival ≤ latest
last_in_time arrival walk latest in_time = omega arith

-- a ride departs before it arrives
ride_forward : (runs : List Run) (list : List Connection) (ride : Ride) → Timetable runs list → IsRideAt runs ride → ride.dep ≤ ride.arr
ride_forward runs list ride table (at, run, below, is, on) =
    let run_at : slice_get runs at ≡ Some run = slice_get-get_or runs at run below ∙ ap Some is in
    let forward : GoesForward run.calls = all_at (λ (r : Run). GoesForward r.calls) runs at run table.forward run_at in
    let goes : on.boards.dep ≤ on.alights.arr = pair_at (λ (a b : Call). a.dep ≤ b.arr) run.calls on.boards_at (suc on.last_at) on.boards on.alights forward.along (omega (arith, on.in_order)) on.is_boards on.is_alights in
    omega (arith, goes, ap (λ (r : Ride). r.dep) on.is_ride, ap (λ (r : Ride). r.arr) on.is_ride)

pub chain_is_journey : (runs : List Run) (list : List Connection) (query : Query) (doc : StopsDoc) (journey : Journey) → Timetable runs list → IsJourney (IsLegOf (in_time query list)) query doc journey → IsJourney (IsRideAt runs) query doc journey
chain_is_journey runs list query doc journey table is =
    of_kind (IsLegOf (in_time query list)) (IsRideAt runs) query doc journey is
    (rides_over (IsLegOf (in_time query list)) (IsRideAt runs) doc journey.rides (λ ride. leg_is_ride runs list query ride table) is.are_rides)

pub journey_is_chain : (runs : List Run) (list : List Connection) (query : Query) (doc : StopsDoc) (journey : Journey) → Timetable runs list → IsJourney (IsRideAt runs) query doc journey → IsJourney (IsLegOf (in_time query list)) query doc journey
journey_is_chain runs list query doc journey table is =
    of_kind (IsRideAt runs) (IsLegOf (in_time query list)) query doc journey is
    (rides_in_time (IsRideAt runs) (IsLegOf (in_time query list)) doc (latest_of query) journey.rides
    (λ ride. ride_forward runs list ride table) (λ ride. ride_is_leg runs list query ride table) is.are_rides
    (last_in_time (arrival_of_rides journey.rides) (seconds_of journey.after) (latest_of query) is.in_time))
