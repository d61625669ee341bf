-- Journeys of the legs of a list that is before or after another one.
use Rattle.std.proofs.Common.{ℕ, ◌-◌, ◌<◌, ◌≤◌, List, [], ◌∷◌, ◌++◌, Option, Some, None, arith}
use Rattle.std.specs.List.{All}
use Rattle.std.proofs.lemmas.List.Elements.{All-filter}
use Rattle.lc_model.specs.Change.{change_between}
use Rattle.lc_model.specs.Connection.{InDepartureOrder, NoneArrivesEarly}
use Rattle.lc_model.specs.Journey.{AreRides, GoesOn, IsJourney, IsLeastArrival, arrival_of_rides, arrives_at, departure_of}
use Rattle.lc_model.specs.Leg.{IsChain, IsLegOf, in_time}
use Rattle.lc_model.specs.Walk.{seconds_of}
use Rattle.lc_model.specs.declared.connection.Connection.{Connection}
use Rattle.lc_model.specs.declared.doc.StopsDoc.{StopsDoc}
use Rattle.lc_model.specs.declared.journey.Journey.{Journey}
use Rattle.lc_model.specs.declared.query.Query.{Query}
use Rattle.lc_model.specs.declared.ride.Ride.{Ride}
use Rattle.convoy.proofs.PageLawsLemmas.JourneysLemmas.{last_in_time, of_kind, rides_in_time, rides_over, waits}
use Rattle.convoy.proofs.PageLawsLemmas.LegLemmas.{in_time_forward, in_time_in_order, in_time_parts, leg_before_rest, leg_behind_front, leg_goes_forward, leg_of_front, leg_of_rest}

-- rides after one that does not depart early are of another kind where those are that do not depart early
goes_late : (A B : Ride → Type 0) (doc : StopsDoc) (moment : ℕ) (ride : Ride) (rest : List Ride) → ((r : Ride) → A r → r.dep ≤ r.arr) → ((r : Ride) → A r → moment ≤ r.dep → B r) → GoesOn A doc ride rest → moment ≤ ride.arr → GoesOn B doc ride rest
goes_late A B doc moment ride [] forward all goes late = goes
goes_late A B doc moment ride (next ∷ rest) forward all goes late =
    let waited : ride.arr ≤ next.dep = waits (change_between doc.changes ride.alight next.board) ride.arr next.dep goes.1 in
    let next_goes : next.dep ≤ next.arr = forward next goes.0 in
    (all next goes.0 (omega arith), goes.1, goes_late A B doc moment next rest forward all goes.2 (omega arith))

rides_late : (A B : Ride → Type 0) (doc : StopsDoc) (moment : ℕ) (rides : List Ride) → ((r : Ride) → A r → r.dep ≤ r.arr) → ((r : Ride) → A r → moment ≤ r.dep → B r) → AreRides A doc rides → moment ≤ departure_of rides → AreRides B doc rides
rides_late A B doc moment [] forward all are late = are
rides_late A B doc moment (first ∷ rest) forward all are late =
    let first_goes : first.dep ≤ first.arr = forward first are.0 in
    (all first are.0 late, goes_late A B doc moment first rest forward all are.1 (omega arith))

-- the first ride departs no earlier than the journey leaves
first_late : (departure walk leave : ℕ) → leave ≤ departure - walk → leave ≤ departure
first_late departure walk leave late = omega arith

-- the chains of the front of a list are chains of the list, and so are those of its rest
pub chain_of_front : (query : Query) (doc : StopsDoc) (front rest : List Connection) (journey : Journey) → IsChain query doc front journey → IsChain query doc (front ++ rest) journey
chain_of_front query doc front rest journey is =
    let A = IsLegOf (in_time query front) in
    let B = IsLegOf (in_time query (front ++ rest)) in
    of_kind A B query doc journey is (rides_over A B doc journey.rides (λ ride leg. rw in_time_parts (leg_of_front (in_time query front) (in_time query rest) ride leg)) is.are_rides)

pub chain_of_rest : (query : Query) (doc : StopsDoc) (front rest : List Connection) (journey : Journey) → IsChain query doc rest journey → IsChain query doc (front ++ rest) journey
chain_of_rest query doc front rest journey is =
    let A = IsLegOf (in_time query rest) in
    let B = IsLegOf (in_time query (front ++ rest)) in
    of_kind A B query doc journey is (rides_over A B doc journey.rides (λ ride leg. rw in_time_parts (leg_of_rest (in_time query front) (in_time query rest) ride leg)) is.are_rides)

-- a leg in time that departs no earlier than a moment is after a front that departs before it
pub leg_stands_behind : (query : Query) (moment : ℕ) (front rest : List Connection) (ride : Ride) → All (λ (c : Connection). c.dep < moment) front → moment ≤ ride.dep → IsLegOf (in_time query (front ++ rest)) ride → IsLegOf (in_time query rest) ride
leg_stands_behind query moment front rest ride early late leg =
    leg_behind_front moment (in_time query front) (in_time query rest) ride (All-filter _ (λ (c : Connection). c.dep < moment) front early) late (rw (← in_time_parts query front rest) leg)

-- a leg in time that arrives by a moment is before a rest that arrives after it
pub leg_stands_before : (query : Query) (moment : ℕ) (front rest : List Connection) (ride : Ride) → All (λ (c : Connection). moment < c.arr) rest → ride.arr ≤ moment → IsLegOf (in_time query (front ++ rest)) ride → IsLegOf (in_time query front) ride
leg_stands_before query moment front rest ride late early leg =
    leg_before_rest moment (in_time query front) (in_time query rest) ride (All-filter _ (λ (c : Connection). moment < c.arr) rest late) early (rw (← in_time_parts query front rest) leg)

-- the chains of a list are those of its rest, where its front departs before the question leaves
pub chain_behind : (query : Query) (doc : StopsDoc) (front rest : List Connection) (journey : Journey) → InDepartureOrder (front ++ rest) → NoneArrivesEarly (front ++ rest) →
    All (λ (c : Connection). c.dep < query.leave) front → IsChain query doc (front ++ rest) journey → IsChain query doc rest journey
chain_behind query doc front rest journey in_order forward early is =
    let whole = in_time query (front ++ rest) in
    let A = IsLegOf whole in
    let B = IsLegOf (in_time query rest) in
    of_kind A B query doc journey is
    (rides_late A B doc query.leave journey.rides
    (λ ride leg. leg_goes_forward whole ride (in_time_in_order query (front ++ rest) in_order) (in_time_forward query (front ++ rest) forward) leg)
    (λ ride leg late. leg_stands_behind query query.leave front rest ride early late leg)
    is.are_rides (first_late (departure_of journey.rides) (seconds_of journey.before) query.leave is.not_early))

-- the chains of a list that arrive by a moment are those of its front, where its rest arrives after that
pub chain_before : (query : Query) (doc : StopsDoc) (moment : ℕ) (front rest : List Connection) (journey : Journey) → InDepartureOrder (front ++ rest) → NoneArrivesEarly (front ++ rest) →
    All (λ (c : Connection). moment < c.arr) rest → arrives_at journey ≤ moment → IsChain query doc (front ++ rest) journey → IsChain query doc front journey
chain_before query doc moment front rest journey in_order forward late by_then is =
    let whole = in_time query (front ++ rest) in
    let A = IsLegOf whole in
    let B = IsLegOf (in_time query front) in
    of_kind A B query doc journey is
    (rides_in_time A B doc moment journey.rides
    (λ ride leg. leg_goes_forward whole ride (in_time_in_order query (front ++ rest) in_order) (in_time_forward query (front ++ rest) forward) leg)
    (λ ride leg early. leg_stands_before query moment front rest ride late early leg)
    is.are_rides (last_in_time (arrival_of_rides journey.rides) (seconds_of journey.after) moment by_then))

-- where two kinds of ride have the same journeys, a least arrival of the one is one of the other
pub least_over : (A B : Ride → Type 0) (query : Query) (doc : StopsDoc) (best : Option ℕ) → ((journey : Journey) → IsJourney A query doc journey → IsJourney B query doc journey) →
    ((journey : Journey) → IsJourney B query doc journey → IsJourney A query doc journey) → IsLeastArrival A query doc best → IsLeastArrival B query doc best
least_over A B query doc None forth back least = λ journey is. least journey (back journey is)
least_over A B query doc (Some arrival) forth back ((journey, is, arrives), least) = ((journey, forth journey is, arrives), (λ other is_other. least other (back other is_other)))
