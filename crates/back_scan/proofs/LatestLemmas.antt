-- What is kept answers for the list: the best start is the latest departure of a journey.
use Rattle.std.proofs.Common.{◌≡◌, ℕ, ◌+◌, ◌-◌, ◌≤◌, List, [], ◌∷◌, Option, Some, None, sym, ap, subst, arith}
use Rattle.std.specs.Prelude.{option_map}
use Rattle.std.specs.List.{slice_get}
use Rattle.lc_model.specs.Change.{change_between}
use Rattle.lc_model.specs.Journey.{AreRides, GoesOn, IsJourney, alight_of, arrival_of_rides, board_of, departure_of, leaves_at}
use Rattle.lc_model.specs.Leg.{IsLegOf}
use Rattle.lc_model.specs.Question.{latest_of}
use Rattle.lc_model.specs.Stop.{HasStop}
use Rattle.lc_model.specs.Walk.{IsWalkAfter, IsWalkBefore, seconds_of}
use Rattle.lc_model.specs.declared.connection.Connection.{Connection}
use Rattle.lc_model.specs.declared.doc.StopsDoc.{StopsDoc}
use Rattle.lc_model.specs.declared.journey.Journey.{Journey}
use Rattle.lc_model.specs.declared.key.RunKey.{RunKey}
use Rattle.lc_model.specs.declared.query.Query.{Query}
use Rattle.lc_model.specs.declared.ride.Ride.{Ride}
use Rattle.lc_model.specs.declared.walk.Walk.{Walk}
use Rattle.lc_model.proofs.WalksLemmas.{one_walk_after, one_walk_before}
use Rattle.csa_scan.specs.Near.{IsWalkAt}
use Rattle.csa_scan.specs.Reach.{id_at}
use Rattle.csa_scan.specs.Stands.{IsAsked}
use Rattle.csa_scan.specs.Walks.{AreWalks}
use Rattle.csa_scan.specs.declared.side.Side.TheVariants.{Before, After}
use Rattle.csa_scan.specs.declared.walks.Walks.{Walks}
use Rattle.csa_scan.proofs.ChangesLemmas.{HasStop-from_place, place_to_change}
use Rattle.csa_scan.proofs.ListPlacesLemmas.{some_and}
use Rattle.csa_scan.proofs.NearWalksLemmas.{made_after, made_before, place_of_start, stop_of_place}
use Rattle.back_scan.specs.Kept.{Kept}
use Rattle.back_scan.specs.Latest.{IsLatest, IsLatestDeparture}
use Rattle.back_scan.specs.Linked.{IsDepartureIn}
use Rattle.back_scan.specs.Onward.{IsInTime, IsLeftFrom}
use Rattle.back_scan.specs.RidesFrom.{GoesOnFrom}
use Rattle.back_scan.specs.Stands.{LeavesFor, Stands}
use Rattle.back_scan.specs.declared.trace.Departure.{Departure}
use Rattle.back_scan.specs.declared.trace.Start.{Start}
use Rattle.back_scan.proofs.RidesLemmas.{IsRest, goes_on_not_empty, leads_on_to, rest_of}

-- a stop with a change to it is one of the document
has_stop : (doc : StopsDoc) (from to : List ℕ) (seconds : ℕ) → change_between doc.changes from to ≡ Some seconds → HasStop doc.stops to
has_stop doc from to seconds e =
    let p = place_to_change doc from to seconds e in
    let P : List ℕ → Type 0 = λ id. HasStop doc.stops id in
    subst P p.2 (HasStop-from_place doc.stops p.0 p.1)

-- after a ride one goes on by the departure to which the next one is no later
changed : (doc : StopsDoc) (departures : List (Option Departure)) (ride next : Ride) → (l : IsLeftFrom doc.stops departures next.board next.dep) →
    (seconds : ℕ) → change_between doc.changes ride.alight next.board ≡ Some seconds → ride.arr + seconds ≤ next.dep → IsInTime doc departures ride.alight ride.arr l.place
changed doc departures ride next l seconds e by =
    let P : List ℕ → Type 0 = λ id. change_between doc.changes ride.alight id ≡ Some seconds in
    let t = l.no_earlier in
    record { departure = l.departure; is_departure = l.is_departure; seconds = seconds; is_change = subst P (sym l.from) e; in_time = omega arith }

-- where rides that go on to an end of the question in time begin, a departure is no earlier
left_from : (query : Query) (doc : StopsDoc) (runs : List RunKey) (kept : Kept) (list : List Connection) → Stands query doc runs kept list →
    (ride : Ride) (rest : List Ride) → IsLegOf list ride → GoesOn (IsLegOf list) doc ride rest →
    (walk : Option Walk) → IsWalkAfter query doc (alight_of (ride ∷ rest)) walk → arrival_of_rides (ride ∷ rest) + seconds_of walk ≤ latest_of query →
    HasStop doc.stops ride.board → IsLeftFrom doc.stops kept.departures ride.board ride.dep
left_from query doc runs kept list s ride [] leg goes walk is by known = s.complete ride leg None (walk, is, by) known
left_from query doc runs kept list s ride (next ∷ rest) leg goes walk is by known =
    let c = some_and (change_between doc.changes ride.alight next.board) (λ seconds. ride.arr + seconds ≤ next.dep) goes.1 in
    let l = left_from query doc runs kept list s next rest goes.0 goes.2 walk is by (has_stop doc ride.alight next.board c.0 c.1) in
    s.complete ride leg (Some l.place) (changed doc kept.departures ride next l c.0 c.1 c.2) known

-- the walk before is over when the first ride departs: it began no earlier than the question leaves, which is not at 0
walk_over : (query : Query) (dep seconds : ℕ) → query.leave ≤ dep - seconds → query.leave + seconds ≤ dep
walk_over query dep seconds h = let not_before = query.not_before in omega arith

rides_no_later : (query : Query) (doc : StopsDoc) → IsAsked query doc → (runs : List RunKey) (kept : Kept) (list : List Connection) → Stands query doc runs kept list →
    (rides : List Ride) → AreRides (IsLegOf list) doc rides → (before : Option Walk) → IsWalkBefore query doc (board_of rides) before → query.leave ≤ departure_of rides - seconds_of before →
    (walk : Option Walk) → IsWalkAfter query doc (alight_of rides) walk → arrival_of_rides rides + seconds_of walk ≤ latest_of query →
    (s : Start) × (kept.best ≡ Some s) × (departure_of rides - seconds_of before ≤ s.leaves)
rides_no_later query doc asked runs kept list s [] are before begins early walk is by = absurd are
rides_no_later query doc asked runs kept list s (first ∷ rest) are before begins early walk is by =
    let known = stop_of_place doc first.board (place_of_start query doc asked first.board before begins) in
    let l = left_from query doc runs kept list s first rest are.0 are.1 walk is by known in
    let over = walk_over query first.dep (seconds_of before) early in
    let no_earlier = l.no_earlier in
    let P : List ℕ → Type 0 = λ id. IsWalkBefore query doc id before in
    let t = s.follows.best.complete l.place l.departure l.is_departure (l.departure.dep - seconds_of before) (record {
      walk = before;
      is_walk = subst P (sym l.from) begins;
      is_then = omega arith;
      not_early = omega arith;
    }) in
    let u = t.2 in
    (t.0, t.1, omega arith)

-- a journey leaves no later than the best start
pub journey_no_later : (query : Query) (doc : StopsDoc) → IsAsked query doc → (runs : List RunKey) (kept : Kept) (list : List Connection) → Stands query doc runs kept list →
    (journey : Journey) → IsJourney (IsLegOf list) query doc journey → (s : Start) × (kept.best ≡ Some s) × (leaves_at journey ≤ s.leaves)
journey_no_later query doc asked runs kept list s journey h =
    rides_no_later query doc asked runs kept list s journey.rides h.are_rides journey.before h.begins h.not_early journey.after h.ends h.in_time

-- rides from a departure for which one leaves are those of a journey that leaves then
rest_journey : (query : Query) (doc : StopsDoc) (list : List Connection) (stop : ℕ) (d : Departure) (at : ℕ) (journey : Journey) → IsRest query doc list stop d journey.rides → LeavesFor query doc (id_at doc.stops stop) d.dep at →
    IsWalkBefore query doc (board_of journey.rides) journey.before → IsWalkAfter query doc (alight_of journey.rides) journey.after →
    IsJourney (IsLegOf list) query doc journey × (leaves_at journey ≡ at)
rest_journey query doc list stop d at journey h leaves before after =
    let P : List ℕ → Type 0 = λ id. IsWalkBefore query doc id leaves.walk in
    let same_before = ap seconds_of (one_walk_before query doc (board_of journey.rides) leaves.walk journey.before (subst P (sym h.board) leaves.is_walk) before) in
    let same_after = ap seconds_of (one_walk_after query doc (alight_of journey.rides) h.walk journey.after h.is_walk after) in
    let dep = h.dep in let then = leaves.is_then in let by = h.in_time in let early = leaves.not_early in
    let is_then : leaves_at journey ≡ at = omega arith in (
      record { are_rides = h.are_rides; begins = before; not_early = omega arith; ends = after; in_time = omega arith },
      is_then,
    )

-- the answer of the kept: the latest departure
pub latest_departure : (query : Query) (doc : StopsDoc) → IsAsked query doc → (runs : List RunKey) (kept : Kept) (list : List Connection) → Stands query doc runs kept list →
    (n : ℕ) → ((stop : ℕ) (d : Departure) → slice_get kept.departures stop ≡ Some (Some d) → IsDepartureIn n kept.departures d) →
    (best : Option Start) → kept.best ≡ best → IsLatestDeparture (IsLegOf list) query doc (option_map (λ (s : Start). s.leaves) best)
latest_departure query doc asked runs kept list s n within None e =
    λ journey h. let r = journey_no_later query doc asked runs kept list s journey h in let p = r.1 in cc
latest_departure query doc asked runs kept list s n within (Some t) e =
    let b = s.follows.best.sound t e in
    let on = leads_on_to query doc runs kept.departures list s.follows.departure_sound n within t.stop b.0 b.1 in
    let rest = rest_of query doc runs kept.departures list s.follows.departure_sound on.0 t.stop b.0 b.1 on.1 in
    let P : List ℕ → Type 0 = λ id. IsWalkBefore query doc id b.2.walk in
    let before = subst P (sym rest.board) b.2.is_walk in
    let journey : Journey = record { before = b.2.walk; rides = on.0; after = rest.walk; not_empty = goes_on_not_empty doc.stops runs kept.departures t.stop on.0 on.1 } in
    let is = rest_journey query doc list t.stop b.0 t.leaves journey rest b.2 before rest.is_walk in (
      (journey, is.0, is.1),
      λ other h. let r = journey_no_later query doc asked runs kept list s other h in let p = r.1 in let same : r.0 ≡ t = cc in let u = r.2 in let v = ap (λ (x : Start). x.leaves) same in omega arith,
    )

-- the journey with the rides from the best start on, and the walks that were made for it, is a latest one
pub latest_journey : (query : Query) (doc : StopsDoc) → IsAsked query doc → (walks : Walks) → AreWalks query doc walks → (runs : List RunKey) (kept : Kept) (list : List Connection) → Stands query doc runs kept list →
    (t : Start) → kept.best ≡ Some t → (journey : Journey) → GoesOnFrom doc.stops runs kept.departures (Some t.stop) journey.rides →
    IsWalkAt Before doc.stops walks.starts.items (board_of journey.rides) journey.before → IsWalkAt After doc.stops walks.ends.items (alight_of journey.rides) journey.after →
    IsLatest (IsLegOf list) query doc journey
latest_journey query doc asked walks near runs kept list s t e journey leads before after =
    let b = s.follows.best.sound t e in
    let rest = rest_of query doc runs kept.departures list s.follows.departure_sound journey.rides t.stop b.0 b.1 leads in
    let P : List ℕ → Type 0 = λ id. IsWalkBefore query doc id b.2.walk in
    let is = rest_journey query doc list t.stop b.0 t.leaves journey rest b.2
    (made_before query doc asked walks.starts.items near.starts (board_of journey.rides) b.2.walk journey.before (subst P (sym rest.board) b.2.is_walk) before)
    (made_after query doc asked walks.ends.items near.ends (alight_of journey.rides) rest.walk journey.after rest.is_walk after) in
    let leaves = is.1 in
    record {
      is_journey = is.0;
      is_latest = λ other k.
          let r = journey_no_later query doc asked runs kept list s other k in
          let p = r.1 in let same : r.0 ≡ t = cc in let u = r.2 in let v = ap (λ (x : Start). x.leaves) same in omega arith;
    }
