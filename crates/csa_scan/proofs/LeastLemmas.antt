-- What is kept answers for the list: the best goal is the least arrival of a journey.
use Rattle.std.proofs.Common.{◌≡◌, ℕ, ◌+◌, ◌-◌, ◌<◌, ◌≤◌, suc, zero, List, [], ◌∷◌, Option, Some, None, refl, sym, ap, subst, arith}
use Rattle.std.specs.Prelude.{option_map}
use Rattle.std.specs.List.{slice_get}
use Rattle.lc_model.specs.Change.{change_between}
use Rattle.lc_model.specs.Journey.{AreRides, CanChange, GoesOn, IsBest, IsJourney, IsLeastArrival, alight_of, arrival_of_rides, arrives_at, board_of, departure_of}
use Rattle.lc_model.specs.Leg.{IsLegOf}
use Rattle.lc_model.specs.Question.{latest_of}
use Rattle.lc_model.specs.Stop.{HasStop}
use Rattle.lc_model.specs.Walk.{IsWalkAfter, IsWalkBefore, seconds_of}
use Rattle.lc_model.specs.declared.connection.Connection.{Connection}
use Rattle.lc_model.specs.declared.doc.StopsDoc.{StopsDoc}
use Rattle.lc_model.specs.declared.journey.Journey.{Journey}
use Rattle.lc_model.specs.declared.key.RunKey.{RunKey}
use Rattle.lc_model.specs.declared.query.Query.{Query}
use Rattle.lc_model.specs.declared.ride.Ride.{Ride}
use Rattle.lc_model.specs.declared.walk.Walk.{Walk}
use Rattle.csa_scan.specs.Kept.{Kept}
use Rattle.csa_scan.specs.Near.{IsWalkAt}
use Rattle.csa_scan.specs.Reach.{MayBoard, IsReachedBy}
use Rattle.csa_scan.specs.RidesTo.{AreRidesTo}
use Rattle.csa_scan.specs.Stands.{IsAsked, LeadsToEnd, Stands}
use Rattle.csa_scan.specs.Walks.{AreWalks}
use Rattle.csa_scan.specs.declared.side.Side.TheVariants.{Before, After}
use Rattle.csa_scan.specs.declared.trace.Arrival.{Arrival}
use Rattle.csa_scan.specs.declared.trace.Goal.{Goal}
use Rattle.csa_scan.specs.declared.walks.Walks.{Walks}
use Rattle.csa_scan.proofs.ChangesLemmas.{HasStop-from_place, place_from_change}
use Rattle.csa_scan.proofs.ListPlacesLemmas.{some_and}
use Rattle.csa_scan.proofs.NearWalksLemmas.{made_after, made_before, place_of_end, stop_of_place}
use Rattle.csa_scan.proofs.WayBackLemmas.{IsTail, tail_back, tail_begins, tail_ends, tail_not_empty, tail_to, tail_whole}

-- a stop with a change from it is one of the document
pub has_stop : (doc : StopsDoc) (from to : List ℕ) (seconds : ℕ) → change_between doc.changes from to ≡ Some seconds → HasStop doc.stops from
has_stop doc from to seconds e =
    let p = place_from_change doc from to seconds e in
    let P : List ℕ → Type 0 = λ id. HasStop doc.stops id in
    subst P p.2 (HasStop-from_place doc.stops p.0 p.1)

-- after a reached ride one may board what the change allows
changed : (doc : StopsDoc) (query : Query) (arrivals : List Arrival) (ride next : Ride) → (r : IsReachedBy doc.stops arrivals ride.alight ride.arr) → CanChange doc ride next →
    HasStop doc.stops ride.alight → MayBoard query doc arrivals (Some r.place) next.board next.dep
changed doc query arrivals ride next r can known =
    let c = some_and (change_between doc.changes ride.alight next.board) (λ seconds. ride.arr + seconds ≤ next.dep) can in
    let P : List ℕ → Type 0 = λ id. change_between doc.changes id next.board ≡ Some c.0 in
    let t = r.in_time in let u = c.2 in
    (r.arrival, r.is_arrival, record { seconds = c.0; is_change = subst P (sym r.at) c.1; in_time = omega arith })

-- rides that can be boarded and go on arrive, with the walk after them, no earlier than the best goal
no_earlier : (query : Query) (doc : StopsDoc) → IsAsked query doc → (runs : List RunKey) (kept : Kept) (list : List Connection) → Stands query doc runs kept list →
    (ride : Ride) (rest : List Ride) → IsLegOf list ride → (after : Option ℕ) → MayBoard query doc kept.arrivals after ride.board ride.dep → GoesOn (IsLegOf list) doc ride rest →
    (walk : Option Walk) → IsWalkAfter query doc (alight_of (ride ∷ rest)) walk → arrival_of_rides (ride ∷ rest) + seconds_of walk ≤ latest_of query →
    (g : Goal) × (kept.best ≡ Some g) × (g.arr ≤ arrival_of_rides (ride ∷ rest) + seconds_of walk)
no_earlier query doc asked runs kept list s ride [] leg after m goes walk is by =
    let r = s.complete ride leg after m (stop_of_place doc ride.alight (place_of_end query doc asked ride.alight walk is)) in
    let P : List ℕ → Type 0 = λ id. IsWalkAfter query doc id walk in
    let t = r.in_time in
    let g = s.follows.best.complete r.place r.arrival r.is_arrival (r.arrival.arr + seconds_of walk) (record {
      walk = walk;
      is_walk = subst P (sym r.at) is;
      is_then = refl;
      in_time = omega arith;
    }) in
    let u = g.2 in
    (g.0, g.1, omega arith)
no_earlier query doc asked runs kept list s ride (next ∷ rest) leg after m goes walk is by =
    let c = some_and (change_between doc.changes ride.alight next.board) (λ seconds. ride.arr + seconds ≤ next.dep) goes.1 in
    let known = has_stop doc ride.alight next.board c.0 c.1 in
    let r = s.complete ride leg after m known in
    no_earlier query doc asked runs kept list s next rest goes.0 (Some r.place) (changed doc query kept.arrivals ride next r goes.1 known) goes.2 walk is by

-- the walk before is over when the first ride departs: it began no earlier than the question leaves, which is not at 0
pub walk_over : (query : Query) (dep seconds : ℕ) → query.leave ≤ dep - seconds → query.leave + seconds ≤ dep
walk_over query dep seconds h = let not_before = query.not_before in omega arith

rides_no_earlier : (query : Query) (doc : StopsDoc) → IsAsked query doc → (runs : List RunKey) (kept : Kept) (list : List Connection) → Stands query doc runs kept list →
    (rides : List Ride) → AreRides (IsLegOf list) doc rides → (before : Option Walk) → IsWalkBefore query doc (board_of rides) before → query.leave ≤ departure_of rides - seconds_of before →
    (walk : Option Walk) → IsWalkAfter query doc (alight_of rides) walk → arrival_of_rides rides + seconds_of walk ≤ latest_of query →
    (g : Goal) × (kept.best ≡ Some g) × (g.arr ≤ arrival_of_rides rides + seconds_of walk)
rides_no_earlier query doc asked runs kept list s [] are before begins early walk is by = absurd are
rides_no_earlier query doc asked runs kept list s (first ∷ rest) are before begins early walk is by =
    no_earlier query doc asked runs kept list s first rest are.0 None (before, begins, walk_over query first.dep (seconds_of before) early) are.1 walk is by

-- a journey arrives no earlier than the best goal
pub journey_no_earlier : (query : Query) (doc : StopsDoc) → IsAsked query doc → (runs : List RunKey) (kept : Kept) (list : List Connection) → Stands query doc runs kept list →
    (journey : Journey) → IsJourney (IsLegOf list) query doc journey → (g : Goal) × (kept.best ≡ Some g) × (g.arr ≤ arrives_at journey)
journey_no_earlier query doc asked runs kept list s journey h =
    rides_no_earlier query doc asked runs kept list s journey.rides h.are_rides journey.before h.begins h.not_early journey.after h.ends h.in_time

-- a whole way back
abbrev IsWay : Query → StopsDoc → List Connection → List Arrival → Arrival → Type 0
IsWay query doc list arrivals last = (rides : List Ride) × IsTail query doc list arrivals last None rides

-- the way back goes on after an arrival, or is whole
further : (query : Query) (doc : StopsDoc) (list : List Connection) (arrivals : List Arrival) (last : Arrival) (after : Option ℕ) (tail : List Ride) →
    IsTail query doc list arrivals last after tail → (stop : List ℕ) (at : ℕ) → MayBoard query doc arrivals after stop at →
    ((k : ℕ) → after ≡ Some k → (a : Arrival) → slice_get arrivals k ≡ Some a → IsTail query doc list arrivals last (Some k) tail → IsWay query doc list arrivals last) →
    IsWay query doc list arrivals last
further query doc list arrivals last None tail h stop at m more = (tail, h)
further query doc list arrivals last (Some k) tail h stop at m more = more k refl m.0 m.1 h

-- from each arrival the way back leads to the begin
way_back : (query : Query) (doc : StopsDoc) (runs : List RunKey) (kept : Kept) (list : List Connection) → Stands query doc runs kept list →
    ((place : ℕ) (a : Arrival) → slice_get kept.arrivals place ≡ Some a → (k : ℕ) → a.boarding.after ≡ Some k → k < place) →
    (last : Arrival) (fuel place : ℕ) → place < fuel → (a : Arrival) → slice_get kept.arrivals place ≡ Some a →
    (tail : List Ride) → IsTail query doc list kept.arrivals last (Some place) tail → IsWay query doc list kept.arrivals last
way_back query doc runs kept list s falls last zero place l a e tail h = absurd (omega arith)
way_back query doc runs kept list s falls last (suc fuel) place l a e tail h =
    let end = s.follows.arrival_sound place a e in
    let back = tail_back query doc runs list kept.arrivals last place a e end end.ride end.is_shown tail h in
    further query doc list kept.arrivals last a.boarding.after (end.ride ∷ tail) back end.ride.board end.ride.dep end.may_board
    (λ k f b is. way_back query doc runs kept list s falls last fuel k (let t = falls place a e k f in omega arith) b is (end.ride ∷ tail))

-- a whole way back to an arrival that leads to an end is a journey
way_journey : (query : Query) (doc : StopsDoc) (list : List Connection) (arrivals : List Arrival) (last : Arrival) (at : ℕ) → IsWay query doc list arrivals last → LeadsToEnd query doc last at →
    (journey : Journey) × IsJourney (IsLegOf list) query doc journey × (arrives_at journey ≡ at)
way_journey query doc list arrivals last at way leads =
    let begins = tail_begins query doc list arrivals last way.0 way.1 in
    let ends = tail_ends query doc list arrivals last way.0 way.1 in
    let P : List ℕ → Type 0 = λ id. IsWalkAfter query doc id leads.walk in
    let journey : Journey = record { before = begins.0; rides = way.0; after = leads.walk; not_empty = tail_not_empty query doc list arrivals last way.0 way.1 } in
    let is = tail_whole query doc list arrivals last at journey way.1 leads begins.1 (subst P (sym ends.0) leads.is_walk) in
    (journey, is.0, is.1)

-- the answer of the kept: the least arrival
pub least_arrival : (query : Query) (doc : StopsDoc) → IsAsked query doc → (runs : List RunKey) (kept : Kept) (list : List Connection) → Stands query doc runs kept list →
    ((place : ℕ) (a : Arrival) → slice_get kept.arrivals place ≡ Some a → (k : ℕ) → a.boarding.after ≡ Some k → k < place) →
    (best : Option Goal) → kept.best ≡ best → IsLeastArrival (IsLegOf list) query doc (option_map (λ (g : Goal). g.arr) best)
least_arrival query doc asked runs kept list s falls None e =
    λ journey h. let r = journey_no_earlier query doc asked runs kept list s journey h in let p = r.1 in cc
least_arrival query doc asked runs kept list s falls (Some g) e =
    let b = s.follows.best.sound g e in
    let way = way_back query doc runs kept list s falls b.0 (suc g.place) g.place (omega arith) b.0 b.1 [] (g.place, refl, b.1) in (
      way_journey query doc list kept.arrivals b.0 g.arr way b.2,
      λ journey h. let r = journey_no_earlier query doc asked runs kept list s journey h in let p = r.1 in let same : r.0 ≡ g = cc in let t = r.2 in let u = ap (λ (x : Goal). x.arr) same in omega arith,
    )

-- the journey with the rides to the best goal, and the walks that were made for it, is a best one
pub best_journey : (query : Query) (doc : StopsDoc) → IsAsked query doc → (walks : Walks) → AreWalks query doc walks → (runs : List RunKey) (kept : Kept) (list : List Connection) → Stands query doc runs kept list →
    (g : Goal) → kept.best ≡ Some g → (journey : Journey) → AreRidesTo doc.stops runs kept.arrivals g.place journey.rides →
    IsWalkAt Before doc.stops walks.starts.items (board_of journey.rides) journey.before → IsWalkAt After doc.stops walks.ends.items (alight_of journey.rides) journey.after →
    IsBest (IsLegOf list) query doc journey
best_journey query doc asked walks near runs kept list s g e journey leads before after =
    let b = s.follows.best.sound g e in
    let last = b.0 in
    let tail = tail_to query doc runs list kept.arrivals g.place s.follows.arrival_sound last b.1 journey.rides leads in
    let begins = tail_begins query doc list kept.arrivals last journey.rides tail in
    let ends = tail_ends query doc list kept.arrivals last journey.rides tail in
    let P : List ℕ → Type 0 = λ id. IsWalkAfter query doc id b.2.walk in
    let is = tail_whole query doc list kept.arrivals last g.arr journey tail b.2
    (made_before query doc asked walks.starts.items near.starts (board_of journey.rides) begins.0 journey.before begins.1 before)
    (made_after query doc asked walks.ends.items near.ends (alight_of journey.rides) b.2.walk journey.after (subst P (sym ends.0) b.2.is_walk) after) in
    let arr = is.1 in
    record {
      is_journey = is.0;
      is_earliest = λ other k.
          let r = journey_no_earlier query doc asked runs kept list s other k in
          let p = r.1 in let same : r.0 ≡ g = cc in let t = r.2 in let u = ap (λ (x : Goal). x.arr) same in omega arith;
    }
