-- The way back from an arrival: each arrival before it leads to the rides after it.
use Rattle.std.proofs.Common.{◌≡◌, ℕ, ◌+◌, ◌-◌, ◌<◌, ◌≤◌, List, [], ◌∷◌, ◌++◌, suc, zero, Option, Some, None, get_or, length, reverse, refl, sym, ◌∙◌, ap, subst, arith}
use Rattle.std.specs.List.{slice_get}
use Rattle.std.specs.Option.{option_map_or}
use Rattle.lc_model.specs.Change.{change_between}
use Rattle.lc_model.specs.Journey.{AreRides, CanChange, GoesOn, IsJourney, alight_of, arrival_of_rides, arrives_at, board_of, departure_of}
use Rattle.lc_model.specs.Leg.{IsLegOf}
use Rattle.lc_model.specs.Walk.{IsWalkAfter, IsWalkBefore, seconds_of}
use Rattle.lc_model.specs.declared.connection.Connection.{Connection}
use Rattle.lc_model.specs.declared.doc.StopsDoc.{StopsDoc}
use Rattle.lc_model.specs.declared.key.RunKey.{RunKey}
use Rattle.lc_model.specs.declared.journey.Journey.{Journey}
use Rattle.lc_model.specs.declared.query.Query.{Query}
use Rattle.lc_model.specs.declared.ride.Ride.{Ride}
use Rattle.lc_model.specs.declared.stop.Stop.{Stop}
use Rattle.lc_model.specs.declared.walk.Walk.{Walk}
use Rattle.lc_model.proofs.WalksLemmas.{one_walk_after, one_walk_before}
use Rattle.csa_scan.specs.Reach.{id_at, LeadsTo, MayBoard, IsShown, IsLegEnd}
use Rattle.csa_scan.specs.Stands.{LeadsToEnd}
use Rattle.csa_scan.specs.RidesTo.{AreRidesTo, LeadsOn}
use Rattle.std.proofs.lemmas.List.{reverse-append}
use Rattle.csa_scan.specs.declared.trace.Arrival.{Arrival}
use Rattle.csa_scan.proofs.ListPlacesLemmas.{to_some_and}

-- The rides are the end of a journey up to the last arrival. They go on after the arrival at this place, or from the begin.
-- Without rides the arrival at the place is the last one.
abbrev pub IsTail : Query → StopsDoc → List Connection → List Arrival → Arrival → Option ℕ → List Ride → Type 0
IsTail query doc list arrivals last after [] = (place : ℕ) × (after ≡ Some place) × (slice_get arrivals place ≡ Some last)
IsTail query doc list arrivals last after (ride ∷ rest) =
    IsLegOf list ride × GoesOn (IsLegOf list) doc ride rest × MayBoard query doc arrivals after ride.board ride.dep
    × (alight_of (ride ∷ rest) ≡ id_at doc.stops last.stop) × (arrival_of_rides (ride ∷ rest) ≡ last.arr)

-- an arrival is the end of one ride
pub same_ride : (stops : List Stop) (runs : List RunKey) (a : Arrival) (x y : Ride) → IsShown stops runs a x → IsShown stops runs a y → x ≡ y
same_ride stops runs a x y h k =
    let key : x.key ≡ y.key = let p = h.key in let q = k.key in cc in
    let first : x.first_seq ≡ y.first_seq = sym h.first_seq ∙ k.first_seq in
    let last : x.last_seq ≡ y.last_seq = sym h.last_seq ∙ k.last_seq in
    let board : x.board ≡ y.board = sym h.board ∙ k.board in
    let dep : x.dep ≡ y.dep = sym h.dep ∙ k.dep in
    let alight : x.alight ≡ y.alight = sym h.alight ∙ k.alight in
    let arr : x.arr ≡ y.arr = sym h.arr ∙ k.arr in
    ap (λ (v : RunKey). let r : Ride = record { key = v; first_seq = x.first_seq; last_seq = x.last_seq; board = x.board; dep = x.dep; alight = x.alight; arr = x.arr } in r) key
    ∙ ap (λ (v : ℕ). let r : Ride = record { key = y.key; first_seq = v; last_seq = x.last_seq; board = x.board; dep = x.dep; alight = x.alight; arr = x.arr } in r) first
    ∙ ap (λ (v : ℕ). let r : Ride = record { key = y.key; first_seq = y.first_seq; last_seq = v; board = x.board; dep = x.dep; alight = x.alight; arr = x.arr } in r) last
    ∙ ap (λ (v : List ℕ). let r : Ride = record { key = y.key; first_seq = y.first_seq; last_seq = y.last_seq; board = v; dep = x.dep; alight = x.alight; arr = x.arr } in r) board
    ∙ ap (λ (v : ℕ). let r : Ride = record { key = y.key; first_seq = y.first_seq; last_seq = y.last_seq; board = y.board; dep = v; alight = x.alight; arr = x.arr } in r) dep
    ∙ ap (λ (v : List ℕ). let r : Ride = record { key = y.key; first_seq = y.first_seq; last_seq = y.last_seq; board = y.board; dep = y.dep; alight = v; arr = x.arr } in r) alight
    ∙ ap (λ (v : ℕ). let r : Ride = record { key = y.key; first_seq = y.first_seq; last_seq = y.last_seq; board = y.board; dep = y.dep; alight = y.alight; arr = v } in r) arr

-- the ride of an arrival that one may change from goes on
changes_to : (doc : StopsDoc) (a : Arrival) (ride next : Ride) → id_at doc.stops a.stop ≡ ride.alight → a.arr ≡ ride.arr → LeadsTo doc a next.board next.dep → CanChange doc ride next
changes_to doc a ride next alight arr h =
    let P : List ℕ → Type 0 = λ id. change_between doc.changes id next.board ≡ Some h.seconds in
    let t = h.in_time in
    to_some_and (change_between doc.changes ride.alight next.board) (λ seconds. ride.arr + seconds ≤ next.dep) h.seconds (subst P alight h.is_change) (omega arith)

-- one ride back
pub tail_back : (query : Query) (doc : StopsDoc) (runs : List RunKey) (list : List Connection) (arrivals : List Arrival) (last : Arrival) →
    (place : ℕ) (a : Arrival) → slice_get arrivals place ≡ Some a → IsLegEnd query doc runs arrivals list a →
    (ride : Ride) → IsShown doc.stops runs a ride → (tail : List Ride) → IsTail query doc list arrivals last (Some place) tail →
    IsTail query doc list arrivals last a.boarding.after (ride ∷ tail)
tail_back query doc runs list arrivals last place a e end ride shown [] h =
    let same : a ≡ last = let p = h.1 in let q = h.2 in let r : place ≡ h.0 = cc in (let s : slice_get arrivals place ≡ Some last = (ap (slice_get arrivals) r ∙ q) in cc) in
    let is = same_ride doc.stops runs a end.ride ride end.is_shown shown in
    let P : Ride → Type 0 = λ r. IsLegOf list r in
    let Q : Ride → Type 0 = λ r. MayBoard query doc arrivals a.boarding.after r.board r.dep in
    (subst P is end.is_leg, tt, subst Q is end.may_board, sym shown.alight ∙ ap (λ (x : Arrival). id_at doc.stops x.stop) same, sym shown.arr ∙ ap (λ (x : Arrival). x.arr) same)
tail_back query doc runs list arrivals last place a e end ride shown (next ∷ rest) h =
    let m = h.2 in
    let same : m.0 ≡ a = let p = m.1 in cc in
    let is = same_ride doc.stops runs a end.ride ride end.is_shown shown in
    let P : Ride → Type 0 = λ r. IsLegOf list r in
    let Q : Ride → Type 0 = λ r. MayBoard query doc arrivals a.boarding.after r.board r.dep in
    let L : Arrival → Type 0 = λ x. LeadsTo doc x next.board next.dep in
    (subst P is end.is_leg, (h.0, changes_to doc a ride next shown.alight shown.arr (subst L same m.2), h.1), subst Q is end.may_board, h.3, h.4)

-- rides that lead on to the goal are the end of a journey
tail_of : (query : Query) (doc : StopsDoc) (runs : List RunKey) (list : List Connection) (arrivals : List Arrival) (goal : ℕ) →
    ((place : ℕ) (a : Arrival) → slice_get arrivals place ≡ Some a → IsLegEnd query doc runs arrivals list a) →
    (last : Arrival) → slice_get arrivals goal ≡ Some last →
    (after : Option ℕ) (rides : List Ride) → LeadsOn doc.stops runs arrivals goal after rides → IsTail query doc list arrivals last after rides
tail_of query doc runs list arrivals goal sound last e after [] h = (goal, h, e)
tail_of query doc runs list arrivals goal sound last e after (ride ∷ rest) h =
    let tail = tail_of query doc runs list arrivals goal sound last e (Some h.0) rest h.5 in
    let P : Option ℕ → Type 0 = λ o. IsTail query doc list arrivals last o (ride ∷ rest) in
    subst P h.4 (tail_back query doc runs list arrivals last h.0 h.1 h.2 (sound h.0 h.1 h.2) ride h.3 rest tail)

-- rides that lead from the begin to the goal are a whole tail
pub tail_to : (query : Query) (doc : StopsDoc) (runs : List RunKey) (list : List Connection) (arrivals : List Arrival) (goal : ℕ) →
    ((place : ℕ) (a : Arrival) → slice_get arrivals place ≡ Some a → IsLegEnd query doc runs arrivals list a) →
    (last : Arrival) → slice_get arrivals goal ≡ Some last →
    (rides : List Ride) → AreRidesTo doc.stops runs arrivals goal rides → IsTail query doc list arrivals last None rides
tail_to query doc runs list arrivals goal sound last e rides h = tail_of query doc runs list arrivals goal sound last e None rides h

-- there is a ride in it
pub tail_not_empty : (query : Query) (doc : StopsDoc) (list : List Connection) (arrivals : List Arrival) (last : Arrival) (rides : List Ride) → IsTail query doc list arrivals last None rides → rides ≡ [] → ⊥
tail_not_empty query doc list arrivals last [] h e = let p = h.1 in cc
tail_not_empty query doc list arrivals last (ride ∷ rest) h e = cc

-- there is a ride in what leads from the begin to an arrival
pub leads_not_empty : (stops : List Stop) (runs : List RunKey) (arrivals : List Arrival) (goal : ℕ) (rides : List Ride) → AreRidesTo stops runs arrivals goal rides → rides ≡ [] → ⊥
leads_not_empty stops runs arrivals goal [] h e = cc
leads_not_empty stops runs arrivals goal (ride ∷ rest) h e = cc

-- the stop where the last of the rides alights
alight_of-at : (rides : List Ride) (last : Ride) (i : ℕ) → i + 1 ≡ length rides → last ≡ get_or rides i last → alight_of rides ≡ last.alight
alight_of-at [] last i l e = absurd (omega arith)
alight_of-at (ride ∷ []) last zero l e = ap (λ (r : Ride). r.alight) (sym e)
alight_of-at (ride ∷ []) last (suc i) l e = absurd (omega arith)
alight_of-at (ride ∷ next ∷ rest) last zero l e = absurd (omega arith)
alight_of-at (ride ∷ next ∷ rest) last (suc i) l e = alight_of-at (next ∷ rest) last i (omega arith) e

some_long : (rides : List Ride) → (rides ≡ [] → ⊥) → 0 < length rides
some_long [] some = absurd (some refl)
some_long (ride ∷ rest) some = omega arith

pub alight_of-last : (rides : List Ride) (last : Ride) → (rides ≡ [] → ⊥) → (n : ℕ) → n ≡ length rides → last ≡ get_or rides (n - 1) last → alight_of rides ≡ last.alight
alight_of-last rides last some n same e = let l = some_long rides some in alight_of-at rides last (n - 1) (omega arith) e

-- the walk before the first ride
pub tail_begins : (query : Query) (doc : StopsDoc) (list : List Connection) (arrivals : List Arrival) (last : Arrival) (rides : List Ride) → IsTail query doc list arrivals last None rides →
    (walk : Option Walk) × IsWalkBefore query doc (board_of rides) walk × (query.leave + seconds_of walk ≤ departure_of rides)
tail_begins query doc list arrivals last [] h = let p = h.1 in absurd (cc)
tail_begins query doc list arrivals last (ride ∷ rest) h = h.2

-- the stop where the last ride alights
pub tail_ends : (query : Query) (doc : StopsDoc) (list : List Connection) (arrivals : List Arrival) (last : Arrival) (rides : List Ride) → IsTail query doc list arrivals last None rides →
    (alight_of rides ≡ id_at doc.stops last.stop) × (arrival_of_rides rides ≡ last.arr)
tail_ends query doc list arrivals last [] h = let p = h.1 in absurd (cc)
tail_ends query doc list arrivals last (ride ∷ rest) h = (h.3, h.4)

-- its rides are rides
tail_rides : (query : Query) (doc : StopsDoc) (list : List Connection) (arrivals : List Arrival) (last : Arrival) (rides : List Ride) → IsTail query doc list arrivals last None rides → AreRides (IsLegOf list) doc rides
tail_rides query doc list arrivals last [] h = let p = h.1 in absurd (cc)
tail_rides query doc list arrivals last (ride ∷ rest) h = (h.0, h.1)

-- from the begin the rides are those of a journey, whose walks are the question's
pub tail_whole : (query : Query) (doc : StopsDoc) (list : List Connection) (arrivals : List Arrival) (last : Arrival) (at : ℕ) (journey : Journey) →
    IsTail query doc list arrivals last None journey.rides → LeadsToEnd query doc last at →
    IsWalkBefore query doc (board_of journey.rides) journey.before → IsWalkAfter query doc (alight_of journey.rides) journey.after →
    IsJourney (IsLegOf list) query doc journey × (arrives_at journey ≡ at)
tail_whole query doc list arrivals last at journey h leads before after =
    let begins = tail_begins query doc list arrivals last journey.rides h in
    let ends = tail_ends query doc list arrivals last journey.rides h in
    let same_before = ap seconds_of (one_walk_before query doc (board_of journey.rides) begins.0 journey.before begins.1 before) in
    let P : List ℕ → Type 0 = λ id. IsWalkAfter query doc id leads.walk in
    let same_after = ap seconds_of (one_walk_after query doc (alight_of journey.rides) leads.walk journey.after (subst P (sym ends.0) leads.is_walk) after) in
    let early = begins.2 in let arr = ends.1 in let then = leads.is_then in let by = leads.in_time in
    let arrives : arrives_at journey ≡ at = omega arith in (
      record {
        are_rides = tail_rides query doc list arrivals last journey.rides h;
        begins = before;
        not_early = omega arith;
        ends = after;
        in_time = omega arith;
      },
      arrives,
    )

-- one ride more, written after the later ones
reverse_push : {X : Type 0} (xs : List X) (x : X) → reverse (xs ++ x ∷ []) ≡ x ∷ reverse xs
reverse_push xs x = reverse-append xs (x ∷ [])

pub leads_back : (stops : List Stop) (runs : List RunKey) (arrivals : List Arrival) (goal place : ℕ) (a : Arrival) (ride : Ride) (rides pushed : List Ride) (after : Option ℕ) →
    after ≡ Some place → slice_get arrivals place ≡ Some a → IsShown stops runs a ride → pushed ≡ rides ++ ride ∷ [] → LeadsOn stops runs arrivals goal after (reverse rides) →
    LeadsOn stops runs arrivals goal a.boarding.after (reverse pushed)
leads_back stops runs arrivals goal place a ride rides pushed after at e shown p h =
    let P : List Ride → Type 0 = λ l. LeadsOn stops runs arrivals goal a.boarding.after l in
    let Q : Option ℕ → Type 0 = λ o. LeadsOn stops runs arrivals goal o (reverse rides) in
    subst P (sym (ap reverse p ∙ reverse_push rides ride)) (place, a, e, shown, refl, subst Q at h)

-- the way back comes nearer to the begin
pub nearer : (before after : Option ℕ) (at : ℕ) → before ≡ Some at → ((k : ℕ) → after ≡ Some k → k < at) →
    option_map_or (λ (k : ℕ). k + 1) after 0 < option_map_or (λ (k : ℕ). k + 1) before 0
nearer before None at e falls = let P : Option ℕ → Type 0 = λ o. 0 < option_map_or (λ (k : ℕ). k + 1) o 0 in let h : 0 < at + 1 = omega arith in subst P (sym e) h
nearer before (Some k) at e falls = let P : Option ℕ → Type 0 = λ o. k + 1 < option_map_or (λ (n : ℕ). n + 1) o 0 in let l = falls k refl in let h : k + 1 < at + 1 = omega arith in subst P (sym e) h
