-- The rides from a departure on are the end of a journey.
use Rattle.std.proofs.Common.{◌≡◌, ℕ, ◌+◌, ◌-◌, ◌<◌, ◌≤◌, List, [], ◌∷◌, ◌++◌, suc, zero, Option, Some, None, refl, sym, ◌∙◌, ap, subst, arith}
use Rattle.std.specs.List.{slice_get}
use Rattle.std.specs.Option.{option_map_or}
use Rattle.std.proofs.lemmas.List.{append_assoc, append-nil}
use Rattle.lc_model.specs.Change.{change_between}
use Rattle.lc_model.specs.Journey.{AreRides, alight_of, arrival_of_rides, board_of, departure_of}
use Rattle.lc_model.specs.Leg.{IsLegOf}
use Rattle.lc_model.specs.Question.{latest_of}
use Rattle.lc_model.specs.Walk.{IsWalkAfter, seconds_of}
use Rattle.lc_model.specs.declared.connection.Connection.{Connection}
use Rattle.lc_model.specs.declared.doc.StopsDoc.{StopsDoc}
use Rattle.lc_model.specs.declared.key.RunKey.{RunKey}
use Rattle.lc_model.specs.declared.query.Query.{Query}
use Rattle.lc_model.specs.declared.ride.Ride.{Ride}
use Rattle.lc_model.specs.declared.stop.Stop.{Stop}
use Rattle.lc_model.specs.declared.walk.Walk.{Walk}
use Rattle.csa_scan.specs.Reach.{id_at}
use Rattle.csa_scan.proofs.ListPlacesLemmas.{to_some_and}
use Rattle.back_scan.specs.Linked.{IsDepartureIn, departs_from}
use Rattle.back_scan.specs.Onward.{IsInTime, IsLegBegin, IsShown, MayGoOn}
use Rattle.back_scan.specs.RidesFrom.{GoesOnFrom}
use Rattle.back_scan.specs.declared.trace.Departure.{Departure}

-- there is a departure from the stop, and it is after the moment
pub record DepartsAfter (departures : List (Option Departure)) (stop at : ℕ) : Type 0 where
  pub departure : Departure
  pub is : slice_get departures stop ≡ Some (Some departure)
  pub after : at < departure.dep

later_there : (departures : List (Option Departure)) (k at : ℕ) (o : Option (Option Departure)) → slice_get departures k ≡ o → at < option_map_or (λ (p : Option Departure). option_map_or (λ (x : Departure). x.dep) p 0) o 0 →
    DepartsAfter departures k at
later_there departures k at None e h = absurd (omega arith)
later_there departures k at (Some None) e h = absurd (omega arith)
later_there departures k at (Some (Some d)) e h = record { departure = d; is = e; after = h }

-- a later departure is there
pub DepartsAfter-from_moment : (departures : List (Option Departure)) (k at : ℕ) → at < departs_from departures k → DepartsAfter departures k at
DepartsAfter-from_moment departures k at h = later_there departures k at (slice_get departures k) refl h

-- The rides begin with the departure from the stop, and after the last one a walk leads to an end of the question in
-- time, or none is needed.
pub record IsRest (query : Query) (doc : StopsDoc) (list : List Connection) (stop : ℕ) (d : Departure) (rides : List Ride) : Type 0 where
  pub are_rides : AreRides (IsLegOf list) doc rides
  pub board : board_of rides ≡ id_at doc.stops stop
  pub dep : departure_of rides ≡ d.dep
  pub walk : Option Walk
  pub is_walk : IsWalkAfter query doc (alight_of rides) walk
  pub in_time : arrival_of_rides rides + seconds_of walk ≤ latest_of query

-- the departure from a stop is the begin of one ride
pub same_ride : (stops : List Stop) (runs : List RunKey) (stop : ℕ) (d : Departure) (x y : Ride) → IsShown stops runs stop d x → IsShown stops runs stop d y → x ≡ y
same_ride stops runs stop d x y h k =
    let key : x.key ≡ y.key = let p = h.key in let q = k.key in cc in
    let first : x.first_seq ≡ y.first_seq = sym h.first_seq ∙ k.first_seq in
    let last : x.last_seq ≡ y.last_seq = sym h.last_seq ∙ k.last_seq in
    let board : x.board ≡ y.board = sym h.board ∙ k.board in
    let dep : x.dep ≡ y.dep = sym h.dep ∙ k.dep in
    let alight : x.alight ≡ y.alight = sym h.alight ∙ k.alight in
    let arr : x.arr ≡ y.arr = sym h.arr ∙ k.arr in
    ap (λ (v : RunKey). let r : Ride = record { key = v; first_seq = x.first_seq; last_seq = x.last_seq; board = x.board; dep = x.dep; alight = x.alight; arr = x.arr } in r) key
    ∙ ap (λ (v : ℕ). let r : Ride = record { key = y.key; first_seq = v; last_seq = x.last_seq; board = x.board; dep = x.dep; alight = x.alight; arr = x.arr } in r) first
    ∙ ap (λ (v : ℕ). let r : Ride = record { key = y.key; first_seq = y.first_seq; last_seq = v; board = x.board; dep = x.dep; alight = x.alight; arr = x.arr } in r) last
    ∙ ap (λ (v : List ℕ). let r : Ride = record { key = y.key; first_seq = y.first_seq; last_seq = y.last_seq; board = v; dep = x.dep; alight = x.alight; arr = x.arr } in r) board
    ∙ ap (λ (v : ℕ). let r : Ride = record { key = y.key; first_seq = y.first_seq; last_seq = y.last_seq; board = y.board; dep = v; alight = x.alight; arr = x.arr } in r) dep
    ∙ ap (λ (v : List ℕ). let r : Ride = record { key = y.key; first_seq = y.first_seq; last_seq = y.last_seq; board = y.board; dep = y.dep; alight = v; arr = x.arr } in r) alight
    ∙ ap (λ (v : ℕ). let r : Ride = record { key = y.key; first_seq = y.first_seq; last_seq = y.last_seq; board = y.board; dep = y.dep; alight = y.alight; arr = v } in r) arr

-- a ride after which nothing follows is a rest
rest_last : (query : Query) (doc : StopsDoc) (list : List Connection) (departures : List (Option Departure)) (stop : ℕ) (d : Departure) (ride : Ride) → IsLegOf list ride → id_at doc.stops stop ≡ ride.board → d.dep ≡ ride.dep →
    (next : Option ℕ) → next ≡ None → MayGoOn query doc departures next ride.alight ride.arr → IsRest query doc list stop d (ride ∷ [])
rest_last query doc list departures stop d ride leg board dep None e m = record { are_rides = (leg, tt); board = sym board; dep = sym dep; walk = m.0; is_walk = m.1; in_time = m.2 }
rest_last query doc list departures stop d ride leg board dep (Some k) e m = absurd (cc)

-- one ride before a rest makes one
pub rest_more : (query : Query) (doc : StopsDoc) (list : List Connection) (departures : List (Option Departure)) (stop : ℕ) (d : Departure) (ride : Ride) → IsLegOf list ride → id_at doc.stops stop ≡ ride.board → d.dep ≡ ride.dep →
    (k : ℕ) (e : Departure) → slice_get departures k ≡ Some (Some e) → IsInTime doc departures ride.alight ride.arr k → (rest : List Ride) → IsRest query doc list k e rest → IsRest query doc list stop d (ride ∷ rest)
rest_more query doc list departures stop d ride leg board dep k e at m [] h = absurd h.are_rides
rest_more query doc list departures stop d ride leg board dep k e at m (next ∷ rest) h =
    let there = m.is_departure in
    let same : m.departure ≡ e = cc in
    let same_dep = ap (λ (x : Departure). x.dep) same in
    let next_dep = h.dep in
    let P : List ℕ → Type 0 = λ id. change_between doc.changes ride.alight id ≡ Some m.seconds in
    let by = m.in_time in
    let can = to_some_and (change_between doc.changes ride.alight next.board) (λ seconds. ride.arr + seconds ≤ next.dep) m.seconds (subst P (sym h.board) m.is_change) (omega arith) in
    record {
      are_rides = (leg, (h.are_rides.0, can, h.are_rides.1));
      board = sym board;
      dep = sym dep;
      walk = h.walk;
      is_walk = h.is_walk;
      in_time = h.in_time;
    }

-- a way on that leads somewhere leads to a place
goes_to : (query : Query) (doc : StopsDoc) (departures : List (Option Departure)) (next : Option ℕ) (id : List ℕ) (at k : ℕ) → next ≡ Some k → MayGoOn query doc departures next id at → IsInTime doc departures id at k
goes_to query doc departures next id at k e m = let P : Option ℕ → Type 0 = λ o. MayGoOn query doc departures o id at in subst P e m

-- rides that lead on are a rest
pub rest_of : (query : Query) (doc : StopsDoc) (runs : List RunKey) (departures : List (Option Departure)) (list : List Connection) →
    ((stop : ℕ) (d : Departure) → slice_get departures stop ≡ Some (Some d) → IsLegBegin query doc runs departures list stop d) →
    (rides : List Ride) (stop : ℕ) (d : Departure) → slice_get departures stop ≡ Some (Some d) → GoesOnFrom doc.stops runs departures (Some stop) rides → IsRest query doc list stop d rides
rest_of query doc runs departures list sound [] stop d at h = absurd (cc)
rest_of query doc runs departures list sound (ride ∷ []) stop d at h =
    let same_stop : h.0 ≡ stop = let e = h.2 in cc in
    let P : ℕ → Type 0 = λ k. slice_get departures k ≡ Some (Some h.1) in
    let there = subst P same_stop h.3 in
    let same : h.1 ≡ d = cc in
    let S : ℕ → Type 0 = λ k. IsShown doc.stops runs k h.1 ride in
    let T : Departure → Type 0 = λ x. IsShown doc.stops runs stop x ride in
    let shown = subst T same (subst S same_stop h.4) in
    let N : Departure → Type 0 = λ x. x.alighting.next ≡ None in
    let ends = subst N same h.5 in
    let begin = sound stop d at in
    let is = same_ride doc.stops runs stop d begin.ride ride begin.is_shown shown in
    let L : Ride → Type 0 = λ r. IsLegOf list r in
    let M : Ride → Type 0 = λ r. MayGoOn query doc departures d.alighting.next r.alight r.arr in
    rest_last query doc list departures stop d ride (subst L is begin.is_leg) shown.board shown.dep d.alighting.next ends (subst M is begin.may_go_on)
rest_of query doc runs departures list sound (ride ∷ next ∷ rest) stop d at h =
    let same_stop : h.0 ≡ stop = let e = h.2 in cc in
    let P : ℕ → Type 0 = λ k. slice_get departures k ≡ Some (Some h.1) in
    let there = subst P same_stop h.3 in
    let same : h.1 ≡ d = cc in
    let S : ℕ → Type 0 = λ k. IsShown doc.stops runs k h.1 ride in
    let T : Departure → Type 0 = λ x. IsShown doc.stops runs stop x ride in
    let shown = subst T same (subst S same_stop h.4) in
    let N : Departure → Type 0 = λ x. GoesOnFrom doc.stops runs departures x.alighting.next (next ∷ rest) in
    let more = subst N same h.5 in
    let O : Option ℕ → Type 0 = λ o. GoesOnFrom doc.stops runs departures o (next ∷ rest) in
    let begin = sound stop d at in
    let is = same_ride doc.stops runs stop d begin.ride ride begin.is_shown shown in
    let L : Ride → Type 0 = λ r. IsLegOf list r in
    let M : Ride → Type 0 = λ r. MayGoOn query doc departures d.alighting.next r.alight r.arr in
    let on = goes_to query doc departures d.alighting.next ride.alight ride.arr more.0 more.2 (subst M is begin.may_go_on) in
    rest_more query doc list departures stop d ride (subst L is begin.is_leg) shown.board shown.dep more.0 more.1 more.3 on (next ∷ rest)
    (rest_of query doc runs departures list sound (next ∷ rest) more.0 more.1 more.3 (subst O more.2 more))

-- there is a ride in what leads on from a stop
pub goes_on_not_empty : (stops : List Stop) (runs : List RunKey) (departures : List (Option Departure)) (stop : ℕ) (rides : List Ride) → GoesOnFrom stops runs departures (Some stop) rides → rides ≡ [] → ⊥
goes_on_not_empty stops runs departures stop [] h e = cc
goes_on_not_empty stops runs departures stop (ride ∷ rest) h e = cc

-- rides that lead on from a departure
abbrev LeadsOn : List Stop → List RunKey → List (Option Departure) → Option ℕ → Type 0
LeadsOn stops runs departures next = (rides : List Ride) × GoesOnFrom stops runs departures next rides

-- where each next departure leads on, so does this one
leads_next : (stops : List Stop) (runs : List RunKey) (departures : List (Option Departure)) (next : Option ℕ) →
    ((k : ℕ) → next ≡ Some k → LeadsOn stops runs departures (Some k)) → LeadsOn stops runs departures next
leads_next stops runs departures None more = ([], refl)
leads_next stops runs departures (Some k) more = more k refl

-- each departure leads on to rides: a later one in fewer seconds
leads_on : (stops : List Stop) (runs : List RunKey) (departures : List (Option Departure)) →
    ((stop : ℕ) (d : Departure) → slice_get departures stop ≡ Some (Some d) → (ride : Ride) × IsShown stops runs stop d ride) →
    ((stop : ℕ) (d : Departure) → slice_get departures stop ≡ Some (Some d) → (k : ℕ) → d.alighting.next ≡ Some k → DepartsAfter departures k d.dep) →
    ((stop : ℕ) (d : Departure) → slice_get departures stop ≡ Some (Some d) → d.dep < 253402128000) →
    (fuel stop : ℕ) (d : Departure) → slice_get departures stop ≡ Some (Some d) → 253402128000 - d.dep < fuel → LeadsOn stops runs departures (Some stop)
leads_on stops runs departures shows later ends zero stop d at l = absurd (omega arith)
leads_on stops runs departures shows later ends (suc fuel) stop d at l =
    let shown = shows stop d at in
    let rest = leads_next stops runs departures d.alighting.next (λ k e.
    let f = later stop d at k e in
    let g = ends k f.departure f.is in
    let m = f.after in
    leads_on stops runs departures shows later ends fuel k f.departure f.is (omega arith)) in
    (shown.0 ∷ rest.0, (stop, d, refl, at, shown.1, rest.1))

pub leads_on_to : (query : Query) (doc : StopsDoc) (runs : List RunKey) (departures : List (Option Departure)) (list : List Connection) →
    ((stop : ℕ) (d : Departure) → slice_get departures stop ≡ Some (Some d) → IsLegBegin query doc runs departures list stop d) →
    (n : ℕ) → ((stop : ℕ) (d : Departure) → slice_get departures stop ≡ Some (Some d) → IsDepartureIn n departures d) →
    (stop : ℕ) (d : Departure) → slice_get departures stop ≡ Some (Some d) → (rides : List Ride) × GoesOnFrom doc.stops runs departures (Some stop) rides
leads_on_to query doc runs departures list sound n within stop d at =
    leads_on doc.stops runs departures (λ k e is. let h = sound k e is in (h.ride, h.is_shown))
    (λ k e is j next. let h = within k e is in let f = DepartsAfter-from_moment departures j e.alighting.arr (h.alighting.next j next) in let g = h.forward in let m = f.after in record { departure = f.departure; is = f.is; after = omega arith })
    (λ k e is. (within k e is).is_moment) (suc 253402128000) stop d at (omega arith)

-- one ride more, written after the earlier ones
pub leads_further : (stops : List Stop) (runs : List RunKey) (departures : List (Option Departure)) (first at : ℕ) (d : Departure) (ride : Ride) (rides pushed : List Ride) (next : Option ℕ) →
    next ≡ Some at → slice_get departures at ≡ Some (Some d) → IsShown stops runs at d ride → pushed ≡ rides ++ ride ∷ [] →
    ((rest : List Ride) → GoesOnFrom stops runs departures next rest → GoesOnFrom stops runs departures (Some first) (rides ++ rest)) →
    (rest : List Ride) → GoesOnFrom stops runs departures d.alighting.next rest → GoesOnFrom stops runs departures (Some first) (pushed ++ rest)
leads_further stops runs departures first at d ride rides pushed next is there shown p h rest more =
    let P : List Ride → Type 0 = λ l. GoesOnFrom stops runs departures (Some first) l in
    subst P (sym (ap (λ l. l ++ rest) p ∙ append_assoc rides (ride ∷ []) rest)) (h (ride ∷ rest) (at, d, is, there, shown, more))

-- all rides
pub leads_to_end : (stops : List Stop) (runs : List RunKey) (departures : List (Option Departure)) (first : ℕ) (rides : List Ride) (next : Option ℕ) → next ≡ None →
    ((rest : List Ride) → GoesOnFrom stops runs departures next rest → GoesOnFrom stops runs departures (Some first) (rides ++ rest)) → GoesOnFrom stops runs departures (Some first) rides
leads_to_end stops runs departures first rides next e h =
    let P : List Ride → Type 0 = λ l. GoesOnFrom stops runs departures (Some first) l in
    subst P (append-nil rides) (h [] e)

-- how much time there is to the end of time, at a departure
abbrev pub time_left : List (Option Departure) → Option ℕ → ℕ
time_left departures next =
    option_map_or (λ (k : ℕ). option_map_or (λ (o : Option Departure). option_map_or (λ (d : Departure). suc (253402128000 - d.dep)) o 0) (slice_get departures k) 0) next 0

-- the next departure is later
pub nearer : (departures : List (Option Departure)) (before next : Option ℕ) (at : ℕ) (d : Departure) → before ≡ Some at → slice_get departures at ≡ Some (Some d) → d.dep < 253402128000 →
    ((k : ℕ) → next ≡ Some k → DepartsAfter departures k d.dep) → time_left departures next < time_left departures before
nearer departures before None at d e is l after =
    let P : Option ℕ → Type 0 = λ o. 0 < time_left departures o in
    let Q : Option (Option Departure) → Type 0 = λ o. 0 < option_map_or (λ (p : Option Departure). option_map_or (λ (x : Departure). suc (253402128000 - x.dep)) p 0) o 0 in
    let h : 0 < suc (253402128000 - d.dep) = omega arith in
    subst P (sym e) (subst Q (sym is) h)
nearer departures before (Some k) at d e is l after =
    let f = after k refl in
    let P : Option ℕ → Type 0 = λ o. time_left departures (Some k) < time_left departures o in
    let Q : Option (Option Departure) → Type 0 = λ o. time_left departures (Some k) < option_map_or (λ (p : Option Departure). option_map_or (λ (x : Departure). suc (253402128000 - x.dep)) p 0) o 0 in
    let R : Option (Option Departure) → Type 0 = λ o. option_map_or (λ (p : Option Departure). option_map_or (λ (x : Departure). suc (253402128000 - x.dep)) p 0) o 0 < suc (253402128000 - d.dep) in
    let g = f.after in
    let h : suc (253402128000 - f.departure.dep) < suc (253402128000 - d.dep) = omega arith in
    subst P (sym e) (subst Q (sym is) (subst R (sym f.is) h))
