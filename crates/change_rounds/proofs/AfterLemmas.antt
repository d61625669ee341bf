-- One round more.
use Rattle.std.proofs.Common.{◌≡◌, ℕ, ◌+◌, ◌-◌, ◌≤◌, zero, suc, List, [], ◌∷◌, Option, Some, length, refl, sym, ◌∙◌, subst, inl, inr, arith}
use Rattle.lc_model.specs.Change.{change_between}
use Rattle.lc_model.specs.Journey.{AreRides, GoesOn, IsJourney, alight_of, arrival_of_rides, arrives_at, board_of, departure_of}
use Rattle.lc_model.specs.Leg.{IsLegOf}
use Rattle.lc_model.specs.Walk.{IsWalkAfter, IsWalkBefore, seconds_of}
use Rattle.lc_model.specs.declared.connection.Connection.{Connection}
use Rattle.lc_model.specs.declared.doc.StopsDoc.{StopsDoc}
use Rattle.lc_model.specs.declared.journey.Journey.{Journey}
use Rattle.lc_model.specs.declared.key.RunKey.{RunKey}
use Rattle.lc_model.specs.declared.query.Query.{Query}
use Rattle.lc_model.specs.declared.ride.Ride.{Ride}
use Rattle.lc_model.specs.declared.walk.Walk.{Walk}
use Rattle.csa_scan.specs.Kept.{Kept}
use Rattle.csa_scan.specs.Stands.{IsAsked}
use Rattle.csa_scan.specs.declared.trace.Goal.{Goal}
use Rattle.csa_scan.proofs.LeastLemmas.{has_stop, walk_over}
use Rattle.csa_scan.proofs.ListPlacesLemmas.{some_and}
use Rattle.csa_scan.proofs.NearWalksLemmas.{place_of_end, stop_of_place}
use Rattle.csa_scan.proofs.SoughtLemmas.{below}
use Rattle.change_rounds.specs.Boards.{BoardsWithin}
use Rattle.change_rounds.specs.InRound.{StandsInRound}
use Rattle.change_rounds.specs.Round.{AfterRounds}
use Rattle.change_rounds.proofs.WayLemmas.{boarded_within, leg_end-grows, may_board-grows, within-grown, within-suc}

-- who boards within a number of rides boards within a greater one
boards_by : (query : Query) (doc : StopsDoc) (list : List Connection) (stop : List ℕ) (at n k : ℕ) → k ≤ n → BoardsWithin query doc list k stop at → BoardsWithin query doc list n stop at
boards_by query doc list stop at zero k l b =
    let none : k ≡ zero = omega arith in
    let P : ℕ → Type 0 = λ m. BoardsWithin query doc list m stop at in
    subst P none b
boards_by query doc list stop at (suc n) k l b = elim (below n k) [
  | inl more ↦
      let same : k ≡ suc n = omega arith in
      let P : ℕ → Type 0 = λ m. BoardsWithin query doc list m stop at in
      subst P same b
  | inr fewer ↦ inl (boards_by query doc list stop at n k fewer b)
]

-- the last of some rides is a leg, which one boards within so many rides
record IsLast (query : Query) (doc : StopsDoc) (list : List Connection) (rides : List Ride) (n : ℕ) : Type 0 where
  last : Ride
  is_leg : IsLegOf list last
  boards : BoardsWithin query doc list n last.board last.dep
  alight : alight_of rides ≡ last.alight
  arr : arrival_of_rides rides ≡ last.arr

last_ride : (query : Query) (doc : StopsDoc) (list : List Connection) (k : ℕ) (ride : Ride) (rest : List Ride) → IsLegOf list ride → BoardsWithin query doc list k ride.board ride.dep → GoesOn (IsLegOf list) doc ride rest →
    (n : ℕ) → k + length rest ≡ n → IsLast query doc list (ride ∷ rest) n
last_ride query doc list k ride [] leg b goes n e =
    let same : k ≡ n = omega arith in
    let P : ℕ → Type 0 = λ m. BoardsWithin query doc list m ride.board ride.dep in
    record { last = ride; is_leg = leg; boards = subst P same b; alight = refl; arr = refl }
last_ride query doc list k ride (next ∷ rest) leg b goes n e =
    let l = last_ride query doc list (suc k) next rest goes.0 (inr (ride, leg, b, goes.1)) goes.2 n (omega arith) in
    record { last = l.last; is_leg = l.is_leg; boards = l.boards; alight = l.alight; arr = l.arr }

-- the last ride of a chain of so many rides at most, and one more
last_of : (query : Query) (doc : StopsDoc) (list : List Connection) (rides : List Ride) → AreRides (IsLegOf list) doc rides → (before : Option Walk) → IsWalkBefore query doc (board_of rides) before → query.leave ≤ departure_of rides - seconds_of before →
    (n : ℕ) → length rides ≤ suc n → IsLast query doc list rides n
last_of query doc list [] are before begins early n l = absurd are
last_of query doc list (first ∷ rest) are before begins early n l =
    let h = last_ride query doc list 0 first rest are.0 (before, begins, walk_over query first.dep (seconds_of before) early) are.1 (length rest) (omega arith) in
    record { last = h.last; is_leg = h.is_leg; boards = boards_by query doc list h.last.board h.last.dep n (length rest) (omega arith) h.boards; alight = h.alight; arr = h.arr }

-- where one may board after one leg more, one may after an arrival of the round
boards_more : (query : Query) (doc : StopsDoc) (runs : List RunKey) (old new : Kept) (list : List Connection) (n : ℕ) → AfterRounds query doc runs old list n → StandsInRound query doc runs old.arrivals new list →
    (stop : List ℕ) (at : ℕ) → BoardsWithin query doc list (suc n) stop at → (after : Option ℕ) × Rattle.csa_scan.specs.Reach.MayBoard query doc new.arrivals after stop at
boards_more query doc runs old new list n h s stop at (inl b) =
    let m = h.boards stop at b in
    (m.0, may_board-grows query doc old.arrivals new.arrivals s.follows.grows m.0 stop at m.1)
boards_more query doc runs old new list n h s stop at (inr b) =
    let ride = b.0 in
    let m = h.boards ride.board ride.dep b.2 in
    let c = some_and (change_between doc.changes ride.alight stop) (λ seconds. ride.arr + seconds ≤ at) b.3 in
    let r = s.reaches ride b.1 m.0 m.1 (has_stop doc ride.alight stop c.0 c.1) in
    let P : List ℕ → Type 0 = λ id. change_between doc.changes id stop ≡ Some c.0 in
    let t = r.in_time in let u = c.2 in
    (Some r.place, (r.arrival, r.is_arrival, record { seconds = c.0; is_change = subst P (sym r.at) c.1; in_time = omega arith }))

-- a chain of one ride more arrives no earlier than the best goal
covers_more : (query : Query) (doc : StopsDoc) → IsAsked query doc → (runs : List RunKey) (old new : Kept) (list : List Connection) (n : ℕ) → AfterRounds query doc runs old list n → StandsInRound query doc runs old.arrivals new list →
    (journey : Journey) → IsJourney (IsLegOf list) query doc journey → length journey.rides ≤ suc n → (g : Goal) × (new.best ≡ Some g) × (g.arr ≤ arrives_at journey)
covers_more query doc asked runs old new list n h s journey is l =
    let rides = journey.rides in
    let walk = journey.after in
    let z = last_of query doc list rides is.are_rides journey.before is.begins is.not_early n l in
    let m = h.boards z.last.board z.last.dep z.boards in
    let S : List ℕ → Type 0 = λ id. Rattle.lc_model.specs.Stop.HasStop doc.stops id in
    let known = subst S z.alight (stop_of_place doc (alight_of rides) (place_of_end query doc asked (alight_of rides) walk is.ends)) in
    let r = s.reaches z.last z.is_leg m.0 m.1 known in
    let P : List ℕ → Type 0 = λ id. IsWalkAfter query doc id walk in
    let t = r.in_time in let arr = z.arr in let by = is.in_time in
    let g = s.follows.best.complete r.place r.arrival r.is_arrival (r.arrival.arr + seconds_of walk) (record {
      walk = walk;
      is_walk = subst P (z.alight ∙ sym r.at) is.ends;
      is_then = refl;
      in_time = omega arith;
    }) in
    let u = g.2 in
    (g.0, g.1, omega arith)

-- one round more
pub after_round : (query : Query) (doc : StopsDoc) → IsAsked query doc → (runs : List RunKey) (old new : Kept) (list : List Connection) (n : ℕ) → AfterRounds query doc runs old list n → StandsInRound query doc runs old.arrivals new list →
    AfterRounds query doc runs new list (suc n)
after_round query doc asked runs old new list n h s = let grows = s.follows.grows in record {
  sound = λ place a e. elim (s.follows.arrival_sound place a e) [
    | inl was ↦ leg_end-grows query doc runs old.arrivals new.arrivals grows list a (h.sound place a was)
    | inr end ↦ leg_end-grows query doc runs old.arrivals new.arrivals grows list a end
  ];
  within = λ place a e. elim (s.follows.arrival_sound place a e) [
    | inl was ↦ within-suc new.arrivals n (Some place) (within-grown old.arrivals new.arrivals grows n (Some place) (h.within place a was))
    | inr end ↦ inr (
      place,
      a,
      refl,
      e,
      within-grown old.arrivals new.arrivals grows n a.boarding.after (boarded_within query doc old.arrivals n h.within a.boarding.after end.ride.board end.ride.dep end.may_board),
    )
  ];
  boards = λ stop at b. boards_more query doc runs old new list n h s stop at b;
  ready = s.follows.ready;
  reached = s.follows.reached;
  best = s.follows.best;
  covers = λ journey is l. covers_more query doc asked runs old new list n h s journey is l;
}
