-- The journeys of a timetable have a least arrival.
use Rattle.std.proofs.Common.{◌≡◌, ℕ, zero, suc, ◌+◌, ◌-◌, ◌<◌, ◌≤◌, ◌⊎◌, inl, inr, List, [], ◌∷◌, Option, None, Some, refl, sym, subst, arith}
use Rattle.std.proofs.Math.Decide.{dec_le, dec_lt}
use Rattle.std.specs.List.{Any, Contains}
use Rattle.page_json.proofs.ObjectMembersLemmas.DecisionsLemmas.{any, both, turn}
use Rattle.lc_model.specs.Journey.{AreRides, IsJourney, IsLeastArrival, alight_of, arrival_of_rides, arrives_at, board_of, departure_of}
use Rattle.lc_model.specs.Question.{latest_of}
use Rattle.lc_model.specs.Ride.{IsRideAt}
use Rattle.lc_model.specs.Walk.{IsWalkAfter, IsWalkBefore, seconds_of}
use Rattle.lc_model.specs.declared.doc.StopsDoc.{StopsDoc}
use Rattle.lc_model.specs.declared.journey.Journey.{Journey}
use Rattle.lc_model.specs.declared.query.Query.{Query}
use Rattle.lc_model.specs.declared.ride.Ride.{Ride}
use Rattle.lc_model.specs.declared.walk.Walk.{Walk}
use Rattle.lc_model.proofs.WalksLemmas.{one_walk_after, one_walk_before}
use Rattle.convoy.specs.PageLaws.Least.{SomeLeastArrival}
use Rattle.convoy.proofs.PageLawsLemmas.JourneysLemmas.{goes_over}
use Rattle.convoy.proofs.PageLawsLemmas.LeadsOnLemmas.{IsOf, LeadsOn, last_of, leads_on}
use Rattle.convoy.proofs.PageLawsLemmas.ListedLemmas.{Listed, rides_of}
use Rattle.convoy.proofs.PageLawsLemmas.NearestLemmas.{walk_after, walk_before}

-- the last of the rides says where and when they alight
alights : (ride : Ride) (rest : List Ride) → (last_of ride rest).alight ≡ alight_of (ride ∷ rest)
alights ride [] = refl
alights ride (next ∷ rest) = alights next rest

arrives : (ride : Ride) (rest : List Ride) → (last_of ride rest).arr ≡ arrival_of_rides (ride ∷ rest)
arrives ride [] = refl
arrives ride (next ∷ rest) = arrives next rest

-- at most one walk is so, and where it is known whether one is, it is known whether that one is more than this
such : (IsSo AsWell : Option Walk → Type 0) → ((a b : Option Walk) → IsSo a → IsSo b → a ≡ b) → ((walk : Option Walk) → Dec (AsWell walk)) → Dec ((walk : Option Walk) × IsSo walk)
    → Dec ((walk : Option Walk) × IsSo walk × AsWell walk)
such IsSo AsWell one each (no none) = no (λ h. none (h.0, h.1))
such IsSo AsWell one each (yes so) =
    turn (λ as_well. (so.0, so.1, as_well)) (λ h. subst AsWell (one h.0 so.0 h.1 so.1) h.2) (each so.0)

module _ (query : Query) (doc : StopsDoc) where
  -- a journey may begin with the ride
  abbrev MayBegin : Ride → Type 0
  MayBegin ride = (before : Option Walk) × IsWalkBefore query doc ride.board before × (query.leave ≤ ride.dep - seconds_of before)

  may_begin : (ride : Ride) → Dec (MayBegin ride)
  may_begin ride =
      such (IsWalkBefore query doc ride.board) (λ before. query.leave ≤ ride.dep - seconds_of before) (one_walk_before query doc ride.board)
      (λ before. dec_le query.leave (ride.dep - seconds_of before)) (walk_before query doc ride.board)

  -- the moment is within the horizon, and the one given or earlier
  record IsBy (by moment : ℕ) : Type 0 where
    in_time : moment ≤ latest_of query
    by_then : moment ≤ by

  is_by : (by moment : ℕ) → Dec (IsBy by moment)
  is_by by moment =
      turn (λ two. record { in_time = two.0; by_then = two.1 }) (λ (is : IsBy by moment). (is.in_time, is.by_then)) (both (dec_le moment (latest_of query)) (dec_le moment by))

  -- a journey may end with the ride, and arrives by the moment
  abbrev MayEnd : ℕ → Ride → Type 0
  MayEnd by ride = (after : Option Walk) × IsWalkAfter query doc ride.alight after × IsBy by (ride.arr + seconds_of after)

  may_end : (by : ℕ) (ride : Ride) → Dec (MayEnd by ride)
  may_end by ride =
      such (IsWalkAfter query doc ride.alight) (λ after. IsBy by (ride.arr + seconds_of after)) (one_walk_after query doc ride.alight)
      (λ after. is_by by (ride.arr + seconds_of after)) (walk_after query doc ride.alight)

  module _ (IsRide : Ride → Type 0) (rides : Listed IsRide) where
    -- a journey arrives by the moment
    record ArrivesBy (by : ℕ) : Type 0 where
      journey : Journey
      is : IsJourney IsRide query doc journey
      by_then : arrives_at journey ≤ by

    -- a journey begins with the ride and arrives by the moment
    abbrev Leads : ℕ → Ride → Type 0
    Leads by ride = MayBegin ride × LeadsOn doc rides.items (MayEnd by) ride

    from_journey : (by : ℕ) (before after : Option Walk) (list : List Ride) → AreRides IsRide doc list → IsWalkBefore query doc (board_of list) before
        → query.leave ≤ departure_of list - seconds_of before → IsWalkAfter query doc (alight_of list) after → IsBy by (arrival_of_rides list + seconds_of after)
        → Any (Leads by) rides.items
    from_journey by before after [] are begins not_early ends arrives_then = absurd are
    from_journey by before after (ride ∷ rest) are begins not_early ends arrives_then =
        let inside = rides.complete ride are.0 in
        let leads : LeadsOn doc rides.items (MayEnd by) ride = record {
          rest = rest;
          goes = goes_over IsRide (IsOf rides.items) doc ride rest rides.complete are.1;
          ends = (
            after,
            subst (λ stop. IsWalkAfter query doc stop after) (sym (alights ride rest)) ends,
            subst (λ moment. IsBy by (moment + seconds_of after)) (sym (arrives ride rest)) arrives_then,
          );
        } in
        (inside.0, ride, inside.1, inside.2, ((before, begins, not_early), leads))

    to_journey : (by : ℕ) (ride : Ride) → Contains rides.items ride → MayBegin ride → LeadsOn doc rides.items (MayEnd by) ride → ArrivesBy by
    to_journey by ride inside begins leads =
        let ends = leads.ends in
        let arrives_then = subst (λ moment. IsBy by (moment + seconds_of ends.0)) (arrives ride leads.rest) ends.2 in
        record {
          journey = record { before = begins.0; rides = ride ∷ leads.rest; after = ends.0; not_empty = λ e. cc };
          is = record {
            are_rides = (rides.sound ride inside, goes_over (IsOf rides.items) IsRide doc ride leads.rest rides.sound leads.goes);
            begins = begins.1;
            not_early = begins.2;
            ends = subst (λ stop. IsWalkAfter query doc stop ends.0) (alights ride leads.rest) ends.1;
            in_time = arrives_then.in_time;
          };
          by_then = arrives_then.by_then;
        }

    arrives_by : (by : ℕ) → Dec (ArrivesBy by)
    arrives_by by =
        turn
        (λ h. to_journey by h.1 (h.0, h.2, h.3) h.4.0 h.4.1)
        (λ (a : ArrivesBy by).
        let journey = a.journey in
        let is = a.is in
        from_journey by journey.before journey.after journey.rides is.are_rides is.begins is.not_early is.ends (record { in_time = is.in_time; by_then = a.by_then }))
        (any (Leads by) (λ ride. both (may_begin ride) (leads_on doc rides.items (MayEnd by) (may_end by) ride)) rides.items)

    -- no journey arrives before the moment
    abbrev NoneBefore : ℕ → Type 0
    NoneBefore moment = (journey : Journey) → IsJourney IsRide query doc journey → arrives_at journey < moment → ⊥

    -- no journey arrives before the moment, or the least arrival is found
    abbrev Sought : ℕ → Type 0
    Sought moment = NoneBefore moment ⊎ ((best : Option ℕ) × IsLeastArrival IsRide query doc best)

    -- one moment more
    at : (moment : ℕ) → NoneBefore moment → Dec (ArrivesBy moment) → Sought (suc moment)
    at moment none (no never) = inl (λ journey is early. never (record { journey = journey; is = is; by_then = omega arith }))
    at moment none (yes a) =
        let then = a.by_then in
        inr (
          Some (arrives_at a.journey),
          (
            (a.journey, a.is, refl),
            λ journey is. elim (dec_lt (arrives_at journey) moment) [
              | yes early ↦ absurd (none journey is early)
              | no late ↦ omega (arith, late)
            ],
          ),
        )

    sought : (moment : ℕ) → Sought moment
    sought zero = inl (λ journey is early. omega arith)
    sought (suc moment) = elim (sought moment) [ inl none ↦ at moment none (arrives_by moment) | inr found ↦ inr found ]

    least : (best : Option ℕ) × IsLeastArrival IsRide query doc best
    least = elim (sought (suc (latest_of query))) [
      | inl none ↦ (None, λ journey is. let then = is.in_time in none journey is (omega arith))
      | inr found ↦ found
    ]

pub some_least_arrival : SomeLeastArrival
some_least_arrival runs query doc = least query doc (IsRideAt runs) (rides_of runs)
