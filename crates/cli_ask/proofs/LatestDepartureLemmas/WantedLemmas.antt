-- The journeys of a question have a latest departure. So a valid side has the pages that a question for it wants.
use Rattle.std.proofs.Common.{ℕ, zero, suc, ◌+◌, ◌-◌, ◌≤◌, max, ◌⊎◌, inl, inr, List, [], ◌∷◌, Option, None, Some, refl, arith}
use Rattle.std.proofs.Math.Decide.{dec_le}
use Rattle.std.proofs.Math.Nat.{le_trans}
use Rattle.back_scan.specs.Forward.{forward_query}
use Rattle.back_scan.specs.Latest.{IsLatestDeparture}
use Rattle.back_scan.specs.declared.arrive_query.ArriveQuery.{ArriveQuery}
use Rattle.cli_ask.specs.LatestDeparture.Laws.{SomeWanted}
use Rattle.cli_ask.proofs.WantsLemmas.{has_ends}
use Rattle.back_client.specs.Ends.Requests.{AreWanted}
use Rattle.back_client.specs.Ends.NeededBack.{needed_pages_back}
use Rattle.convoy.specs.ClientLaws.Answered.{names_at}
use Rattle.convoy.specs.ClientLaws.Wants.{HasEnds}
use Rattle.convoy.proofs.ClientLawsLemmas.PublishedLemmas.{is_lawful, is_timetable, made_of}
use Rattle.convoy.specs.PageLaws.Least.{SomeLeastArrival}
use Rattle.convoy.proofs.PageLawsLemmas.JourneysLemmas.{journey_is_chain, waits}
use Rattle.convoy.proofs.PageLawsLemmas.LegLemmas.{in_time_forward, in_time_in_order, leg_goes_forward}
use Rattle.lc_model.specs.Change.{change_between}
use Rattle.lc_model.specs.Journey.{AreRides, GoesOn, IsJourney, IsLeastArrival, arrival_of_rides, arrives_at, departure_of, leaves_at}
use Rattle.lc_model.specs.Leg.{IsLegOf, in_time}
use Rattle.lc_model.specs.Question.{latest_of}
use Rattle.lc_model.specs.Ride.{IsRideAt}
use Rattle.lc_model.specs.Walk.{seconds_of}
use Rattle.lc_model.specs.declared.doc.StopsDoc.{StopsDoc}
use Rattle.lc_model.specs.declared.journey.Journey.{Journey}
use Rattle.lc_model.specs.declared.page.PageName.{PageName}
use Rattle.lc_model.specs.declared.query.Query.{Query}
use Rattle.lc_model.specs.declared.query.TheConstants.{LAST_LEAVE}
use Rattle.lc_model.specs.declared.ride.Ride.{Ride}
use Rattle.lc_model.specs.declared.run.Run.{Run}
use Rattle.lc_model.specs.Versions.Pages.{CutPage}
use Rattle.page_client.specs.Shown.{HasHorizon}
use Rattle.publisher.specs.Laws.{SomeTimetable}
use Rattle.lc_world.specs.Sides.Side.{IsValidSide, Side}

-- ---- a journey leaves no later than its last second

module _ (IsRide : Ride → Type 0) (doc : StopsDoc) (forward : (ride : Ride) → IsRide ride → ride.dep ≤ ride.arr) where
  goes_to_end : (ride : Ride) (rest : List Ride) → IsRide ride → GoesOn IsRide doc ride rest → ride.dep ≤ arrival_of_rides (ride ∷ rest)
  goes_to_end ride [] is goes = forward ride is
  goes_to_end ride (next ∷ rest) is goes =
      let own : ride.dep ≤ ride.arr = forward ride is in
      let waited : ride.arr ≤ next.dep = waits (change_between doc.changes ride.alight next.board) ride.arr next.dep goes.1 in
      let onward = goes_to_end next rest goes.0 goes.2 in
      omega (arith, onward)

  to_end : (rides : List Ride) → AreRides IsRide doc rides → departure_of rides ≤ arrival_of_rides rides
  to_end [] are = absurd are
  to_end (ride ∷ rest) are = goes_to_end ride rest are.0 are.1

less_walks : (departure before arrival after latest : ℕ) → departure ≤ arrival → arrival + after ≤ latest → departure - before ≤ latest
less_walks departure before arrival after latest goes in_time = omega arith

-- ---- a latest departure

up_to : (moment latest arrives : ℕ) → moment ≤ latest → arrives ≤ latest → arrives ≤ moment + (latest - moment)
up_to moment latest arrives by in_time = omega arith

back_to : (moment latest arrives : ℕ) → moment ≤ latest → arrives ≤ moment + (latest - moment) → arrives ≤ latest
back_to moment latest arrives by in_time = omega arith

module _ (some_least_arrival : SomeLeastArrival) (runs : List Run) (query : Query) (doc : StopsDoc) (by_then : latest_of query ≤ LAST_LEAVE) where
  -- the question that leaves at a moment or later, and has the same last second
  abbrev from_moment : (moment : ℕ) → query.leave ≤ moment → moment ≤ latest_of query → Query
  from_moment moment not_early within = record {
    from = query.from;
    to = query.to;
    leave = moment;
    known = query.known;
    horizon = latest_of query - moment;
    not_before = le_trans query.not_before not_early;
    not_after = le_trans within by_then;
  }

  -- a journey leaves at the moment or later
  record LeavesFrom (moment : ℕ) : Type 0 where
    journey : Journey
    is : IsJourney (IsRideAt runs) query doc journey
    late : moment ≤ leaves_at journey

  -- That is known, since it is known whether the question that leaves then has a journey.
  by_least : (moment : ℕ) (not_early : query.leave ≤ moment) (within : moment ≤ latest_of query) (best : Option ℕ)
      → IsLeastArrival (IsRideAt runs) (from_moment moment not_early within) doc best → Dec (LeavesFrom moment)
  by_least moment not_early within None none =
      no (λ (l : LeavesFrom moment).
      let is = l.is in
      none l.journey (record {
        are_rides = is.are_rides;
        begins = is.begins;
        not_early = l.late;
        ends = is.ends;
        in_time = up_to moment (latest_of query) (arrives_at l.journey) within is.in_time;
      }))
  by_least moment not_early within (Some best) ((journey, is, at), least) =
      yes (record {
        journey = journey;
        is = record {
          are_rides = is.are_rides;
          begins = is.begins;
          not_early = le_trans not_early is.not_early;
          ends = is.ends;
          in_time = back_to moment (latest_of query) (arrives_at journey) within is.in_time;
        };
        late = is.not_early;
      })

  leaves_from : (moment : ℕ) → query.leave ≤ moment → moment ≤ latest_of query → Dec (LeavesFrom moment)
  leaves_from moment not_early within =
      let least = some_least_arrival runs (from_moment moment not_early within) doc in
      by_least moment not_early within least.0 least.1

  -- no journey leaves at the moment or later
  abbrev NoneFrom : ℕ → Type 0
  NoneFrom moment = (journey : Journey) → IsJourney (IsRideAt runs) query doc journey → moment ≤ leaves_at journey → ⊥

  abbrev Found : Type 0
  Found = (latest : Option ℕ) × IsLatestDeparture (IsRideAt runs) query doc latest

  -- one moment less
  at : (moment : ℕ) → NoneFrom (suc moment) → Dec (LeavesFrom moment) → NoneFrom moment ⊎ Found
  at moment none (no never) = inl (λ journey is late. never (record { journey = journey; is = is; late = late }))
  at moment none (yes l) =
      inr (
        Some (leaves_at l.journey),
        (
          (l.journey, l.is, refl),
          λ other is. elim (dec_le (leaves_at other) (leaves_at l.journey)) [
            | yes by ↦ by
            | no later ↦ let late = l.late in absurd (none other is (omega (arith, late, later)))
          ],
        ),
      )

  sought : (seconds : ℕ) → seconds ≤ suc query.horizon → NoneFrom (query.leave + seconds) → NoneFrom query.leave ⊎ Found
  sought zero within none = inl (λ journey is late. none journey is (omega arith))
  sought (suc seconds) within none =
      let above : NoneFrom (suc (query.leave + seconds)) = λ journey is late. none journey is (omega arith) in
      elim (at (query.leave + seconds) above (leaves_from (query.leave + seconds) (omega arith) (omega arith))) [
        | inl less ↦ sought seconds (omega arith) less
        | inr found ↦ inr found
      ]

  latest : NoneFrom (query.leave + suc query.horizon) → Found
  latest none = elim (sought (suc query.horizon) (omega arith) none) [
    | inl never ↦ (None, λ journey is. never journey is is.not_early)
    | inr found ↦ found
  ]

-- ---- the wanted pages

-- a question whose horizon is in range has its last second by then
ends_by : (arrive horizon last : ℕ) → horizon ≤ 604_800 → 1_468_800 ≤ arrive → arrive ≤ last → max 864_000 (arrive - horizon) + horizon ≤ last
ends_by arrive horizon last to not_before not_after = omega arith

beyond : (leave horizon leaves : ℕ) → leave + suc horizon ≤ leaves → leaves ≤ leave + horizon → ⊥
beyond leave horizon leaves late in_time = omega arith

module _ (some_timetable : SomeTimetable) (some_least_arrival : SomeLeastArrival) where
  module _ (side : Side) (version : ℕ) (asked : ArriveQuery) (valid : IsValidSide side) (horizon : HasHorizon (forward_query asked)) where
    needed : HasEnds side.doc (forward_query asked) → (names : List PageName) × AreWanted side version asked names
    needed ends =
        let query = forward_query asked in
        let some = some_timetable side version valid in
        let made = made_of side version some.0 some.1 in
        let published = made.published in
        let table = is_timetable side version published valid made.is_published in
        let lawful = is_lawful side version published valid made.is_published in
        let legs = in_time query published.list in
        let forward : (ride : Ride) → IsLegOf legs ride → ride.dep ≤ ride.arr =
        λ ride. leg_goes_forward legs ride (in_time_in_order query published.list lawful.pages.in_order) (in_time_forward query published.list lawful.forward) in
        let found = latest some_least_arrival published.live query side.doc (ends_by asked.arrive asked.horizon LAST_LEAVE horizon.up_to_a_week asked.not_before asked.not_after) (
        λ journey is late.
        let chain = journey_is_chain published.live published.list query side.doc journey table is in
        let goes = to_end (IsLegOf legs) side.doc forward journey.rides chain.are_rides in
        beyond query.leave query.horizon (leaves_at journey) late
        (less_walks (departure_of journey.rides) (seconds_of journey.before) (arrival_of_rides journey.rides) (seconds_of journey.after) (latest_of query) goes is.in_time)
        ) in
        let pages : List CutPage = needed_pages_back published.first published.rest query found.0 in (
          names_at version pages,
          inr (record {
            ends = ends;
            are_needed = record {
              published = published;
              is_published = made.is_published;
              needed = pages;
              are_needed = record { latest = found.0; is_latest = found.1; are = refl };
              names_are = refl;
            };
          }),
        )

    by_ends : Dec (HasEnds side.doc (forward_query asked)) → (names : List PageName) × AreWanted side version asked names
    by_ends (no lacks) = ([], inl (record { lacks = lacks; none = refl }))
    by_ends (yes ends) = needed ends

  pub some_wanted : SomeWanted
  some_wanted side version asked valid accepted = by_ends side version asked valid accepted.0 (has_ends side.doc (forward_query asked))
