-- Which ends of a client of the fewest rides are right by the small feed with a direct trip.
use Rattle.std.proofs.Common.{◌≡◌, ◌∙◌, ◌+◌, ◌<◌, ◌≤◌, ℕ, suc, inl, List, [], ◌∷◌, Bool, true, false, Some, None, ap, arith, codes, cond, drop, get_or, length, lit<, lit≤, refl, subst, sym}
use Rattle.std.specs.List.{All, list_all}
use Rattle.std.proofs.lemmas.List.Elements.{All-cons, All-nil}
use Rattle.std.proofs.lemmas.List.Kept.{AllPairs-cons}
use Rattle.std.proofs.lemmas.List.Sums.{AllPass-from_list_all}
use Rattle.std.proofs.lemmas.Slice.Eq.{bytes_eq-Decides}
use Rattle.cli_ask.specs.Publishing.{side_with, store_of}
use Rattle.cli_words.specs.declared.command.Publishing.{Publishing}
use Rattle.rounds_client.specs.Ends.Version.{FewestAt}
use Rattle.lc_model.specs.Change.{is_same_id}
use Rattle.lc_model.specs.Journey.{AreRides, IsBest, IsJourney, alight_of, arrival_of_rides, arrives_at, board_of}
use Rattle.lc_model.specs.Ride.{IsRideAt}
use Rattle.lc_model.specs.Run.{InKeyOrder, RunsForward}
use Rattle.lc_model.specs.declared.answer.Answer.TheVariants as answers
use Rattle.lc_model.specs.declared.call.Call.{Call}
use Rattle.lc_model.specs.declared.doc.StopsDoc.{StopsDoc}
use Rattle.lc_model.specs.declared.journey.Journey.{Journey}
use Rattle.lc_model.specs.declared.moment.TheConstants.{MOMENTS_END}
use Rattle.lc_model.specs.declared.ride.Ride.{Ride}
use Rattle.lc_model.specs.declared.run.Run.{Run}
use Rattle.lc_model.proofs.OneValueLemmas.{documents_are_one}
use Rattle.lc_time.specs.declared.zone.Zone.TheVariants.{Utc}
use Rattle.lc_model.specs.Versions.Timetable.{AreLiveRuns}
use Rattle.live_calls.specs.Laws.{LiveWithoutNews, RunsAreLive, RunsOnTime}
use Rattle.lc_world.specs.Sides.Side.{Side}
use Rattle.timetable.specs.Tiny.{call, key_of, moment, run_of}
use Rattle.timetable.specs.declared.timetable.Timetable.{Timetable}
use Rattle.lc_cli.specs.NearHeadline.{end_of}
use Rattle.lc_cli.specs.Tiny.{IsMadeOf, from_a_to_d, ride_of, to_b, to_d_at, worked}
use Rattle.lc_cli.specs.WorkedQuestions.{EndBest, EndFewest, EndFewestAtOneVersion, EndNotFewest, EndsFewestWith, HasDirect, IsNoFewestEnd, direct, with_direct}
use Rattle.lc_cli.proofs.NearFewestLemmas.{one_answer}
use Rattle.lc_cli.proofs.TinyLemmas.{KeyBefore, RunForward, arrives_after, arrives_with_rides, at_stop, begins_there, call_passes, doc, ends_there, forward, from_first, in_order, journeys_after, just_before, rides_after, rides_make, rides_to_b, rides_to_d, run_at, runs, runs_on_time, the_worked, two_on_time, two_run, walks_nowhere}

abbrev direct_run : ℕ → Run
direct_run arr = get_or (with_direct arr) 0 (run_of [] [])

-- a ride of the small feed is one beside the direct trip too
rides_beside : (arr : ℕ) (ride : Ride) → IsRideAt runs ride → IsRideAt (with_direct arr) ride
rides_beside arr ride (place, run, inside, stands, rides) = (suc place, run, omega (arith, inside), stands, rides)

module _ (arr : ℕ) where
  -- the direct ride is a journey
  rides_direct : AreRides (IsRideAt (with_direct arr)) doc (direct arr)
  rides_direct = ((0, direct_run arr, lit< tt, refl, from_first (key_of (codes "T0")) (call (codes "A") 1 (moment 8 0) (moment 8 0)) (call (codes "D") 2 arr arr) [] refl refl), tt)

  direct_goes : arr ≤ moment 8 0 + 86_400 → (journey : Journey) → IsMadeOf None (direct arr) None journey → IsJourney (IsRideAt (with_direct arr)) from_a_to_d doc journey
  direct_goes soon journey made = walks_nowhere (IsRideAt (with_direct arr)) from_a_to_d doc (direct arr) journey made rides_direct (inl refl) (lit≤ tt) (inl refl) soon

  -- and so are the worked rides
  worked_goes : (journey : Journey) → IsMadeOf None worked None journey → IsJourney (IsRideAt (with_direct arr)) from_a_to_d doc journey
  worked_goes journey made =
      walks_nowhere (IsRideAt (with_direct arr)) from_a_to_d doc worked journey made (rides_beside arr to_b rides_to_b, (rides_beside arr (to_d_at (moment 8 31)) rides_to_d, lit≤ tt, tt)) (inl refl) (lit≤ tt)
      (inl refl) (lit≤ tt)

  -- a journey that arrives at 08:31 is best where no call is at D before
  best_at_831 : list_all (λ (r : Run). list_all (arrives_after (codes "D") just_before) r.calls) (with_direct arr) ≡ true → (rides : List Ride) → arrival_of_rides rides ≡ moment 8 31 → (journey : Journey)
      → IsMadeOf None rides None journey → IsJourney (IsRideAt (with_direct arr)) from_a_to_d doc journey → IsBest (IsRideAt (with_direct arr)) from_a_to_d doc journey
  best_at_831 late rides at_831 journey made goes = record {
    is_journey = goes;
    is_earliest = λ other is.
        let after : just_before < arrives_at other = journeys_after (IsRideAt (with_direct arr)) from_a_to_d just_before (rides_after (with_direct arr) (codes "D") just_before late) other is in
        let here : arrives_at journey ≡ arrival_of_rides rides = arrives_with_rides None rides journey made in
        omega (arith, after, here, at_831);
  }

  -- the runs with the direct trip go forward, in the order of their keys, and are on time
  direct_forward : moment 8 0 ≤ arr → RunsForward (with_direct arr)
  direct_forward along = All-cons RunForward (direct_run arr) runs (two_run (codes "T0") (codes "A") (codes "D") (moment 8 0) arr along) forward

  direct_in_order : InKeyOrder (with_direct arr)
  direct_in_order =
      AllPairs-cons KeyBefore (direct_run arr) runs (All-cons (KeyBefore (direct_run arr)) (run_at 0) (drop 1 runs) refl (All-cons (KeyBefore (direct_run arr)) (run_at 1) (drop 2 runs) refl
      (All-cons (KeyBefore (direct_run arr)) (run_at 2) (drop 3 runs) refl (All-cons (KeyBefore (direct_run arr)) (run_at 3) (drop 4 runs) refl
      (All-cons (KeyBefore (direct_run arr)) (run_at 4) [] refl (All-nil (KeyBefore (direct_run arr)))))))) in_order

  direct_on_time : moment 8 0 ≤ arr → arr < MOMENTS_END → All RunsOnTime (with_direct arr)
  direct_on_time along in_range = All-cons RunsOnTime (direct_run arr) runs (record {
    forward = two_run (codes "T0") (codes "A") (codes "D") (moment 8 0) arr along;
    on_time = two_on_time (codes "A") 1 (moment 8 0) (moment 8 0) (codes "D") 2 arr (lit< tt) (lit< tt) in_range;
  }) runs_on_time

  -- a timetable with them
  abbrev made_with : moment 8 0 ≤ arr → Timetable
  made_with along = record { zone = Utc; runs = with_direct arr; connections = 7; doc = doc; trips = 6; left_out = 0; forward = direct_forward along }

  is_made_with : (along : moment 8 0 ≤ arr) → HasDirect arr (made_with along)
  is_made_with along = record { runs = refl; stops = refl; changes = refl }

module _ (are_live : RunsAreLive) (arr : ℕ) (along : moment 8 0 ≤ arr) (in_range : arr < MOMENTS_END) where
  -- best rides that have the fewest rides are the end of a client of the fewest rides
  ends_fewest : (rides : List Ride) → ((journey : Journey) → IsMadeOf None rides None journey → IsBest (IsRideAt (with_direct arr)) from_a_to_d doc journey)
      → ((other : Journey) → IsBest (IsRideAt (with_direct arr)) from_a_to_d doc other → length rides ≤ length other.rides) → EndFewest arr rides
  ends_fewest rides best fewest journey made publishing = (
    made_with arr along,
    is_made_with arr along,
    record {
      version_is = refl;
      answer = Some journey;
      is_fewest = record {
        live = with_direct arr;
        are_live = are_live (with_direct arr) doc.stops (direct_in_order arr) (direct_on_time arr along in_range);
        is_fewest = record {
          is_best = best journey made;
          has_fewest = λ other other_best. subst (λ (list : List Ride). length list ≤ length other.rides) (sym made.rides_are) (fewest other other_best);
        };
      };
      outcome_is = refl;
    },
  )

  -- and best rides are that of a client of `ask`
  ends_best : (rides : List Ride) → ((journey : Journey) → IsMadeOf None rides None journey → IsBest (IsRideAt (with_direct arr)) from_a_to_d doc journey) → EndBest arr rides
  ends_best rides best journey made publishing = (
    made_with arr along,
    is_made_with arr along,
    record {
      version_is = refl;
      answer = answers.Journey journey;
      is_best = record {
        live = with_direct arr;
        are_live = are_live (with_direct arr) doc.stops (direct_in_order arr) (direct_on_time arr along in_range);
        is_answer = best journey made;
      };
      outcome_is = refl;
    },
  )

module _ (without : LiveWithoutNews) (arr : ℕ) (along : moment 8 0 ≤ arr) (in_range : arr < MOMENTS_END) (publishing : Publishing) where
  module _ (made : Timetable) (is : HasDirect arr made) where
    -- by each such timetable the live runs are its runs, and its document is that of the small feed
    live_beside : (live : List Run) → AreLiveRuns made.runs made.doc.stops [] live → live ≡ with_direct arr
    live_beside live are =
        without (with_direct arr) made.doc.stops live (direct_in_order arr) (direct_on_time arr along in_range) (subst (λ (r : List Run). AreLiveRuns r made.doc.stops [] live) is.runs are)

    doc_beside : made.doc ≡ doc
    doc_beside = documents_are_one made.doc doc is.stops is.changes

  -- what a client of the fewest rides ends with is best, with the fewest rides
  by_its_runs : (version : ℕ) (journey : Journey) → EndsFewestWith arr publishing (end_of version (answers.Journey journey))
      → IsBest (IsRideAt (with_direct arr)) from_a_to_d doc journey × ((other : Journey) → IsBest (IsRideAt (with_direct arr)) from_a_to_d doc other → length journey.rides ≤ length other.rides)
  by_its_runs version journey (made, is, ends) =
      let side : Side = side_with made publishing (store_of made publishing.base_moment) in
      let at : FewestAt side publishing.base_moment from_a_to_d (Some journey) =
      subst (FewestAt side publishing.base_moment from_a_to_d) (one_answer ends.answer (Some journey) (sym ends.outcome_is)) ends.is_fewest in
      let live : at.live ≡ with_direct arr = live_beside made is at.live at.are_live in
      let same : made.doc ≡ doc = doc_beside made is in (
        subst (λ (d : StopsDoc). IsBest (IsRideAt (with_direct arr)) from_a_to_d d journey) same (subst (λ (r : List Run). IsBest (IsRideAt r) from_a_to_d made.doc journey) live at.is_fewest.is_best),
        λ other best. at.is_fewest.has_fewest other (subst (λ (r : List Run). IsBest (IsRideAt r) from_a_to_d made.doc other) (sym live)
            (subst (λ (d : StopsDoc). IsBest (IsRideAt (with_direct arr)) from_a_to_d d other) (sym same) best)),
      )

  -- where there is a journey, such a client ends with one
  not_none : (version : ℕ) (journey : Journey) → IsJourney (IsRideAt (with_direct arr)) from_a_to_d doc journey → EndsFewestWith arr publishing (end_of version answers.NoJourney) → ⊥
  not_none version journey goes (made, is, ends) =
      let side : Side = side_with made publishing (store_of made publishing.base_moment) in
      let at : FewestAt side publishing.base_moment from_a_to_d None =
      subst (FewestAt side publishing.base_moment from_a_to_d) (one_answer ends.answer None (sym ends.outcome_is)) ends.is_fewest in
      let live : at.live ≡ with_direct arr = live_beside made is at.live at.are_live in
      at.is_fewest journey (subst (λ (r : List Run). IsJourney (IsRideAt r) from_a_to_d made.doc journey) (sym live)
      (subst (λ (d : StopsDoc). IsJourney (IsRideAt (with_direct arr)) from_a_to_d d journey) (sym (doc_beside made is)) goes))

-- the moments at which the direct trip arrives
abbrev in_time : ℕ
in_time = moment 8 31

abbrev too_late : ℕ
too_late = moment 8 31 + 1

-- the direct ride is best where it arrives in time
direct_is_best : (journey : Journey) → IsMadeOf None (direct in_time) None journey → IsBest (IsRideAt (with_direct in_time)) from_a_to_d doc journey
direct_is_best journey made = best_at_831 in_time refl (direct in_time) refl journey made (direct_goes in_time (lit≤ tt) journey made)

-- and the worked rides are, where no trip is earlier
worked_is_best : (arr : ℕ) → list_all (λ (r : Run). list_all (arrives_after (codes "D") just_before) r.calls) (with_direct arr) ≡ true → (journey : Journey)
    → IsMadeOf None worked None journey → IsBest (IsRideAt (with_direct arr)) from_a_to_d doc journey
worked_is_best arr late journey made = best_at_831 arr late worked refl journey made (worked_goes arr journey made)

-- a journey has a ride
one_at_least : (IsRide : Ride → Type 0) (rides : List Ride) → AreRides IsRide doc rides → 1 ≤ length rides
one_at_least IsRide [] are = absurd are
one_at_least IsRide (first ∷ rest) are = omega arith

pub takes_one_ride : RunsAreLive → EndFewest (moment 8 31) (direct (moment 8 31))
takes_one_ride are_live =
    ends_fewest are_live in_time (lit≤ tt) (lit< tt) (direct in_time) direct_is_best (λ other best. one_at_least (IsRideAt (with_direct in_time)) other.rides best.is_journey.are_rides)

pub has_two_best_rides : RunsAreLive → EndBest (moment 8 31) worked
has_two_best_rides are_live = ends_best are_live in_time (lit≤ tt) (lit< tt) worked (worked_is_best in_time refl)

-- the direct ride as a journey
abbrev the_direct : (arr : ℕ) → (journey : Journey) × IsMadeOf None (direct arr) None journey
the_direct arr = rides_make (ride_of (codes "T0") (codes "A") (moment 8 0) (codes "D") arr) [] None None

pub refuses_a_ride_more : LiveWithoutNews → EndNotFewest (moment 8 31) worked
refuses_a_ride_more without journey made publishing version ends =
    let fewest = (by_its_runs without in_time (lit≤ tt) (lit< tt) publishing version journey ends).1 in
    let at_most : length journey.rides ≤ length (the_direct in_time).0.rides = fewest (the_direct in_time).0 (direct_is_best (the_direct in_time).0 (the_direct in_time).1) in
    let one : length (the_direct in_time).0.rides ≡ 1 = ap (λ (list : List Ride). length list) (the_direct in_time).1.rides_are in
    let two : length journey.rides ≡ 2 = ap (λ (list : List Ride). length list) made.rides_are in
    omega (arith, at_most, one, two)

-- the worked rides as a journey
abbrev is_the_worked : IsMadeOf None worked None the_worked
is_the_worked = (rides_make to_b (to_d_at (moment 8 31) ∷ []) None None).1

pub refuses_no_journey : LiveWithoutNews → IsNoFewestEnd (moment 8 31) answers.NoJourney
refuses_no_journey without publishing version ends = not_none without in_time (lit≤ tt) (lit< tt) publishing version the_worked (worked_goes in_time the_worked is_the_worked) ends

pub at_one_version : EndFewestAtOneVersion (moment 8 31)
at_one_version publishing version answer (made, is, ends) = let same : Some version ≡ Some publishing.base_moment = ends.version_is in cc

pub refuses_a_ride_fewer : LiveWithoutNews → EndNotFewest (moment 8 31 + 1) (direct (moment 8 31 + 1))
refuses_a_ride_fewer without journey made publishing version ends =
    let best = (by_its_runs without too_late (lit≤ tt) (lit< tt) publishing version journey ends).0 in
    let earliest : arrives_at journey ≤ arrives_at the_worked = best.is_earliest the_worked (worked_goes too_late the_worked is_the_worked) in
    let here : arrives_at journey ≡ moment 8 31 + 1 = arrives_with_rides None (direct too_late) journey made in
    let there : arrives_at the_worked ≡ moment 8 31 = arrives_with_rides None worked the_worked is_the_worked in
    omega (arith, earliest, here, there)

-- a run that calls at A is not at D by 08:31
abbrev is_slow : Run → Call → Bool
is_slow run call = cond (is_same_id call.stop (codes "A")) (list_all (arrives_after (codes "D") (moment 8 31)) run.calls) true

-- where a test holds, so does what it guards
where_it_is : (is_here then : Bool) → cond is_here then true ≡ true → is_here ≡ true → then ≡ true
where_it_is true then passes is = passes
where_it_is false then passes is = absurd (cc)

-- so one ride from A to D arrives after 08:31, where the direct one does
slow : (ride : Ride) → IsRideAt (with_direct too_late) ride → ride.board ≡ codes "A" → ride.alight ≡ codes "D" → moment 8 31 < ride.arr
slow ride (place, run, inside, stands, rides) from to =
    let of_run : list_all (is_slow run) run.calls ≡ true =
    subst (λ (r : Run). list_all (is_slow r) r.calls ≡ true) stands (AllPass-from_list_all (λ (r : Run). list_all (is_slow r) r.calls) (with_direct too_late) refl place run inside) in
    let boards : rides.boards.stop ≡ codes "A" = sym (ap (λ (r : Ride). r.board) rides.is_ride) ∙ from in
    let calls : list_all (arrives_after (codes "D") (moment 8 31)) run.calls ≡ true =
    where_it_is (is_same_id rides.boards.stop (codes "A")) (list_all (arrives_after (codes "D") (moment 8 31)) run.calls) (call_passes (is_slow run) run rides.boards_at rides.boards of_run rides.is_boards)
    ((bytes_eq-Decides rides.boards.stop (codes "A")).1 boards) in
    subst (λ (v : ℕ). moment 8 31 < v) (sym (ap (λ (r : Ride). r.arr) rides.is_ride))
    (at_stop rides.alights.stop (codes "D") (moment 8 31) rides.alights.arr (call_passes (arrives_after (codes "D") (moment 8 31)) run (suc rides.last_at) rides.alights calls rides.is_alights)
    (sym (ap (λ (r : Ride). r.alight) rides.is_ride) ∙ to))

-- so rides from A to D by 08:31 are two at least
two_at_least : (rides : List Ride) → AreRides (IsRideAt (with_direct too_late)) doc rides → board_of rides ≡ codes "A" → alight_of rides ≡ codes "D" → arrival_of_rides rides ≤ moment 8 31 → 2 ≤ length rides
two_at_least [] are from to soon = absurd are
two_at_least (ride ∷ []) are from to soon = let late : moment 8 31 < ride.arr = slow ride are.0 from to in absurd (omega (arith, late, soon))
two_at_least (ride ∷ next ∷ rest) are from to soon = omega arith

best_has_two : (other : Journey) → IsBest (IsRideAt (with_direct too_late)) from_a_to_d doc other → 2 ≤ length other.rides
best_has_two other best =
    let begins = begins_there from_a_to_d other.rides other.before best.is_journey.begins in
    let ends = ends_there from_a_to_d other.rides other.after best.is_journey.ends in
    let earliest : arrives_at other ≤ arrives_at the_worked = best.is_earliest the_worked (worked_goes too_late the_worked is_the_worked) in
    let there : arrives_at the_worked ≡ moment 8 31 = arrives_with_rides None worked the_worked is_the_worked in
    two_at_least other.rides best.is_journey.are_rides begins.0 ends.0 (omega (arith, earliest, there))

pub takes_two_rides : RunsAreLive → EndFewest (moment 8 31 + 1) worked
takes_two_rides are_live = ends_fewest are_live too_late (lit≤ tt) (lit< tt) worked (worked_is_best too_late refl) best_has_two
