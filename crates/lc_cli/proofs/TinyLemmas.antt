-- That the worked journey over the runs of the small feed is a best one.
use Rattle.std.proofs.Common.{◌≡◌, ℕ, suc, ◌+◌, ◌-◌, ◌<◌, ◌≤◌, inl, inr, List, [], ◌∷◌, drop, get_or, Option, Some, None, Bool, true, false, ◌&&◌, cond, nat_lt, map, sym, ap, ◌∙◌, subst, refl, arith, lit<, lit≤, codes}
use Rattle.std.specs.Prelude.{find, option_map}
use Rattle.std.proofs.lemmas.Bool.{and_parts, ltb-true}
use Rattle.std.proofs.lemmas.Slice.Eq.{bytes_eq-Decides}
use Rattle.std.specs.List.{All, AllPairs, list_all, slice_get}
use Rattle.std.specs.Option.{IfSome}
use Rattle.std.proofs.lemmas.List.{get_or_default}
use Rattle.std.proofs.lemmas.List.Elements.{All-cons, All-map, All-nil}
use Rattle.std.proofs.lemmas.List.Kept.{AllPairs-cons}
use Rattle.std.proofs.lemmas.List.Sums.{AllPass-from_list_all}
use Rattle.std.proofs.lemmas.Option.{slice_get_within, get_or_from_slice_get}
use Rattle.lc_model.specs.Call.{GoesForward}
use Rattle.lc_model.specs.Laws.{OneArrival, arrival_of}
use Rattle.lc_model.specs.Run.{InKeyOrder, RunsForward}
use Rattle.lc_model.specs.RunKey.{key_cmp}
use Rattle.std.specs.Ordering.{on}
use Rattle.std.specs.declared.cmp.Ordering.TheVariants.{Less}
use Rattle.lc_model.specs.declared.moment.TheConstants.{MOMENTS_END}
use Rattle.lc_model.specs.Versions.Timetable.{AreLiveRuns}
use Rattle.live_calls.specs.Laws.{IsOnTime, LiveWithoutNews, RunsAreLive, RunsOnTime}
use Rattle.cli_words.specs.declared.command.Publishing.{Publishing}
use Rattle.lc_model.specs.Change.{change_between, is_same_id}
use Rattle.lc_model.specs.Journey.{AreRides, GoesOn, IsAnswer, IsJourney, alight_of, arrival_of_rides, arrives_at, board_of, departure_of, leaves_at}
use Rattle.lc_model.specs.Question.{IsEnd, IsFrom, IsTo, latest_of}
use Rattle.lc_model.specs.Ride.{IsRideAt, IsRideOn}
use Rattle.lc_model.specs.Stop.{HasStop}
use Rattle.lc_model.specs.StopsDoc.{NamesItsStops}
use Rattle.lc_model.proofs.OneValueLemmas.{documents_are_one}
use Rattle.lc_time.specs.declared.zone.Zone.TheVariants.{Utc}
use Rattle.lc_model.specs.Walk.{IsWalkAfter, IsWalkBefore, seconds_of}
use Rattle.lc_model.specs.declared.answer.Answer.{Answer}
use Rattle.lc_model.specs.declared.answer.Answer.TheVariants as answers
use Rattle.lc_model.specs.declared.call.Call.{Call}
use Rattle.lc_model.specs.declared.change.Change.{Change}
use Rattle.lc_model.specs.declared.doc.StopsDoc.{StopsDoc}
use Rattle.lc_model.specs.declared.journey.Journey.{Journey}
use Rattle.lc_model.specs.declared.key.RunKey.{RunKey}
use Rattle.lc_model.specs.declared.query.Query.{Query}
use Rattle.lc_model.specs.declared.ride.Ride.{Ride}
use Rattle.lc_model.specs.declared.run.Run.{Run}
use Rattle.lc_model.specs.declared.stop.Stop.{Stop}
use Rattle.lc_model.specs.declared.walk.Walk.{Walk}
use Rattle.timetable.specs.Tiny.{IsTiny, call, change_at, key_of, moment, run_of, stop_ids, stop_named, tiny_changes, tiny_runs, tiny_stops}
use Rattle.timetable.specs.declared.timetable.Timetable.{Timetable}
use Rattle.lc_cli.specs.NearHeadline.{within}
use Rattle.lc_cli.specs.Tiny.{AnswersNever, AnswersTiny, AreJourneyBy, AreRefused, AreTaken, IsMadeOf, MakeJourneys, from_a_to_d, in_place, nine_minutes_late, to_b, to_d_at, to_d_later, worked}

-- each stop is one of the stops
each_known : (stops : List Stop) → All (λ (s : Stop). HasStop stops s.id) stops
each_known stops place d inside = (place, get_or stops place d, inside, get_or_default stops place _ d inside, refl)

-- the stops and the changes of the small feed name its stops
pub known : NamesItsStops tiny_stops tiny_changes
known = record {
  parents = All-map (λ (s : Stop). IfSome s.parent (HasStop tiny_stops)) stop_named stop_ids (λ place stop inside. tt);
  changes_from = All-map (λ (c : Change). HasStop tiny_stops c.from) change_at tiny_stops (each_known tiny_stops);
  changes_to = All-map (λ (c : Change). HasStop tiny_stops c.to) change_at tiny_stops (each_known tiny_stops);
}

abbrev pub runs : List Run
runs = tiny_runs

abbrev pub doc : StopsDoc
doc = record { stops = tiny_stops; changes = tiny_changes; closed = ∣ known ∣₁ }

abbrev SequenceRises : Call → Call → Type 0
SequenceRises x y = x.seq < y.seq

abbrev StaysForward : Call → Type 0
StaysForward x = x.arr ≤ x.dep

abbrev GoesOnForward : Call → Call → Type 0
GoesOnForward x y = x.dep ≤ y.arr

pairs_of_two : {X : Type 0} (R : X → X → Type 0) (a b : X) → R a b → AllPairs R (a ∷ b ∷ [])
pairs_of_two R a b r = AllPairs-cons R a (b ∷ []) (All-cons (R a) b [] r (All-nil (R a))) (AllPairs-cons R b [] (All-nil (R b)) (λ i j d before inside. absurd (omega (arith, inside))))

-- two calls that go forward, and three
two_forward : (a b : Call) → SequenceRises a b → StaysForward a → StaysForward b → GoesOnForward a b → GoesForward (a ∷ b ∷ [])
two_forward a b seq stay_a stay_b along = record {
  in_sequence = pairs_of_two SequenceRises a b seq;
  at_a_stop = All-cons StaysForward a (b ∷ []) stay_a (All-cons StaysForward b [] stay_b (All-nil StaysForward));
  along = pairs_of_two GoesOnForward a b along;
}

pairs_of_three : {X : Type 0} (R : X → X → Type 0) (a b c : X) → R a b → R a c → R b c → AllPairs R (a ∷ b ∷ c ∷ [])
pairs_of_three R a b c ab ac bc = AllPairs-cons R a (b ∷ c ∷ []) (All-cons (R a) b (c ∷ []) ab (All-cons (R a) c [] ac (All-nil (R a)))) (pairs_of_two R b c bc)

three_forward : (a b c : Call) → SequenceRises a b → SequenceRises a c → SequenceRises b c → StaysForward a → StaysForward b → StaysForward c → GoesOnForward a b → GoesOnForward a c → GoesOnForward b c
    → GoesForward (a ∷ b ∷ c ∷ [])
three_forward a b c ab ac bc stay_a stay_b stay_c along_ab along_ac along_bc = record {
  in_sequence = pairs_of_three SequenceRises a b c ab ac bc;
  at_a_stop = All-cons StaysForward a (b ∷ c ∷ []) stay_a (All-cons StaysForward b (c ∷ []) stay_b (All-cons StaysForward c [] stay_c (All-nil StaysForward)));
  along = pairs_of_three GoesOnForward a b c along_ab along_ac along_bc;
}

abbrev pub RunForward : Run → Type 0
RunForward run = GoesForward run.calls

pub two_run : (trip from to : List ℕ) (dep arr : ℕ) → dep ≤ arr → RunForward (run_of trip (call from 1 dep dep ∷ call to 2 arr arr ∷ []))
two_run trip from to dep arr along = two_forward (call from 1 dep dep) (call to 2 arr arr) (lit< tt) (omega arith) (omega arith) along

pub forward : RunsForward tiny_runs
forward =
    All-cons RunForward (get_or tiny_runs 0 (run_of [] [])) (drop 1 tiny_runs)
    (three_forward (call (codes "A") 1 (moment 8 0) (moment 8 0)) (call (codes "B") 2 (moment 8 10) (moment 8 11)) (call (codes "C") 3 (moment 8 30) (moment 8 30))
    (lit< tt) (lit< tt) (lit< tt) (lit≤ tt) (lit≤ tt) (lit≤ tt) (lit≤ tt) (lit≤ tt) (lit≤ tt))
    (All-cons RunForward (get_or tiny_runs 1 (run_of [] [])) (drop 2 tiny_runs) (two_run (codes "T2") (codes "B") (codes "D") (moment 8 20) (moment 8 40) (lit≤ tt))
    (All-cons RunForward (get_or tiny_runs 2 (run_of [] [])) (drop 3 tiny_runs) (two_run (codes "T3") (codes "B") (codes "D") (moment 8 12) (moment 8 31) (lit≤ tt))
    (All-cons RunForward (get_or tiny_runs 3 (run_of [] [])) (drop 4 tiny_runs) (two_run (codes "T4") (codes "E") (codes "F") (moment 9 0) (moment 9 10) (lit≤ tt))
    (All-cons RunForward (get_or tiny_runs 4 (run_of [] [])) [] (two_run (codes "T5") (codes "E") (codes "F") (moment 10 0) (moment 10 10) (lit≤ tt)) (All-nil RunForward)))))

abbrev pub tiny : Timetable
tiny = record { zone = Utc; runs = runs; connections = 6; doc = doc; trips = 5; left_out = 0; forward = forward }

pub is_tiny : IsTiny tiny
is_tiny = record { runs = refl; stops = refl; changes = refl }

-- the call is at another stop, or departs before this moment
abbrev pub departs_before : List ℕ → ℕ → Call → Bool
departs_before stop bound call = cond (is_same_id call.stop stop) (nat_lt call.dep bound) true

-- the call is at another stop, or arrives after this moment
abbrev pub arrives_after : List ℕ → ℕ → Call → Bool
arrives_after stop bound call = cond (is_same_id call.stop stop) (nat_lt bound call.arr) true

-- at the stop itself, the moments of such a call are in that order
pub at_stop : (stop named : List ℕ) (m n : ℕ) → cond (is_same_id stop named) (nat_lt m n) true ≡ true → stop ≡ named → m < n
at_stop stop named m n passes same = here (is_same_id stop named) passes ((bytes_eq-Decides stop named).1 same) where
  here : (is_here : Bool) → cond is_here (nat_lt m n) true ≡ true → is_here ≡ true → m < n
  here true passes is = omega (arith, ltb-true)
  here false passes is = absurd (cc)

-- a call of a run passes what all calls of the run pass
pub call_passes : (passes : Call → Bool) (run : Run) (place : ℕ) (call : Call) → list_all passes run.calls ≡ true → slice_get run.calls place ≡ Some call → passes call ≡ true
call_passes passes run place call all is =
    subst (λ (c : Call). passes c ≡ true) (get_or_from_slice_get run.calls place call call is) (AllPass-from_list_all passes run.calls all place call (slice_get_within run.calls place call is))

-- no ride leaves the stop at this moment or later, where no call does
pub rides_before : (list : List Run) (stop : List ℕ) (bound : ℕ) → list_all (λ (r : Run). list_all (departs_before stop bound) r.calls) list ≡ true
    → (ride : Ride) → IsRideAt list ride → ride.board ≡ stop → ride.dep < bound
rides_before list stop bound all ride (place, run, inside, stands, rides) here =
    let of_run : list_all (departs_before stop bound) run.calls ≡ true =
    subst (λ (r : Run). list_all (departs_before stop bound) r.calls ≡ true) stands (AllPass-from_list_all (λ (r : Run). list_all (departs_before stop bound) r.calls) list all place run inside) in
    let of_call : departs_before stop bound rides.boards ≡ true = call_passes (departs_before stop bound) run rides.boards_at rides.boards of_run rides.is_boards in
    subst (λ (v : ℕ). v < bound) (sym (ap (λ (r : Ride). r.dep) rides.is_ride))
    (at_stop rides.boards.stop stop rides.boards.dep bound of_call (sym (ap (λ (r : Ride). r.board) rides.is_ride) ∙ here))

-- no ride reaches the stop at this moment or earlier, where no call does
pub rides_after : (list : List Run) (stop : List ℕ) (bound : ℕ) → list_all (λ (r : Run). list_all (arrives_after stop bound) r.calls) list ≡ true
    → (ride : Ride) → IsRideAt list ride → ride.alight ≡ stop → bound < ride.arr
rides_after list stop bound all ride (place, run, inside, stands, rides) here =
    let of_run : list_all (arrives_after stop bound) run.calls ≡ true =
    subst (λ (r : Run). list_all (arrives_after stop bound) r.calls ≡ true) stands (AllPass-from_list_all (λ (r : Run). list_all (arrives_after stop bound) r.calls) list all place run inside) in
    let of_call : arrives_after stop bound rides.alights ≡ true = call_passes (arrives_after stop bound) run (suc rides.last_at) rides.alights of_run rides.is_alights in
    subst (λ (v : ℕ). bound < v) (sym (ap (λ (r : Ride). r.arr) rides.is_ride))
    (at_stop rides.alights.stop stop bound rides.alights.arr of_call (sym (ap (λ (r : Ride). r.alight) rides.is_ride) ∙ here))

-- no stop has a parent, so only the named one is an end of a question
is_named : (named stop : List ℕ) → IsEnd tiny_stops named stop → stop ≡ named
is_named named stop (inl is) = is
is_named named stop (inr (place, child, inside, stands, (is, parent))) =
    let none : child.parent ≡ None = subst (λ (s : Stop). s.parent ≡ None) stands (All-map (λ (s : Stop). s.parent ≡ None) stop_named stop_ids (λ k d lt. refl) place child inside) in
    absurd (cc)

-- a change of the document is at one stop
stays_found : (sought : Bool) (stop : Stop) (rest : Option Change) (from to : List ℕ) (seconds : ℕ) → (sought ≡ true → from ≡ to) → (option_map (λ (c : Change). c.seconds) rest ≡ Some seconds → from ≡ to)
    → option_map (λ (c : Change). c.seconds) (cond sought (Some (change_at stop)) rest) ≡ Some seconds → from ≡ to
stays_found true stop rest from to seconds here there is = here refl
stays_found false stop rest from to seconds here there is = there is

stays : (stops : List Stop) (from to : List ℕ) (seconds : ℕ) → change_between (map change_at stops) from to ≡ Some seconds → from ≡ to
stays [] from to seconds is = cc
stays (stop ∷ stops) from to seconds is =
    stays_found (is_same_id stop.id from && is_same_id stop.id to) stop (find (λ (c : Change). is_same_id c.from from && is_same_id c.to to) (map change_at stops)) from to seconds
    (λ sought. let both = and_parts (is_same_id stop.id from) (is_same_id stop.id to) sought in sym ((bytes_eq-Decides stop.id from).0 both.0) ∙ (bytes_eq-Decides stop.id to).0 both.1)
    (stays stops from to seconds) is

-- rides of a journey begin where the question does, with no walk before them
pub begins_there : (query : Query) (rides : List Ride) (before : Option Walk) → IsWalkBefore query doc (board_of rides) before → (board_of rides ≡ query.from) × (seconds_of before ≡ 0)
begins_there query rides None begins = (is_named query.from (board_of rides) begins, refl)
begins_there query rides (Some walk) (apart, to, nearest) =
    let same : walk.from ≡ board_of rides = stays tiny_stops walk.from (board_of rides) walk.seconds nearest.takes_so_long in
    absurd (apart (subst (IsFrom doc.stops query) same nearest.is_an_end))

-- and end where it does, with none after them
pub ends_there : (query : Query) (rides : List Ride) (after : Option Walk) → IsWalkAfter query doc (alight_of rides) after → (alight_of rides ≡ query.to) × (seconds_of after ≡ 0)
ends_there query rides None ends = (is_named query.to (alight_of rides) ends, refl)
ends_there query rides (Some walk) (apart, from, nearest) =
    let same : alight_of rides ≡ walk.to = stays tiny_stops (alight_of rides) walk.to walk.seconds nearest.takes_so_long in
    absurd (apart (subst (IsTo doc.stops query) (sym same) nearest.is_an_end))

module _ (IsRide : Ride → Type 0) (query : Query) (bound : ℕ) where
  -- where no ride leaves the stop at this moment or later, no journey does
  pub journeys_before : ((ride : Ride) → IsRide ride → ride.board ≡ query.from → ride.dep < bound) → (journey : Journey) → IsJourney IsRide query doc journey → leaves_at journey < bound
  journeys_before each journey is =
      let there = begins_there query journey.rides journey.before is.begins in
      let before : departure_of journey.rides < bound = first journey.rides is.are_rides there.0 in
      omega (arith, before) where
        first : (rides : List Ride) → AreRides IsRide doc rides → board_of rides ≡ query.from → departure_of rides < bound
        first [] are here = absurd are
        first (ride ∷ rest) are here = each ride are.0 here

  -- where no ride reaches the stop at this moment or earlier, no journey does
  pub journeys_after : ((ride : Ride) → IsRide ride → ride.alight ≡ query.to → bound < ride.arr) → (journey : Journey) → IsJourney IsRide query doc journey → bound < arrives_at journey
  journeys_after each journey is =
      let there = ends_there query journey.rides journey.after is.ends in
      let after : bound < arrival_of_rides journey.rides = are_after journey.rides is.are_rides there.0 in
      omega (arith, after) where
        goes_on : (ride : Ride) (rest : List Ride) → IsRide ride → GoesOn IsRide doc ride rest → alight_of (ride ∷ rest) ≡ query.to → bound < arrival_of_rides (ride ∷ rest)
        goes_on ride [] is goes there = each ride is there
        goes_on ride (next ∷ rest) is goes there = goes_on next rest goes.0 goes.2 there

        are_after : (rides : List Ride) → AreRides IsRide doc rides → alight_of rides ≡ query.to → bound < arrival_of_rides rides
        are_after [] are there = absurd are
        are_after (ride ∷ rest) are there = goes_on ride rest are.0 are.1 there

-- one second before 08:31
abbrev pub just_before : ℕ
just_before = moment 8 30 + 59

-- no journey arrives before 08:31
journeys_late : (journey : Journey) → IsJourney (IsRideAt runs) from_a_to_d doc journey → moment 8 31 ≤ arrives_at journey
journeys_late journey is =
    let after : just_before < arrives_at journey = journeys_after (IsRideAt runs) from_a_to_d just_before (rides_after runs (codes "D") just_before refl) journey is in
    omega (arith, after)

-- a ride from the first call of a run to the second
pub from_first : (key : RunKey) (boards alights : Call) (rest : List Call) → boards.board ≡ true → alights.alight ≡ true → IsRideOn key (boards ∷ alights ∷ rest) (record { key = key; first_seq = boards.seq; last_seq = boards.seq; board = boards.stop; dep = boards.dep; alight = alights.stop; arr = alights.arr })
from_first key boards alights rest board alight = record {
  boards_at = 0;
  last_at = 0;
  in_order = lit≤ tt;
  boards = boards;
  last = boards;
  alights = alights;
  is_boards = refl;
  is_last = refl;
  is_alights = refl;
  may_board = board;
  may_alight = alight;
  is_ride = refl;
}

abbrev pub run_at : ℕ → Run
run_at place = get_or runs place (run_of [] [])

pub rides_to_b : IsRideAt runs to_b
rides_to_b =
    (0, run_at 0, lit< tt, refl, from_first (key_of (codes "T1")) (call (codes "A") 1 (moment 8 0) (moment 8 0)) (call (codes "B") 2 (moment 8 10) (moment 8 11)) (call (codes "C") 3 (moment 8 30) (moment 8 30) ∷ []) refl refl)

pub rides_to_d : IsRideAt runs (to_d_at (moment 8 31))
rides_to_d =
    (2, run_at 2, lit< tt, refl, from_first (key_of (codes "T3")) (call (codes "B") 1 (moment 8 12) (moment 8 12)) (call (codes "D") 2 (moment 8 31) (moment 8 31)) [] refl refl)

rides_to_d_later : IsRideAt runs to_d_later
rides_to_d_later =
    (1, run_at 1, lit< tt, refl, from_first (key_of (codes "T2")) (call (codes "B") 1 (moment 8 20) (moment 8 20)) (call (codes "D") 2 (moment 8 40) (moment 8 40)) [] refl refl)

-- a journey with no walks is one where its rides are, from an end of the question to an end and in time
pub walks_nowhere : (IsRide : Ride → Type 0) (query : Query) (doc : StopsDoc) (rides : List Ride) (journey : Journey) → IsMadeOf None rides None journey → AreRides IsRide doc rides
    → IsFrom doc.stops query (board_of rides) → query.leave ≤ departure_of rides → IsTo doc.stops query (alight_of rides) → arrival_of_rides rides ≤ latest_of query → IsJourney IsRide query doc journey
walks_nowhere IsRide query doc rides journey made are from leaves to arrives = record {
  are_rides = subst (AreRides IsRide doc) (sym made.rides_are) are;
  begins = subst (λ rides. IsWalkBefore query doc (board_of rides) journey.before) (sym made.rides_are) (subst (IsWalkBefore query doc (board_of rides)) (sym made.before_is) from);
  not_early = subst (λ rides. query.leave ≤ departure_of rides - seconds_of journey.before) (sym made.rides_are) (subst (λ walk. query.leave ≤ departure_of rides - seconds_of walk) (sym made.before_is) (omega (arith, leaves)));
  ends = subst (λ rides. IsWalkAfter query doc (alight_of rides) journey.after) (sym made.rides_are) (subst (IsWalkAfter query doc (alight_of rides)) (sym made.after_is) to);
  in_time = subst (λ rides. arrival_of_rides rides + seconds_of journey.after ≤ latest_of query) (sym made.rides_are) (subst (λ walk. arrival_of_rides rides + seconds_of walk ≤ latest_of query) (sym made.after_is) (omega (arith, arrives)));
}

-- a journey with no walk after it arrives when its rides do
pub arrives_with_rides : (before : Option Walk) (rides : List Ride) (journey : Journey) → IsMadeOf before rides None journey → arrives_at journey ≡ arrival_of_rides rides
arrives_with_rides before rides journey made =
    let here : arrival_of_rides rides + 0 ≡ arrival_of_rides rides = omega arith in
    ap (λ rides. arrival_of_rides rides + seconds_of journey.after) made.rides_are ∙ ap (λ walk. arrival_of_rides rides + seconds_of walk) made.after_is ∙ here

best : (journey : Journey) → IsMadeOf None worked None journey → IsAnswer (IsRideAt runs) from_a_to_d doc (answers.Journey journey)
best journey made = record {
  is_journey = walks_nowhere (IsRideAt runs) from_a_to_d doc worked journey made (rides_to_b, (rides_to_d, lit≤ tt, tt)) (inl refl) (lit≤ tt) (inl refl) (lit≤ tt);
  is_earliest = λ other goes. subst (λ (v : ℕ). v ≤ arrives_at other) (sym (arrives_with_rides None worked journey made)) (journeys_late other goes);
}

-- the journey by T2 is one too
pub later_is_journey : AreJourneyBy from_a_to_d nine_minutes_late
later_is_journey = record {
  made = tiny;
  is_tiny = is_tiny;
  are_journey = λ journey made. walks_nowhere (IsRideAt runs) from_a_to_d doc nine_minutes_late journey made (rides_to_b, (rides_to_d_later, lit≤ tt, tt)) (inl refl) (lit≤ tt) (inl refl) (lit≤ tt);
}

-- rides make a journey
pub rides_make : (first : Ride) (rest : List Ride) → MakeJourneys (first ∷ rest)
rides_make first rest before after =
    (record { before = before; rides = first ∷ rest; after = after; not_empty = λ none. cc }, record { before_is = refl; rides_are = refl; after_is = refl })

-- no rides make none
pub none_make_none : MakeJourneys [] → ⊥
none_make_none make = let none = make None None in none.0.not_empty none.1.rides_are

-- the worked rides as a journey, and that it answers the question
abbrev pub the_worked : Journey
the_worked = (rides_make to_b (to_d_at (moment 8 31) ∷ []) None None).0

the_worked_answers : IsAnswer (IsRideAt runs) from_a_to_d doc (answers.Journey the_worked)
the_worked_answers = best the_worked (rides_make to_b (to_d_at (moment 8 31) ∷ []) None None).1

-- one run is before another by its key
abbrev pub KeyBefore : Run → Run → Type 0
KeyBefore a b = on (λ (r : Run). r.key) key_cmp a b ≡ Less

-- the runs are in the order of their trips
pub in_order : InKeyOrder runs
in_order =
    AllPairs-cons KeyBefore (run_at 0) (drop 1 runs) (All-cons (KeyBefore (run_at 0)) (run_at 1) (drop 2 runs) refl
    (All-cons (KeyBefore (run_at 0)) (run_at 2) (drop 3 runs) refl (All-cons (KeyBefore (run_at 0)) (run_at 3) (drop 4 runs) refl
    (All-cons (KeyBefore (run_at 0)) (run_at 4) [] refl (All-nil (KeyBefore (run_at 0)))))))
    (AllPairs-cons KeyBefore (run_at 1) (drop 2 runs) (All-cons (KeyBefore (run_at 1)) (run_at 2) (drop 3 runs) refl
    (All-cons (KeyBefore (run_at 1)) (run_at 3) (drop 4 runs) refl (All-cons (KeyBefore (run_at 1)) (run_at 4) [] refl (All-nil (KeyBefore (run_at 1))))))
    (AllPairs-cons KeyBefore (run_at 2) (drop 3 runs) (All-cons (KeyBefore (run_at 2)) (run_at 3) (drop 4 runs) refl (All-cons (KeyBefore (run_at 2)) (run_at 4) [] refl (All-nil (KeyBefore (run_at 2)))))
    (pairs_of_two KeyBefore (run_at 3) (run_at 4) refl)))

-- a call at a moment that is one is on time
on_time : (stop : List ℕ) (seq arr dep : ℕ) → arr < MOMENTS_END → dep < MOMENTS_END → IsOnTime (call stop seq arr dep)
on_time stop seq arr dep a d = record { arr = a; dep = d; arr_delay = refl; dep_delay = refl }

-- and so are the calls of a run from one stop to another
pub two_on_time : (from : List ℕ) (first arr dep : ℕ) (to : List ℕ) (second last : ℕ) → arr < MOMENTS_END → dep < MOMENTS_END → last < MOMENTS_END → All IsOnTime (call from first arr dep ∷ call to second last last ∷ [])
two_on_time from first arr dep to second last a d l =
    All-cons IsOnTime (call from first arr dep) (call to second last last ∷ []) (on_time from first arr dep a d) (All-cons IsOnTime (call to second last last) [] (on_time to second last last l l) (All-nil IsOnTime))

-- the calls of the runs are on time
all_on_time : All (λ (r : Run). All IsOnTime r.calls) runs
all_on_time =
    All-cons OnTime (run_at 0) (drop 1 runs) (All-cons IsOnTime (call (codes "A") 1 (moment 8 0) (moment 8 0)) (drop 1 (run_at 0).calls) (on_time (codes "A") 1 (moment 8 0) (moment 8 0) (lit< tt) (lit< tt))
    (two_on_time (codes "B") 2 (moment 8 10) (moment 8 11) (codes "C") 3 (moment 8 30) (lit< tt) (lit< tt) (lit< tt)))
    (All-cons OnTime (run_at 1) (drop 2 runs) (two_on_time (codes "B") 1 (moment 8 20) (moment 8 20) (codes "D") 2 (moment 8 40) (lit< tt) (lit< tt) (lit< tt))
    (All-cons OnTime (run_at 2) (drop 3 runs) (two_on_time (codes "B") 1 (moment 8 12) (moment 8 12) (codes "D") 2 (moment 8 31) (lit< tt) (lit< tt) (lit< tt))
    (All-cons OnTime (run_at 3) (drop 4 runs) (two_on_time (codes "E") 1 (moment 9 0) (moment 9 0) (codes "F") 2 (moment 9 10) (lit< tt) (lit< tt) (lit< tt))
    (All-cons OnTime (run_at 4) [] (two_on_time (codes "E") 1 (moment 10 0) (moment 10 0) (codes "F") 2 (moment 10 10) (lit< tt) (lit< tt) (lit< tt)) (All-nil OnTime))))) where
      OnTime : Run → Type 0
      OnTime r = All IsOnTime r.calls

-- the runs are on time
pub runs_on_time : All RunsOnTime runs
runs_on_time place run inside = record { forward = forward place run inside; on_time = all_on_time place run inside }

-- the document of each timetable of the small feed is this one
pub same_doc : (made : Timetable) → IsTiny made → made.doc ≡ doc
same_doc made is = documents_are_one made.doc doc is.stops is.changes

-- the live runs of each timetable of the small feed, to which no message was admitted, are its runs
pub live_are : LiveWithoutNews → (made : Timetable) → IsTiny made → (live : List Run) → AreLiveRuns made.runs made.doc.stops [] live → live ≡ runs
live_are without made is live are_live = without runs made.doc.stops live in_order runs_on_time (subst (λ (r : List Run). AreLiveRuns r made.doc.stops [] live) is.runs are_live)

-- what answers at a version of the small feed's timetable answers by its runs
pub by_tiny : LiveWithoutNews → (publishing : Publishing) (version : ℕ) (answer : Answer) → AnswersTiny publishing version from_a_to_d answer → IsAnswer (IsRideAt runs) from_a_to_d doc answer
by_tiny without publishing version answer (made, is, answers) =
    let live : answers.live ≡ runs = live_are without made is answers.live answers.are_live in
    subst (λ (d : StopsDoc). IsAnswer (IsRideAt runs) from_a_to_d d answer) (same_doc made is) (subst (λ (r : List Run). IsAnswer (IsRideAt r) from_a_to_d made.doc answer) live answers.is_answer)

-- the worked rides are taken at every version
pub worked_answers : RunsAreLive → AreTaken None worked
worked_answers are_live journey made publishing version =
    (tiny, is_tiny, record { live = runs; are_live = are_live runs doc.stops in_order runs_on_time; is_answer = best journey made })

module _ (without : LiveWithoutNews) (one_arrival : OneArrival) where
  one_tiny : (publishing : Publishing) (version : ℕ) (answer : Answer) → AnswersTiny publishing version from_a_to_d answer → arrival_of (answers.Journey the_worked) ≡ arrival_of answer
  one_tiny publishing version answer is = one_arrival runs from_a_to_d doc (answers.Journey the_worked) answer the_worked_answers (by_tiny without publishing version answer is)

  -- there is a journey
  pub refused_none : AnswersNever from_a_to_d answers.NoJourney
  refused_none publishing version is = let never = one_tiny publishing version answers.NoJourney is in cc

  -- rides that arrive at another moment than those of an answer are no answer
  pub refused_arrival : (rides : List Ride) → (arrival_of_rides rides ≡ moment 8 31 → ⊥) → AreRefused None rides
  refused_arrival rides other journey made publishing version answered =
      let one = one_tiny publishing version (answers.Journey journey) answered in
      let same : arrives_at the_worked ≡ arrives_at journey = cc in
      other (sym (arrives_with_rides None rides journey made) ∙ sym same ∙ arrives_with_rides None worked the_worked (rides_make to_b (to_d_at (moment 8 31) ∷ []) None None).1)

  -- where a journey may begin there is no walk, be it from the same stop
  pub refused_walk : (seconds : ℕ) → AreRefused (Some (in_place seconds)) worked
  refused_walk seconds journey made publishing version answered =
      let here = by_tiny without publishing version (answers.Journey journey) answered in
      let begins : IsWalkBefore from_a_to_d doc (board_of worked) (Some (in_place seconds)) =
      subst (λ rides. IsWalkBefore from_a_to_d doc (board_of rides) (Some (in_place seconds))) made.rides_are
      (subst (IsWalkBefore from_a_to_d doc (board_of journey.rides)) made.before_is here.is_journey.begins) in
      begins.0 (inl refl)

-- no two arrivals are one
pub apart : (m n : ℕ) → m < n → m ≡ n → ⊥
apart m n lt same = omega arith

-- the worked rides arrive at 08:31
pub worked_arrives : (journey : Journey) → IsMadeOf None worked None journey → arrives_at journey ≡ moment 8 31
worked_arrives journey made = arrives_with_rides None worked journey made

-- a journey within less than 31 minutes is one within a day
in_a_day : (seconds : ℕ) → seconds < 1_860 → (journey : Journey) → IsJourney (IsRideAt runs) (within seconds) doc journey → IsJourney (IsRideAt runs) from_a_to_d doc journey
in_a_day seconds short journey is = record {
  are_rides = is.are_rides;
  begins = is.begins;
  not_early = is.not_early;
  ends = is.ends;
  in_time = let soon : arrives_at journey ≤ moment 8 0 + seconds = is.in_time in omega (arith, soon, short);
}

-- and there is none, since none arrives before 08:31
pub none_within : RunsAreLive → (publishing : Publishing) (version seconds : ℕ) → seconds < 1_860 → AnswersTiny publishing version (within seconds) answers.NoJourney
none_within are_live publishing version seconds short = (
  tiny,
  is_tiny,
  record {
    live = runs;
    are_live = are_live runs doc.stops in_order runs_on_time;
    is_answer = λ journey is.
        let late : moment 8 31 ≤ arrives_at journey = journeys_late journey (in_a_day seconds short journey is) in
        let soon : arrives_at journey ≤ moment 8 0 + seconds = is.in_time in
        omega (arith, late, soon, short);
  },
)
