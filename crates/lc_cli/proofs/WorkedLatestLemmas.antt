-- Which journeys of the small feed leave latest.
use Rattle.std.proofs.Common.{◌≡◌, ◌∙◌, ◌+◌, ◌-◌, ◌<◌, ◌≤◌, ℕ, inl, List, [], ◌∷◌, Some, None, ap, arith, codes, lit<, lit≤, refl, subst, sym}
use Rattle.back_scan.specs.Forward.{forward_query}
use Rattle.back_scan.specs.Latest.{IsLatest}
use Rattle.back_scan.specs.declared.arrive_query.ArriveQuery.{ArriveQuery}
use Rattle.cli_words.specs.declared.command.Publishing.{Publishing}
use Rattle.live_calls.specs.Laws.{LiveWithoutNews, RunsAreLive}
use Rattle.lc_model.specs.Journey.{AreRides, IsJourney, arrives_at, departure_of, leaves_at}
use Rattle.lc_model.specs.Ride.{IsRideAt}
use Rattle.lc_model.specs.Walk.{seconds_of}
use Rattle.lc_model.specs.declared.doc.StopsDoc.{StopsDoc}
use Rattle.lc_model.specs.declared.journey.Journey.{Journey}
use Rattle.lc_model.specs.declared.ride.Ride.{Ride}
use Rattle.lc_model.specs.declared.run.Run.{Run}
use Rattle.timetable.specs.Tiny.{call, key_of, moment}
use Rattle.lc_cli.specs.Tiny.{AreJourneyBy, IsMadeOf, ride_of, to_b, to_d_at, worked}
use Rattle.lc_cli.specs.WorkedQuestions.{AllLeaveAt, LatestAlways, LatestNever, LatestTiny, LeaveLatest, LeaveNotLatest, at_nine, at_ten, by_1010, by_831, by_a_second_before}
use Rattle.lc_cli.proofs.TinyLemmas.{doc, from_first, in_order, is_tiny, journeys_after, journeys_before, just_before, live_are, rides_after, rides_before, rides_make, rides_to_b, rides_to_d, run_at, runs, runs_on_time, same_doc, the_worked, tiny, walks_nowhere, worked_arrives}

-- a journey with no walks leaves when its rides do
leaves_with_rides : (rides : List Ride) (journey : Journey) → IsMadeOf None rides None journey → leaves_at journey ≡ departure_of rides
leaves_with_rides rides journey made =
    let here : departure_of rides - 0 ≡ departure_of rides = omega arith in
    ap (λ rides. departure_of rides - seconds_of journey.before) made.rides_are ∙ ap (λ walk. departure_of rides - seconds_of walk) made.before_is ∙ here

-- rides of a journey leave latest where no ride leaves later from the stop where the question begins
leave_latest : (asked : ArriveQuery) (rides : List Ride) → ((ride : Ride) → IsRideAt runs ride → ride.board ≡ asked.from → ride.dep < departure_of rides + 1) → (journey : Journey)
    → IsMadeOf None rides None journey → IsJourney (IsRideAt runs) (forward_query asked) doc journey → IsLatest (IsRideAt runs) (forward_query asked) doc journey
leave_latest asked rides each journey made goes = record {
  is_journey = goes;
  is_latest = λ other is.
      let before : leaves_at other < departure_of rides + 1 = journeys_before (IsRideAt runs) (forward_query asked) (departure_of rides + 1) each other is in
      let here : leaves_at journey ≡ departure_of rides = leaves_with_rides rides journey made in
      omega (arith, before, here);
}

-- what is latest by the runs of the small feed is so at every version
at_every_version : RunsAreLive → (asked : ArriveQuery) (journey : Journey) → IsLatest (IsRideAt runs) (forward_query asked) doc journey → LatestAlways asked (Some journey)
at_every_version are_live asked journey is publishing version =
    (tiny, is_tiny, record { live = runs; are_live = are_live runs doc.stops in_order runs_on_time; is_latest = is })

-- what is latest at a version of the small feed's timetable is so by its runs
by_its_runs : LiveWithoutNews → (publishing : Publishing) (version : ℕ) (asked : ArriveQuery) (journey : Journey) → LatestTiny publishing version asked (Some journey)
    → IsLatest (IsRideAt runs) (forward_query asked) doc journey
by_its_runs without publishing version asked journey (made, is, latest) =
    let live : latest.live ≡ runs = live_are without made is latest.live latest.are_live in
    subst (λ (d : StopsDoc). IsLatest (IsRideAt runs) (forward_query asked) d journey) (same_doc made is)
    (subst (λ (r : List Run). IsLatest (IsRideAt r) (forward_query asked) made.doc journey) live latest.is_latest)

worked_goes : (journey : Journey) → IsMadeOf None worked None journey → IsJourney (IsRideAt runs) (forward_query by_831) doc journey
worked_goes journey made = walks_nowhere (IsRideAt runs) (forward_query by_831) doc worked journey made (rides_to_b, (rides_to_d, lit≤ tt, tt)) (inl refl) (lit≤ tt) (inl refl) (lit≤ tt)

pub worked_leaves_latest : RunsAreLive → LeaveLatest by_831 worked
worked_leaves_latest are_live journey made =
    at_every_version are_live by_831 journey (leave_latest by_831 worked (rides_before runs (codes "A") (moment 8 0 + 1) refl) journey made (worked_goes journey made))

-- the worked journey leaves at 08:00
the_worked_goes : IsJourney (IsRideAt runs) (forward_query by_831) doc the_worked
the_worked_goes = worked_goes the_worked (rides_make to_b (to_d_at (moment 8 31) ∷ []) None None).1

the_worked_leaves : leaves_at the_worked ≡ moment 8 0
the_worked_leaves = leaves_with_rides worked the_worked (rides_make to_b (to_d_at (moment 8 31) ∷ []) None None).1

pub all_leave_at_eight : LiveWithoutNews → AllLeaveAt by_831 (moment 8 0)
all_leave_at_eight without publishing version journey latest =
    let is = by_its_runs without publishing version by_831 journey latest in
    let before : leaves_at journey < moment 8 0 + 1 =
    journeys_before (IsRideAt runs) (forward_query by_831) (moment 8 0 + 1) (rides_before runs (codes "A") (moment 8 0 + 1) refl) journey is.is_journey in
    let later : leaves_at the_worked ≤ leaves_at journey = is.is_latest the_worked the_worked_goes in
    let at_eight : leaves_at the_worked ≡ moment 8 0 = the_worked_leaves in
    omega (arith, before, later, at_eight)

-- rides that leave at another moment are refused
pub other_departure : LiveWithoutNews → (rides : List Ride) → (departure_of rides ≡ moment 8 0 → ⊥) → LeaveNotLatest by_831 rides
other_departure without rides other journey made publishing version latest =
    other (sym (leaves_with_rides rides journey made) ∙ all_leave_at_eight without publishing version journey latest)

pub never_none : LiveWithoutNews → LatestNever by_831 None
never_none without publishing version (made, is, latest) =
    let live : latest.live ≡ runs = live_are without made is latest.live latest.are_live in
    latest.is_latest the_worked (subst (λ (r : List Run). IsJourney (IsRideAt r) (forward_query by_831) made.doc the_worked) (sym live)
    (subst (λ (d : StopsDoc). IsJourney (IsRideAt runs) (forward_query by_831) d the_worked) (sym (same_doc made is)) the_worked_goes))

-- one second before 08:31 the worked journey has not arrived
pub not_yet : LiveWithoutNews → LeaveNotLatest by_a_second_before worked
not_yet without journey made publishing version latest =
    let is = by_its_runs without publishing version by_a_second_before journey latest in
    let soon : arrives_at journey ≤ just_before = is.is_journey.in_time in
    let late : arrives_at journey ≡ moment 8 31 = worked_arrives journey made in
    omega (arith, soon, late)

-- and no journey has
pub none_yet : RunsAreLive → LatestAlways by_a_second_before None
none_yet are_live publishing version = (
  tiny,
  is_tiny,
  record {
    live = runs;
    are_live = are_live runs doc.stops in_order runs_on_time;
    is_latest = λ journey is.
        let after : just_before < arrives_at journey = journeys_after (IsRideAt runs) (forward_query by_a_second_before) just_before (rides_after runs (codes "D") just_before refl) journey is in
        let soon : arrives_at journey ≤ just_before = is.in_time in
        omega (arith, after, soon);
  },
)

-- from E to F
rides_at_nine : AreRides (IsRideAt runs) doc at_nine
rides_at_nine =
    ((3, run_at 3, lit< tt, refl, from_first (key_of (codes "T4")) (call (codes "E") 1 (moment 9 0) (moment 9 0)) (call (codes "F") 2 (moment 9 10) (moment 9 10)) [] refl refl), tt)

rides_at_ten : AreRides (IsRideAt runs) doc at_ten
rides_at_ten =
    ((4, run_at 4, lit< tt, refl, from_first (key_of (codes "T5")) (call (codes "E") 1 (moment 10 0) (moment 10 0)) (call (codes "F") 2 (moment 10 10) (moment 10 10)) [] refl refl), tt)

ten_goes : (journey : Journey) → IsMadeOf None at_ten None journey → IsJourney (IsRideAt runs) (forward_query by_1010) doc journey
ten_goes journey made = walks_nowhere (IsRideAt runs) (forward_query by_1010) doc at_ten journey made rides_at_ten (inl refl) (lit≤ tt) (inl refl) (lit≤ tt)

pub ten_leaves_latest : RunsAreLive → LeaveLatest by_1010 at_ten
ten_leaves_latest are_live journey made =
    at_every_version are_live by_1010 journey (leave_latest by_1010 at_ten (rides_before runs (codes "E") (moment 10 0 + 1) refl) journey made (ten_goes journey made))

pub nine_is_journey : AreJourneyBy (forward_query by_1010) at_nine
nine_is_journey = record {
  made = tiny;
  is_tiny = is_tiny;
  are_journey = λ journey made. walks_nowhere (IsRideAt runs) (forward_query by_1010) doc at_nine journey made rides_at_nine (inl refl) (lit≤ tt) (inl refl) (lit≤ tt);
}

pub nine_is_earlier : LiveWithoutNews → LeaveNotLatest by_1010 at_nine
nine_is_earlier without journey made publishing version latest =
    let is = by_its_runs without publishing version by_1010 journey latest in
    let ten = rides_make (ride_of (codes "T5") (codes "E") (moment 10 0) (codes "F") (moment 10 10)) [] None None in
    let at_least : leaves_at ten.0 ≤ leaves_at journey = is.is_latest ten.0 (ten_goes ten.0 ten.1) in
    let at_ten_o_clock : leaves_at ten.0 ≡ moment 10 0 = leaves_with_rides at_ten ten.0 ten.1 in
    let at_nine_o_clock : leaves_at journey ≡ moment 9 0 = leaves_with_rides at_nine journey made in
    omega (arith, at_least, at_ten_o_clock, at_nine_o_clock)
