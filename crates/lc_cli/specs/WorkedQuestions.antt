-- Questions of the small feed for the latest departure and for the fewest rides, with answers worked out by hand and answers that are wrong.
use Rattle.std.specs.Prelude.{◌≡◌, ℕ, ◌+◌, List, [], ◌∷◌, Option, None, Some, codes}
use Rattle.std.proofs.Common.{lit≤}
use Rattle.back_scan.specs.Forward.{forward_query}
use Rattle.back_scan.specs.declared.arrive_query.ArriveQuery.{ArriveQuery}
use Rattle.cli_ask.specs.Publishing.{side_with, store_of}
use Rattle.cli_ask.specs.declared.end.ClientEnd.{ClientEnd}
use Rattle.cli_words.specs.declared.command.Publishing.{Publishing}
use Rattle.back_client.specs.Ends.Latest.{LatestAt}
use Rattle.lc_model.specs.Journey.{leaves_at}
use Rattle.lc_model.specs.declared.answer.Answer.{Answer}
use Rattle.lc_model.specs.declared.answer.Answer.TheVariants as answers
use Rattle.lc_model.specs.declared.journey.Journey.{Journey}
use Rattle.lc_model.specs.declared.ride.Ride.{Ride}
use Rattle.lc_model.specs.declared.run.Run.{Run}
use Rattle.lc_world.specs.Sides.Side.{Side}
use Rattle.timetable.specs.Tiny.{IsTiny, call, moment, run_of, tiny_changes, tiny_runs, tiny_stops}
use Rattle.timetable.specs.declared.timetable.Timetable.{Timetable}
use Rattle.lc_cli.specs.Headline.{EndsBest}
use Rattle.lc_cli.specs.HeadlineOfFewest.{EndsFewest}
use Rattle.lc_cli.specs.NearHeadline.{end_of}
use Rattle.lc_cli.specs.Tiny.{IsMadeOf, from_a_to_d, ride_of, to_d_at}

-- the answer is a latest journey at a version of a publisher of the small feed's timetable, to which no message was admitted, or that there is none
abbrev pub LatestTiny : Publishing → ℕ → ArriveQuery → Option Journey → Type 0
LatestTiny publishing version asked answer =
    (made : Timetable) × IsTiny made × LatestAt (side_with made publishing (store_of made publishing.base_moment)) version (forward_query asked) answer

-- this is the latest answer however the small feed is published, at every version
abbrev pub LatestAlways : ArriveQuery → Option Journey → Type 0
LatestAlways asked answer = (publishing : Publishing) (version : ℕ) → LatestTiny publishing version asked answer

-- and the answer is none, however it is published, at any version
abbrev pub LatestNever : ArriveQuery → Option Journey → Type 0
LatestNever asked answer = (publishing : Publishing) (version : ℕ) → LatestTiny publishing version asked answer → ⊥

-- with no walks, the rides leave latest
abbrev pub LeaveLatest : ArriveQuery → List Ride → Type 0
LeaveLatest asked rides = (journey : Journey) → IsMadeOf None rides None journey → LatestAlways asked (Some journey)

-- with no walks, they do not
abbrev pub LeaveNotLatest : ArriveQuery → List Ride → Type 0
LeaveNotLatest asked rides = (journey : Journey) → IsMadeOf None rides None journey → LatestNever asked (Some journey)

-- each journey that leaves latest leaves at this moment, whatever its rides and walks
abbrev pub AllLeaveAt : ArriveQuery → ℕ → Type 0
AllLeaveAt asked moment =
    (publishing : Publishing) (version : ℕ) (journey : Journey) → LatestTiny publishing version asked (Some journey) → leaves_at journey ≡ moment

-- how to get from A to D by 08:31
abbrev pub by_831 : ArriveQuery
by_831 = record {
  from = codes "A";
  to = codes "D";
  arrive = moment 8 31;
  known = None;
  horizon = 86_400;
  not_before = lit≤ tt;
  not_after = lit≤ tt;
}

-- by one second before
abbrev pub by_a_second_before : ArriveQuery
by_a_second_before = record by_831 { arrive = moment 8 30 + 59; not_before = lit≤ tt; not_after = lit≤ tt }

-- how to get from E to F by 10:10
abbrev pub by_1010 : ArriveQuery
by_1010 = record {
  from = codes "E";
  to = codes "F";
  arrive = moment 10 10;
  known = None;
  horizon = 86_400;
  not_before = lit≤ tt;
  not_after = lit≤ tt;
}

-- the worked journey, said to leave one second later
abbrev pub leaving_a_second_later : List Ride
leaving_a_second_later = ride_of (codes "T1") (codes "A") (moment 8 0 + 1) (codes "B") (moment 8 10) ∷ to_d_at (moment 8 31) ∷ []

-- and said to leave one second earlier
abbrev pub leaving_a_second_earlier : List Ride
leaving_a_second_earlier = ride_of (codes "T1") (codes "A") (moment 7 59 + 59) (codes "B") (moment 8 10) ∷ to_d_at (moment 8 31) ∷ []

-- by T4 from E to F, at 09:00
abbrev pub at_nine : List Ride
at_nine = ride_of (codes "T4") (codes "E") (moment 9 0) (codes "F") (moment 9 10) ∷ []

-- by T5 from E to F, at 10:00
abbrev pub at_ten : List Ride
at_ten = ride_of (codes "T5") (codes "E") (moment 10 0) (codes "F") (moment 10 10) ∷ []

-- the runs of the small feed, and before them one of a trip T0 from A at 08:00 straight to D, where it arrives at this moment
abbrev pub with_direct : ℕ → List Run
with_direct arr = run_of (codes "T0") (call (codes "A") 1 (moment 8 0) (moment 8 0) ∷ call (codes "D") 2 arr arr ∷ []) ∷ tiny_runs

-- the timetable has these runs, and the stops and changes of the small feed
pub record HasDirect (arr : ℕ) (made : Timetable) : Type 0 where
  pub runs : made.runs ≡ with_direct arr
  pub stops : made.doc.stops ≡ tiny_stops
  pub changes : made.doc.changes ≡ tiny_changes

-- by T0 from A to D
abbrev pub direct : ℕ → List Ride
direct arr = ride_of (codes "T0") (codes "A") (moment 8 0) (codes "D") arr ∷ []

-- the client ended so, by a publisher of such a timetable, to which no message was admitted
abbrev pub EndsWithDirect : (Side → ClientEnd → Type 0) → ℕ → Publishing → ClientEnd → Type 0
EndsWithDirect EndsSo arr publishing end =
    (made : Timetable) × HasDirect arr made × EndsSo (side_with made publishing (store_of made publishing.base_moment)) end

-- a client that asks for the fewest rides from A to D ended with them
abbrev pub EndsFewestWith : ℕ → Publishing → ClientEnd → Type 0
EndsFewestWith = EndsWithDirect (λ side end. EndsFewest side from_a_to_d end)

-- with no walks, the rides are its end however such a timetable is published
abbrev pub EndFewest : ℕ → List Ride → Type 0
EndFewest arr rides =
    (journey : Journey) → IsMadeOf None rides None journey → (publishing : Publishing)
    → EndsFewestWith arr publishing (end_of publishing.base_moment (answers.Journey journey))

-- this is not its end, however such a timetable is published and at whichever version
abbrev pub IsNoFewestEnd : ℕ → Answer → Type 0
IsNoFewestEnd arr answer = (publishing : Publishing) (version : ℕ) → EndsFewestWith arr publishing (end_of version answer) → ⊥

-- with no walks, the rides are not its end
abbrev pub EndNotFewest : ℕ → List Ride → Type 0
EndNotFewest arr rides = (journey : Journey) → IsMadeOf None rides None journey → IsNoFewestEnd arr (answers.Journey journey)

-- but they are a best end, which `ask` may write
abbrev pub EndBest : ℕ → List Ride → Type 0
EndBest arr rides =
    (journey : Journey) → IsMadeOf None rides None journey → (publishing : Publishing)
    → EndsWithDirect (λ side end. EndsBest side from_a_to_d end) arr publishing (end_of publishing.base_moment (answers.Journey journey))

-- it ends with the fewest rides at the one version that there is, whatever the answer
abbrev pub EndFewestAtOneVersion : ℕ → Type 0
EndFewestAtOneVersion arr =
    (publishing : Publishing) (version : ℕ) (answer : Answer) → EndsFewestWith arr publishing (end_of version answer) → version ≡ publishing.base_moment
