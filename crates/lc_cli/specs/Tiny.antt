-- A question of the small feed, a best journey worked out by hand from its timetable, and answers that are wrong.
use Rattle.std.specs.Prelude.{◌≡◌, ℕ, ◌+◌, List, [], ◌∷◌, Option, None, codes}
use Rattle.std.proofs.Common.{lit≤}
use Rattle.cli_ask.specs.Publishing.{side_with, store_of}
use Rattle.convoy.specs.ClientLaws.Answered.{AnswersAt}
use Rattle.cli_words.specs.declared.command.Publishing.{Publishing}
use Rattle.lc_model.specs.Journey.{IsJourney}
use Rattle.lc_model.specs.Ride.{IsRideAt}
use Rattle.lc_model.specs.declared.answer.Answer.{Answer}
use Rattle.lc_model.specs.declared.answer.Answer.TheVariants as answers
use Rattle.lc_model.specs.declared.journey.Journey.{Journey}
use Rattle.lc_model.specs.declared.query.Query.{Query}
use Rattle.lc_model.specs.declared.ride.Ride.{Ride}
use Rattle.lc_model.specs.declared.walk.Walk.{Walk}
use Rattle.timetable.specs.Tiny.{IsTiny, key_of, moment}
use Rattle.timetable.specs.declared.timetable.Timetable.{Timetable}

-- the answer is one to the question at a version of a publisher of the small feed's timetable, to which no message was admitted
abbrev pub AnswersTiny : Publishing → ℕ → Query → Answer → Type 0
AnswersTiny publishing version query answer =
    (made : Timetable) × IsTiny made × AnswersAt (side_with made publishing (store_of made publishing.base_moment)) version query answer

-- this is the answer however the small feed is published, at every version
abbrev pub AnswersAlways : Query → Answer → Type 0
AnswersAlways query answer = (publishing : Publishing) (version : ℕ) → AnswersTiny publishing version query answer

-- and the answer is none, however it is published, at any version
abbrev pub AnswersNever : Query → Answer → Type 0
AnswersNever query answer = (publishing : Publishing) (version : ℕ) → AnswersTiny publishing version query answer → ⊥

-- how to get from A to D from 08:00 on
abbrev pub from_a_to_d : Query
from_a_to_d = record {
  from = codes "A";
  to = codes "D";
  leave = moment 8 0;
  known = None;
  horizon = 86_400;
  not_before = lit≤ tt;
  not_after = lit≤ tt;
}

-- a ride of a trip from its first stop to its second
abbrev pub ride_of : List ℕ → List ℕ → ℕ → List ℕ → ℕ → Ride
ride_of trip board dep alight arr =
    record { key = key_of trip; first_seq = 1; last_seq = 1; board = board; dep = dep; alight = alight; arr = arr }

-- by T1 from A to B
abbrev pub to_b : Ride
to_b = ride_of (codes "T1") (codes "A") (moment 8 0) (codes "B") (moment 8 10)

-- by T3 from B to D, which arrives at this moment
abbrev pub to_d_at : ℕ → Ride
to_d_at arr = ride_of (codes "T3") (codes "B") (moment 8 12) (codes "D") arr

-- by T2 from B to D, later
abbrev pub to_d_later : Ride
to_d_later = ride_of (codes "T2") (codes "B") (moment 8 20) (codes "D") (moment 8 40)

-- by T1 to B at 08:10, and after the change of 120 seconds by T3 to D at 08:31
abbrev pub worked : List Ride
worked = to_b ∷ to_d_at (moment 8 31) ∷ []

-- the worked journey, said to arrive one second later
abbrev pub a_second_late : List Ride
a_second_late = to_b ∷ to_d_at (moment 8 31 + 1) ∷ []

-- the rides of the worked journey, the other way round
abbrev pub swapped : List Ride
swapped = to_d_at (moment 8 31) ∷ to_b ∷ []

-- by T1 and then by T2, which arrives at 08:40
abbrev pub nine_minutes_late : List Ride
nine_minutes_late = to_b ∷ to_d_later ∷ []

-- a walk from A to A that takes so long
abbrev pub in_place : ℕ → Walk
in_place seconds = record { from = codes "A"; to = codes "A"; seconds = seconds }

-- the journey has this walk before its rides, these rides, and this walk after them
pub record IsMadeOf (before : Option Walk) (rides : List Ride) (after : Option Walk) (journey : Journey) : Type 0 where
  pub before_is : journey.before ≡ before
  pub rides_are : journey.rides ≡ rides
  pub after_is : journey.after ≡ after

-- with every walk or none before and after them, the rides are those of a journey
abbrev pub MakeJourneys : List Ride → Type 0
MakeJourneys rides = (before after : Option Walk) → (journey : Journey) × IsMadeOf before rides after journey

-- with this walk before them and none after, the rides answer the question
abbrev pub AreTaken : Option Walk → List Ride → Type 0
AreTaken before rides =
    (journey : Journey) → IsMadeOf before rides None journey → AnswersAlways from_a_to_d (answers.Journey journey)

-- with this walk before them and none after, the rides answer it not
abbrev pub AreRefused : Option Walk → List Ride → Type 0
AreRefused before rides =
    (journey : Journey) → IsMadeOf before rides None journey → AnswersNever from_a_to_d (answers.Journey journey)

-- with no walks, the rides are a journey by the small feed's timetable, be it a best one or not
pub record AreJourneyBy (query : Query) (rides : List Ride) : Type 0 where
  pub made : Timetable
  pub is_tiny : IsTiny made
  pub are_journey : (journey : Journey) → IsMadeOf None rides None journey → IsJourney (IsRideAt made.runs) query made.doc journey
