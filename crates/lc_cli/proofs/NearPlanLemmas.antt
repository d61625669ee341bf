-- Which ends of a client of `plan` are best by the small feed.
use Rattle.std.proofs.Common.{◌≡◌, ◌≢◌, ◌∙◌, ◌+◌, ◌<◌, ◌≤◌, ◌∷◌, ℕ, zero, suc, List, [], Some, None, ap, arith, lit<, refl, subst, sym}
use Rattle.std.specs.List.{All, slice_get}
use Rattle.std.proofs.lemmas.List.Elements.{All-cons, All-nil}
use Rattle.cli_ask.specs.declared.end.ClientEnd.{ClientEnd}
use Rattle.cli_words.specs.declared.command.Publishing.{Publishing}
use Rattle.convoy.specs.ClientLaws.Answered.{AnswersAt}
use Rattle.convoy.specs.Agreement.Names.{Round}
use Rattle.cli_replay.specs.PlanLaws.Worked.{received}
use Rattle.cli_replay.proofs.ReplayLawsLemmas.OneCourseLemmas.{at_place}
use Rattle.lc_model.specs.Journey.{IsAnswer, arrives_at}
use Rattle.lc_model.specs.Laws.{OneArrival}
use Rattle.lc_model.specs.Ride.{IsRideAt}
use Rattle.lc_model.specs.declared.answer.Answer.{Answer}
use Rattle.lc_model.specs.declared.answer.Answer.TheVariants as answers
use Rattle.lc_model.specs.declared.journey.Journey.{Journey}
use Rattle.lc_model.specs.declared.query.Query.{Query}
use Rattle.live_calls.specs.Laws.{LiveWithoutNews, RunsAreLive}
use Rattle.page_client.specs.declared.want.Want.{Want}
use Rattle.page_client.specs.declared.want.Want.TheVariants as wants
use Rattle.lc_world.specs.Sides.Side.{Side, with_message}
use Rattle.timetable.specs.Tiny.{moment}
use Rattle.timetable.specs.declared.timetable.Timetable.{Timetable}
use Rattle.lc_cli.specs.Headline.{EndsBestAt, IsGateSide, version_meant}
use Rattle.lc_cli.specs.NearPlan.{AreAfterGate, IsBestPlan, IsNoBestPlan, NotWithoutGate, PlanAfterTheMessage, PlanAtOneVersion, PlanBeforeTheMessage, bare_side}
use Rattle.lc_cli.specs.NearHeadline.{end_of, within}
use Rattle.lc_cli.specs.Tiny.{IsMadeOf, from_a_to_d, nine_minutes_late, worked}
use Rattle.lc_cli.proofs.NearHeadlineLemmas.{one_answer_of}
use Rattle.lc_cli.proofs.TinyLemmas.{apart, none_within, refused_arrival, worked_answers, worked_arrives}

-- the side is that of a publisher of this timetable, to which no message was admitted
abbrev IsBare : Timetable → Publishing → Side → Type 0
IsBare made publishing side = side ≡ bare_side made publishing

-- one turn at the time gate of such a publisher
gate_at : (made : Timetable) (publishing : Publishing) (rounds : List Round) → IsGateSide (received wants.Gate ∷ rounds) (bare_side made publishing ∷ []) (bare_side made publishing)
gate_at made publishing rounds = record { turn = 0; round = received wants.Gate; round_is = refl; more = []; gate = refl; side_is = refl }

one_bare : (made : Timetable) (publishing : Publishing) → All (IsBare made publishing) (bare_side made publishing ∷ [])
one_bare made publishing = All-cons (IsBare made publishing) (bare_side made publishing) [] refl (All-nil (IsBare made publishing))

-- the worked rides are a best end
pub worked_is_best_plan : RunsAreLive → (journey : Journey) → IsMadeOf None worked None journey → IsBestPlan from_a_to_d (answers.Journey journey)
worked_is_best_plan are_live journey made publishing rounds =
    let answered = worked_answers are_live journey made publishing publishing.base_moment in (
      answered.0,
      bare_side answered.0 publishing ∷ [],
      answered.1,
      one_bare answered.0 publishing,
      record {
        side = bare_side answered.0 publishing;
        is_gate_side = gate_at answered.0 publishing rounds;
        version_is = refl;
        answer = answers.Journey journey;
        is_best = answered.2;
        outcome_is = refl;
      },
    )

-- within such a horizon there is none
pub none_is_best_plan : RunsAreLive → (seconds : ℕ) → seconds < 1_860 → IsBestPlan (within seconds) answers.NoJourney
none_is_best_plan are_live seconds short publishing rounds =
    let answered = none_within are_live publishing publishing.base_moment seconds short in (
      answered.0,
      bare_side answered.0 publishing ∷ [],
      answered.1,
      one_bare answered.0 publishing,
      record {
        side = bare_side answered.0 publishing;
        is_gate_side = gate_at answered.0 publishing rounds;
        version_is = refl;
        answer = answers.NoJourney;
        is_best = answered.2;
        outcome_is = refl;
      },
    )

-- the version is the one that is meant
pub plan_at_one_version : (query : Query) → PlanAtOneVersion query
plan_at_one_version query publishing version answer rounds (made, sides, is_tiny, all, best) =
    let same : best.side ≡ bare_side made publishing =
    at_place (IsBare made publishing) sides best.is_gate_side.turn best.side all best.is_gate_side.side_is in
    let named : Some version ≡ Some publishing.base_moment = best.version_is ∙ ap (λ (side : Side). Some (version_meant side query)) same in
    cc

-- a later journey is no best end
pub later_is_no_best_plan : LiveWithoutNews → OneArrival → (journey : Journey) → IsMadeOf None nine_minutes_late None journey → IsNoBestPlan from_a_to_d (answers.Journey journey)
later_is_no_best_plan without one_arrival journey made publishing version rounds (timetable, sides, is_tiny, all, best) =
    let at : ℕ = version_meant best.side from_a_to_d in
    refused_arrival without one_arrival nine_minutes_late (λ same. apart (moment 8 31) (moment 8 40) (lit< tt) (sym same)) journey made publishing at (
      timetable,
      is_tiny,
      subst (λ (a : Answer). AnswersAt (bare_side timetable publishing) at from_a_to_d a) (one_answer_of journey best.answer best.outcome_is) best.is_best,
    )

-- nor is a journey that arrives after the horizon
pub beyond_is_no_best_plan : (seconds : ℕ) → seconds < 1_860 → (journey : Journey) → IsMadeOf None worked None journey → IsNoBestPlan (within seconds) (answers.Journey journey)
beyond_is_no_best_plan seconds short journey made publishing version rounds (timetable, sides, is_tiny, all, best) =
    let answer : IsAnswer (IsRideAt best.is_best.live) (within seconds) timetable.doc (answers.Journey journey) =
    subst (λ (a : Answer). IsAnswer (IsRideAt best.is_best.live) (within seconds) timetable.doc a) (one_answer_of journey best.answer best.outcome_is) best.is_best.is_answer in
    let soon : arrives_at journey ≤ moment 8 0 + seconds = answer.is_journey.in_time in
    let late : arrives_at journey ≡ moment 8 31 = worked_arrives journey made in
    omega (arith, soon, late, short)

-- a turn that begins at no time gate
abbrev IsAfterGate : Round → Type 0
IsAfterGate round = (more : List Want) → round.given ≢ wants.Gate ∷ more

-- the turn at the time gate was the first one
first_side : (rounds : List Round) (side : Side) (sides : List Side) (last : Side) (query : Query) (end : ClientEnd) → AreAfterGate rounds
    → (best : EndsBestAt (received wants.Gate ∷ rounds) (side ∷ sides) last query end) → side ≡ best.side
first_side rounds side sides last query end after best = by best.is_gate_side.turn best.is_gate_side.round_is best.is_gate_side.side_is where
  by : (turn : ℕ) → slice_get (received wants.Gate ∷ rounds) turn ≡ Some best.is_gate_side.round → slice_get (side ∷ sides) turn ≡ Some best.side → side ≡ best.side
  by zero round_is side_is = cc
  by (suc turn) round_is side_is = absurd (at_place IsAfterGate rounds turn best.is_gate_side.round after round_is best.is_gate_side.more best.is_gate_side.gate)

-- the version is that of the side at which the time gate replied
at_its_gate : (rounds : List Round) (side : Side) (sides : List Side) (last : Side) (version : ℕ) (answer : Answer) → AreAfterGate rounds
    → EndsBestAt (received wants.Gate ∷ rounds) (side ∷ sides) last from_a_to_d (end_of version answer) → version ≡ version_meant side from_a_to_d
at_its_gate rounds side sides last version answer after best =
    let same : side ≡ best.side = first_side rounds side sides last from_a_to_d (end_of version answer) after best in
    let named : Some version ≡ Some (version_meant side from_a_to_d) = best.version_is ∙ ap (λ (s : Side). Some (version_meant s from_a_to_d)) (sym same) in
    cc

pub before_the_message : PlanBeforeTheMessage
before_the_message made publishing update bytes version answer rounds sides after best =
    at_its_gate rounds (bare_side made publishing) sides (with_message (bare_side made publishing) update bytes) version answer after best

pub after_the_message : PlanAfterTheMessage
after_the_message made publishing update bytes version answer rounds sides after best =
    at_its_gate rounds (with_message (bare_side made publishing) update bytes) sides (with_message (bare_side made publishing) update bytes) version answer after best

pub not_without_gate : NotWithoutGate
not_without_gate rounds sides last query end after best =
    at_place IsAfterGate rounds best.is_gate_side.turn best.is_gate_side.round after best.is_gate_side.round_is best.is_gate_side.more best.is_gate_side.gate
