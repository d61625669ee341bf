-- Which ends of a client of the small feed are best.
use Rattle.std.proofs.Common.{◌≡◌, ◌∙◌, ◌+◌, ◌<◌, ◌≤◌, ◌∷◌, ℕ, Bool, true, false, [], Some, None, ap, arith, cond, lit<, nat_le, refl, subst, sym}
use Rattle.std.proofs.lemmas.Bool.Decides.{nat_tests}
use Rattle.cli_ask.specs.Publishing.{side_with, store_of}
use Rattle.convoy.specs.ClientLaws.Answered.{AnswersAt}
use Rattle.lc_model.specs.Journey.{IsAnswer, arrives_at}
use Rattle.lc_model.specs.Laws.{OneArrival}
use Rattle.lc_model.specs.Ride.{IsRideAt}
use Rattle.lc_model.specs.declared.answer.Answer.{Answer}
use Rattle.lc_model.specs.declared.answer.Answer.TheVariants as answers
use Rattle.lc_model.specs.declared.journey.Journey.{Journey}
use Rattle.lc_model.specs.declared.query.Query.{Query}
use Rattle.lc_model.specs.Versions.Named.{last_of}
use Rattle.live_calls.specs.Laws.{LiveWithoutNews, RunsAreLive}
use Rattle.page_client.specs.declared.outcome.Outcome.TheVariants as outcomes
use Rattle.timetable.specs.Tiny.{moment}
use Rattle.lc_cli.specs.Headline.{outcome_of}
use Rattle.lc_cli.specs.NearHeadline.{EndAtOneVersion, EndAtTheBase, EndAtTheMessage, IsBestEnd, IsNoBestEnd, within}
use Rattle.lc_cli.specs.Tiny.{IsMadeOf, from_a_to_d, nine_minutes_late, worked}
use Rattle.lc_cli.proofs.TinyLemmas.{apart, none_within, refused_arrival, worked_answers, worked_arrives}

-- the worked rides are a best end
pub worked_is_best : RunsAreLive → (journey : Journey) → IsMadeOf None worked None journey → IsBestEnd from_a_to_d (answers.Journey journey)
worked_is_best are_live journey made publishing =
    let answered = worked_answers are_live journey made publishing publishing.base_moment in
    (answered.0, answered.1, record { version_is = refl; answer = answers.Journey journey; is_best = answered.2; outcome_is = refl })

-- the version is the one that is meant
pub at_one_version : (query : Query) → EndAtOneVersion query
at_one_version query publishing version answer (made, is_tiny, best) =
    let same : Some version ≡ Some publishing.base_moment = best.version_is in
    cc

-- an outcome has one answer
pub one_answer_of : (journey : Journey) (answer : Answer) → outcomes.Found journey ≡ outcome_of answer → answer ≡ answers.Journey journey
one_answer_of journey (answers.Journey other) e =
    let same : journey ≡ other = cc in
    ap (λ (j : Journey). answers.Journey j) (sym same)
one_answer_of journey answers.NoJourney e = absurd (cc)

-- a later journey is no best end
pub later_is_not_best : LiveWithoutNews → OneArrival → (journey : Journey) → IsMadeOf None nine_minutes_late None journey → IsNoBestEnd from_a_to_d (answers.Journey journey)
later_is_not_best without one_arrival journey made publishing version (timetable, is_tiny, best) =
    refused_arrival without one_arrival nine_minutes_late (λ same. apart (moment 8 31) (moment 8 40) (lit< tt) (sym same)) journey made publishing publishing.base_moment (
      timetable,
      is_tiny,
      subst (λ (a : Answer). AnswersAt (side_with timetable publishing (store_of timetable publishing.base_moment)) publishing.base_moment from_a_to_d a)
          (one_answer_of journey best.answer best.outcome_is) best.is_best,
    )

-- nor is a journey that arrives after the horizon
pub beyond_is_not_best : (seconds : ℕ) → seconds < 1_860 → (journey : Journey) → IsMadeOf None worked None journey → IsNoBestEnd (within seconds) (answers.Journey journey)
beyond_is_not_best seconds short journey made publishing version (timetable, is_tiny, best) =
    let answer : IsAnswer (IsRideAt best.is_best.live) (within seconds) timetable.doc (answers.Journey journey) =
    subst (λ (a : Answer). IsAnswer (IsRideAt best.is_best.live) (within seconds) timetable.doc a) (one_answer_of journey best.answer best.outcome_is) best.is_best.is_answer in
    let soon : arrives_at journey ≤ moment 8 0 + seconds = answer.is_journey.in_time in
    let late : arrives_at journey ≡ moment 8 31 = worked_arrives journey made in
    omega (arith, soon, late, short)

-- within such a horizon there is none
pub none_is_best : RunsAreLive → (seconds : ℕ) → seconds < 1_860 → IsBestEnd (within seconds) answers.NoJourney
none_is_best are_live seconds short publishing =
    let answered = none_within are_live publishing publishing.base_moment seconds short in
    (answered.0, answered.1, record { version_is = refl; answer = answers.NoJourney; is_best = answered.2; outcome_is = refl })

-- the last moment of one that is kept or not
kept : (test : Bool) (base moment : ℕ) → test ≡ true → last_of base (cond test (moment ∷ []) []) ≡ moment
kept true base moment is = refl
kept false base moment is = absurd (cc)

not_kept : (test : Bool) (base moment : ℕ) → test ≡ false → last_of base (cond test (moment ∷ []) []) ≡ base
not_kept true base moment is = absurd (cc)
not_kept false base moment is = refl

-- who knows a message means its version, and who does not means the base
pub at_the_message : EndAtTheMessage
at_the_message publishing update bytes known version answer knows (made, is_tiny, best) =
    let test : nat_le update.moment known ≡ true = grind (arith, nat_tests) in
    let same : Some version ≡ Some (last_of publishing.base_moment (cond (nat_le update.moment known) (update.moment ∷ []) [])) = best.version_is in
    let meant : version ≡ last_of publishing.base_moment (cond (nat_le update.moment known) (update.moment ∷ []) []) = cc in
    meant ∙ kept (nat_le update.moment known) publishing.base_moment update.moment test

pub at_the_base : EndAtTheBase
at_the_base publishing update bytes known version answer knows (made, is_tiny, best) =
    let test : nat_le update.moment known ≡ false = grind (arith, nat_tests) in
    let same : Some version ≡ Some (last_of publishing.base_moment (cond (nat_le update.moment known) (update.moment ∷ []) [])) = best.version_is in
    let meant : version ≡ last_of publishing.base_moment (cond (nat_le update.moment known) (update.moment ∷ []) []) = cc in
    meant ∙ not_kept (nat_le update.moment known) publishing.base_moment update.moment test
