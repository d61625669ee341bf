use Rattle.std.proofs.Common.{◌+◌, lit<, sym}
use Rattle.timetable.specs.Tiny.{moment}
use Rattle.lc_cli.specs.WorkedQuestions.{leaving_a_second_earlier, leaving_a_second_later}
use Rattle.lc_cli.proofs.TinyLemmas.{apart}
use Rattle.lc_cli.proofs.WorkedLatestLemmas.{all_leave_at_eight, never_none, nine_is_earlier, nine_is_journey, none_yet, not_yet, other_departure, ten_leaves_latest, worked_leaves_latest}
use Rattle.lc_cli.proofs.worked_questions.worked_latest.Goals as goal

pub returns-clause-takes : goal.returns-clause-takes
returns-clause-takes c = worked_leaves_latest c.live_without_news.ensures.runs

pub returns-clause-takes_one_departure : goal.returns-clause-takes_one_departure
returns-clause-takes_one_departure c = all_leave_at_eight c.live_without_news.ensures.live

pub returns-clause-refuses_no_journey : goal.returns-clause-refuses_no_journey
returns-clause-refuses_no_journey c = never_none c.live_without_news.ensures.live

pub returns-clause-refuses_a_later_departure : goal.returns-clause-refuses_a_later_departure
returns-clause-refuses_a_later_departure c =
    other_departure c.live_without_news.ensures.live leaving_a_second_later (λ same. apart (moment 8 0) (moment 8 0 + 1) (lit< tt) (sym same))

pub returns-clause-refuses_an_earlier_departure : goal.returns-clause-refuses_an_earlier_departure
returns-clause-refuses_an_earlier_departure c =
    other_departure c.live_without_news.ensures.live leaving_a_second_earlier (apart (moment 7 59 + 59) (moment 8 0) (lit< tt))

pub returns-clause-refuses_after_the_moment : goal.returns-clause-refuses_after_the_moment
returns-clause-refuses_after_the_moment c = not_yet c.live_without_news.ensures.live

pub returns-clause-takes_none_before_the_moment : goal.returns-clause-takes_none_before_the_moment
returns-clause-takes_none_before_the_moment c = none_yet c.live_without_news.ensures.runs

pub returns-clause-takes_the_later_journey : goal.returns-clause-takes_the_later_journey
returns-clause-takes_the_later_journey c = ten_leaves_latest c.live_without_news.ensures.runs

pub returns-clause-has_an_earlier_journey : goal.returns-clause-has_an_earlier_journey
returns-clause-has_an_earlier_journey c = nine_is_journey

pub returns-clause-refuses_the_earlier_journey : goal.returns-clause-refuses_the_earlier_journey
returns-clause-refuses_the_earlier_journey c = nine_is_earlier c.live_without_news.ensures.live
