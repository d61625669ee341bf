use Rattle.std.proofs.Common.{◌+◌, lit<, sym}
use Rattle.timetable.specs.Tiny.{moment}
use Rattle.lc_cli.specs.Tiny.{a_second_late, nine_minutes_late, swapped}
use Rattle.lc_cli.proofs.TinyLemmas.{apart, later_is_journey, none_make_none, refused_arrival, refused_none, refused_walk, rides_make, worked_answers}
use Rattle.lc_cli.proofs.worked.worked_answer.Goals as goal

pub returns-clause-takes : goal.returns-clause-takes
returns-clause-takes c = worked_answers c.live_without_news.ensures.runs

pub returns-clause-refuses_no_journey : goal.returns-clause-refuses_no_journey
returns-clause-refuses_no_journey c = refused_none c.live_without_news.ensures.live c.one_arrival.ensures.answers

pub returns-clause-refuses_a_later_arrival : goal.returns-clause-refuses_a_later_arrival
returns-clause-refuses_a_later_arrival c =
    refused_arrival c.live_without_news.ensures.live c.one_arrival.ensures.answers a_second_late (λ same. apart (moment 8 31) (moment 8 31 + 1) (lit< tt) (sym same))

pub returns-clause-refuses_swapped_rides : goal.returns-clause-refuses_swapped_rides
returns-clause-refuses_swapped_rides c =
    refused_arrival c.live_without_news.ensures.live c.one_arrival.ensures.answers swapped (apart (moment 8 10) (moment 8 31) (lit< tt))

pub returns-clause-refuses_a_later_journey : goal.returns-clause-refuses_a_later_journey
returns-clause-refuses_a_later_journey c =
    refused_arrival c.live_without_news.ensures.live c.one_arrival.ensures.answers nine_minutes_late (λ same. apart (moment 8 31) (moment 8 40) (lit< tt) (sym same))

pub returns-clause-refuses_a_walk_in_place : goal.returns-clause-refuses_a_walk_in_place
returns-clause-refuses_a_walk_in_place c = refused_walk c.live_without_news.ensures.live c.one_arrival.ensures.answers

pub returns-clause-has_a_later_journey : goal.returns-clause-has_a_later_journey
returns-clause-has_a_later_journey c = later_is_journey

pub returns-clause-rides_make_journeys : goal.returns-clause-rides_make_journeys
returns-clause-rides_make_journeys c = rides_make

pub returns-clause-no_rides_make_none : goal.returns-clause-no_rides_make_none
returns-clause-no_rides_make_none c = none_make_none
