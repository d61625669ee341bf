use Rattle.lc_cli.proofs.WorkedFewestLemmas.{at_one_version, has_two_best_rides, refuses_a_ride_fewer, refuses_a_ride_more, refuses_no_journey, takes_one_ride, takes_two_rides}
use Rattle.lc_cli.proofs.worked_questions.worked_fewest.Goals as goal

pub returns-clause-takes_one_ride : goal.returns-clause-takes_one_ride
returns-clause-takes_one_ride c = takes_one_ride c.live_without_news.ensures.runs

pub returns-clause-has_two_best_rides : goal.returns-clause-has_two_best_rides
returns-clause-has_two_best_rides c = has_two_best_rides c.live_without_news.ensures.runs

pub returns-clause-refuses_a_ride_more : goal.returns-clause-refuses_a_ride_more
returns-clause-refuses_a_ride_more c = refuses_a_ride_more c.live_without_news.ensures.live

pub returns-clause-takes_two_rides : goal.returns-clause-takes_two_rides
returns-clause-takes_two_rides c = takes_two_rides c.live_without_news.ensures.runs

pub returns-clause-refuses_a_ride_fewer : goal.returns-clause-refuses_a_ride_fewer
returns-clause-refuses_a_ride_fewer c = refuses_a_ride_fewer c.live_without_news.ensures.live

pub returns-clause-refuses_no_journey : goal.returns-clause-refuses_no_journey
returns-clause-refuses_no_journey c = refuses_no_journey c.live_without_news.ensures.live

pub returns-clause-refuses_other_versions : goal.returns-clause-refuses_other_versions
returns-clause-refuses_other_versions c = at_one_version
