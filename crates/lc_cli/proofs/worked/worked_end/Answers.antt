use Rattle.std.proofs.Common.{lit<}
use Rattle.lc_cli.proofs.NearHeadlineLemmas.{at_one_version, at_the_base, at_the_message, beyond_is_not_best, later_is_not_best, none_is_best, worked_is_best}
use Rattle.lc_cli.proofs.worked.worked_end.Goals as goal

pub returns-clause-takes : goal.returns-clause-takes
returns-clause-takes c = worked_is_best c.live_without_news.ensures.runs

pub returns-clause-refuses_other_versions : goal.returns-clause-refuses_other_versions
returns-clause-refuses_other_versions c = at_one_version

pub returns-clause-refuses_older_versions : goal.returns-clause-refuses_older_versions
returns-clause-refuses_older_versions c = at_the_message

pub returns-clause-refuses_newer_versions : goal.returns-clause-refuses_newer_versions
returns-clause-refuses_newer_versions c = at_the_base

pub returns-clause-refuses_a_later_journey : goal.returns-clause-refuses_a_later_journey
returns-clause-refuses_a_later_journey c = later_is_not_best c.live_without_news.ensures.live c.one_arrival.ensures.answers

pub returns-clause-refuses_after_the_horizon : goal.returns-clause-refuses_after_the_horizon
returns-clause-refuses_after_the_horizon c = beyond_is_not_best 1_859 (lit< tt)

pub returns-clause-takes_none_within_the_horizon : goal.returns-clause-takes_none_within_the_horizon
returns-clause-takes_none_within_the_horizon c = none_is_best c.live_without_news.ensures.runs 1_859 (lit< tt)
