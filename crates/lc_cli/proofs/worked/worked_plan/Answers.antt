use Rattle.std.proofs.Common.{lit<}
use Rattle.lc_cli.proofs.NearPlanLemmas.{after_the_message, before_the_message, beyond_is_no_best_plan, later_is_no_best_plan, none_is_best_plan, not_without_gate, plan_at_one_version, worked_is_best_plan}
use Rattle.lc_cli.proofs.worked.worked_plan.Goals as goal

pub returns-clause-takes : goal.returns-clause-takes
returns-clause-takes c = worked_is_best_plan c.live_without_news.ensures.runs

pub returns-clause-refuses_other_versions : goal.returns-clause-refuses_other_versions
returns-clause-refuses_other_versions c = plan_at_one_version

pub returns-clause-refuses_newer_versions : goal.returns-clause-refuses_newer_versions
returns-clause-refuses_newer_versions c = before_the_message

pub returns-clause-refuses_older_versions : goal.returns-clause-refuses_older_versions
returns-clause-refuses_older_versions c = after_the_message

pub returns-clause-refuses_no_gate : goal.returns-clause-refuses_no_gate
returns-clause-refuses_no_gate c = not_without_gate

pub returns-clause-refuses_a_later_journey : goal.returns-clause-refuses_a_later_journey
returns-clause-refuses_a_later_journey c = later_is_no_best_plan c.live_without_news.ensures.live c.one_arrival.ensures.answers

pub returns-clause-refuses_after_the_horizon : goal.returns-clause-refuses_after_the_horizon
returns-clause-refuses_after_the_horizon c = beyond_is_no_best_plan 1_859 (lit< tt)

pub returns-clause-takes_none_within_the_horizon : goal.returns-clause-takes_none_within_the_horizon
returns-clause-takes_none_within_the_horizon c = none_is_best_plan c.live_without_news.ensures.runs 1_859 (lit< tt)
