use Rattle.cli_replay.proofs.PlanLawsLemmas.NearLemmas.{no_version_at_gate, none_is_counted_twice, none_is_lost, not_anothers, not_newer, not_one_more, some_version_else}
use Rattle.cli_replay.proofs.plan_laws.near.near_plans.Goals as goal

pub returns : goal.returns
returns c = record {
  anothers = not_anothers;
  newer = not_newer;
  lost = none_is_lost;
  one_more = not_one_more;
  counted = none_is_counted_twice;
  at_gate = no_version_at_gate;
  elsewhere = some_version_else;
}
