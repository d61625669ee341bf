use Rattle.lc_cli.proofs.NearFewestLemmas as lemmas
use Rattle.lc_cli.proofs.laws.near_fewest.Goals as goal

pub returns-clause-ride_more : goal.returns-clause-ride_more
returns-clause-ride_more c = lemmas.not_one_ride_more c.fewest_at_version.ensures.alike

pub returns-clause-ride_fewer : goal.returns-clause-ride_fewer
returns-clause-ride_fewer c = lemmas.not_one_ride_fewer c.fewest_at_version.ensures.alike

pub returns-clause-none : goal.returns-clause-none
returns-clause-none c = lemmas.not_no_journey c.fewest_at_version.ensures.alike

pub returns-clause-version : goal.returns-clause-version
returns-clause-version c = lemmas.not_another_version
