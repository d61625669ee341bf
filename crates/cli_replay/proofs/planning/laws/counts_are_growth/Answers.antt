use Rattle.cli_replay.proofs.PlanningLemmas.RelayedLemmas.{counts_growth}
use Rattle.cli_replay.proofs.planning.laws.counts_are_growth.Goals as goal

pub returns : goal.returns
returns g c = counts_growth g.L.Link.seen c.counts_are_since.ensures.lengths
