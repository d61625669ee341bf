use Rattle.cli_replay.proofs.PlanLawsLemmas.AloneLemmas.{one_client_asks}
use Rattle.cli_replay.proofs.plan_laws.laws.one_client_asks.Goals as goal

pub returns : goal.returns
returns g c = one_client_asks g.L.Link.seen c.alone_asks_all.ensures
