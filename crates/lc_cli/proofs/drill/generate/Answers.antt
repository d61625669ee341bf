use Rattle.std.proofs.Common.{refl}
use Rattle.lc_cli.proofs.drill.generate.Goals as goal

pub returns-clause-replay : goal.returns-clause-replay
returns-clause-replay c = (refl, c.in_ok-replay.ensures)
