use Rattle.lc_world.proofs.GoneOnLemmas.{no_gets}
use Rattle.lc_cli.proofs.plan.plan_block.Goals as goal

pub returns-in-Err-clause-left : goal.returns-in-Err-clause-left
returns-in-Err-clause-left g c = no_gets _
