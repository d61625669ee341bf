use Rattle.lc_world.proofs.GoneOnLemmas.{no_gets}
use Rattle.convoy.proofs.turning.turned.Goals as goal

pub returns-in-Finished-clause-left : goal.returns-in-Finished-clause-left
returns-in-Finished-clause-left g c = no_gets _
