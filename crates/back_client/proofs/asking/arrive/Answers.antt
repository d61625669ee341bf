use Rattle.lc_world.proofs.GoneOnLemmas.{no_gets}
use Rattle.back_client.proofs.asking.arrive.Goals as goal

pub returns-in-Some-clause-left : goal.returns-in-Some-clause-left
returns-in-Some-clause-left g c = no_gets _
