use Rattle.lc_world.proofs.GoneOnLemmas.{no_gets}
use Rattle.back_client.proofs.asking.with_doc.Goals as goal

pub returns-in-Err-UnknownFrom-clause-left : goal.returns-in-Err-UnknownFrom-clause-left
returns-in-Err-UnknownFrom-clause-left g c = no_gets _

pub returns-in-Err-UnknownTo-clause-left : goal.returns-in-Err-UnknownTo-clause-left
returns-in-Err-UnknownTo-clause-left g c = no_gets _

pub returns-clause-left : goal.returns-clause-left
returns-clause-left g c = no_gets _
