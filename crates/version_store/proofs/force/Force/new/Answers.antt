use Rattle.version_store.proofs.FiledLemmas.{nothing_at}
use Rattle.version_store.proofs.force.Force.new.Goals as goal

pub returns-clause-ids : goal.returns-clause-ids
returns-clause-ids c = nothing_at c.new.result c.new.ensures.empty

pub returns-clause-trips : goal.returns-clause-trips
returns-clause-trips c = nothing_at c.new-2.result c.new-2.ensures.empty
