use Rattle.version_store.proofs.WorkedLemmas as worked
use Rattle.version_store.proofs.laws.worked_store.Goals as goal

pub returns-clause-runs : goal.returns-clause-runs
returns-clause-runs c = worked.worked_runs

pub returns-clause-rows : goal.returns-clause-rows
returns-clause-rows c = worked.worked_rows

pub returns-clause-further : goal.returns-clause-further
returns-clause-further c = worked.worked_further

pub returns-clause-refusals : goal.returns-clause-refusals
returns-clause-refusals c = worked.worked_refusals
