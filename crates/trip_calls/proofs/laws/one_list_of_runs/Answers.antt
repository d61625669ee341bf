use Rattle.trip_calls.proofs.TotalLemmas.{one_list_of_runs}
use Rattle.trip_calls.proofs.laws.one_list_of_runs.Goals as goal

pub returns : goal.returns
returns c = one_list_of_runs
