use Rattle.live_calls.proofs.LawLemmas.{one_live_list}
use Rattle.live_calls.proofs.laws.one_list_of_live_runs.Goals as goal

pub returns : goal.returns
returns c = one_live_list
