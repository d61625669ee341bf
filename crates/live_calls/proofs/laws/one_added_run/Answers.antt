use Rattle.live_calls.proofs.LawLemmas.{one_run}
use Rattle.live_calls.proofs.laws.one_added_run.Goals as goal

pub returns : goal.returns
returns c = one_run
