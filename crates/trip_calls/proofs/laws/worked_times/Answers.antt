use Rattle.trip_calls.proofs.WorkedLemmas.{worked_times}
use Rattle.trip_calls.proofs.laws.worked_times.Goals as goal

pub returns : goal.returns
returns c = worked_times
