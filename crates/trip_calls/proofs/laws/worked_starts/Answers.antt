use Rattle.trip_calls.proofs.WorkedLemmas.{worked_starts}
use Rattle.trip_calls.proofs.laws.worked_starts.Goals as goal

pub returns : goal.returns
returns c = worked_starts
