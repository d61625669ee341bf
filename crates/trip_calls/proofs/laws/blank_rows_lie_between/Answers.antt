use Rattle.trip_calls.proofs.BlankLemmas.{lie_between}
use Rattle.trip_calls.proofs.laws.blank_rows_lie_between.Goals as goal

pub returns : goal.returns
returns c = lie_between
