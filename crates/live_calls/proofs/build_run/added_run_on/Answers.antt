use Rattle.std.proofs.Common.{sym, subst}
use Rattle.lc_model.specs.Call.{GoesForward}
use Rattle.live_calls.proofs.AddedLemmas.{added_go_forward}
use Rattle.live_calls.proofs.build_run.added_run_on.Goals as goal

pub from_list-calls-requires : goal.from_list-calls-requires
from_list-calls-requires c = (subst GoesForward (sym c.in_ok-calls.ensures) (added_go_forward c.as_slice.result.now c.as_slice-2.result.now)).in_sequence
