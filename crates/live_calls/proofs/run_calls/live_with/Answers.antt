use Rattle.std.proofs.Common.{sym, subst, Some, ◌∙◌}
use Rattle.lc_model.specs.Call.{GoesForward}
use Rattle.live_calls.proofs.LiveLemmas.{live_go_forward}
use Rattle.live_calls.proofs.run_calls.live_with.Goals as goal

pub from_list-requires : goal.from_list-requires
from_list-requires c =
    let forward = live_go_forward c.as_slice.result.now (Some c.args.news.now) c.as_slice.ensures.in_order in
    (subst GoesForward (sym c.in_ok-live.ensures) forward).in_sequence

pub returns-clause-forward : goal.returns-clause-forward
returns-clause-forward c =
    let forward = live_go_forward c.as_slice.result.now (Some c.args.news.now) c.as_slice.ensures.in_order in
    subst GoesForward (sym (c.from_list.ensures ∙ c.in_ok-live.ensures)) forward
