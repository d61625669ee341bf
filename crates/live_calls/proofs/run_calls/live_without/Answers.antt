use Rattle.std.proofs.Common.{sym, subst, None, ◌∙◌}
use Rattle.lc_model.specs.Call.{GoesForward}
use Rattle.live_calls.proofs.LiveLemmas.{live_go_forward}
use Rattle.live_calls.proofs.run_calls.live_without.Goals as goal

pub from_list-requires : goal.from_list-requires
from_list-requires c =
    let forward = live_go_forward c.as_slice-own.result.now None c.as_slice-own.ensures.in_order in
    (subst GoesForward (sym c.in_ok-live.ensures) forward).in_sequence

pub returns-then-are_kept-clause-forward : goal.returns-then-are_kept-clause-forward
returns-then-are_kept-clause-forward c =
    let forward = live_go_forward c.as_slice-own.result.now None c.as_slice-own.ensures.in_order in
    subst GoesForward (c.are_kept.ensures c.if-are_kept.true ∙ sym (c.in_ok-copy.ensures ∙ sym c.as_slice-own.ensures.value)) forward

pub returns-clause-forward : goal.returns-clause-forward
returns-clause-forward c =
    let forward = live_go_forward c.as_slice-own.result.now None c.as_slice-own.ensures.in_order in
    subst GoesForward (sym (c.from_list.ensures ∙ c.in_ok-live.ensures)) forward
