-- Whose failure an exchange was that failed over an honest link.
use Rattle.std.proofs.Common.{◌∙◌, ◌+◌, ℕ, List, ap}
use Rattle.convoy.specs.Agreement.Names.{Round}
use Rattle.cli_replay.specs.PlanLaws.Laws.{PlanFaultsAreOwn}
use Rattle.cli_replay.proofs.ReplayLawsLemmas.FaultLemmas.{none_failed, one_failed, one_pair, only_fault}
use Rattle.cli_replay.specs.ReplayLaws.Turns.{failed_in, given_in, order_of, rounds_of}
use Rattle.lc_world.specs.Link.{LinkSeen}
use Rattle.page_client.specs.declared.outcome.Outcome.TheVariants as outcomes

pub plan_faults_are_own : {X : Type 0} (seen : X → LinkSeen) → PlanFaultsAreOwn seen
plan_faults_are_own seen base first all cache start after ends caused planned place query end asks ended low high fell =
    let so = planned.clients place query end asks ended in
    let order = order_of all in
    let own : List Round = rounds_of (place + 1) order planned.rounds in
    let met_in = planned.rounds_are.met_in in
    let by_fault = only_fault planned.last query end.version (given_in own) (failed_in own) end.outcome so.failed
    (λ none. none_failed (place + 1) order planned.rounds caused.met low high met_in none fell) in
    let one = one_failed planned.last query end.version (given_in own) (failed_in own) end.outcome by_fault.0 by_fault.1 so.failed by_fault.2 in
    let same = one_pair (place + 1) order planned.rounds caused.met one.0 by_fault.0 by_fault.1 low high met_in one.1
    ((caused.clients place query end asks ended).fault by_fault.0 by_fault.1 by_fault.2) fell in
    by_fault.2 ∙ ap (λ (l : ℕ). outcomes.LinkFault l by_fault.1) same.0 ∙ ap (outcomes.LinkFault low) same.1
