use Rattle.std.proofs.Common.{List, ap, sym, subst, ◌∙◌, rules}
use Rattle.std.specs.List.{All}
use Rattle.lc_model.specs.Call.{InSequence}
use Rattle.lc_model.specs.Connection.{AreConnectionsOf, connections_of, departure_cmp}
use Rattle.lc_model.specs.Run.{InKeyOrder}
use Rattle.lc_model.specs.declared.run.Run.{Run}
use Rattle.lc_model.proofs.ConnectionLemmas.{AreConnectionsOf-sorted, NoneArrivesEarly-sorted}
use Rattle.lc_model.specs.Totals.{departure_cmp_total}
use Rattle.lc_model.proofs.OrdersLemmas.{IsSorted-from_closure}
use Rattle.trip_calls.proofs.run_connections.connections.Goals as goal

abbrev RiseInRuns : List Run → Type 0
RiseInRuns runs = All (λ (r : Run). InSequence r.calls) runs

pub from_list-requires : goal.from_list-requires
from_list-requires c =
    let runs = c.args.runs.now in
    let made = c.in_ok-connections.ensures.are ∙ ap connections_of c.as_slice.ensures.value in
    NoneArrivesEarly-sorted runs _ _ c.requires made c.sort_unstable_by.ensures.permutation

pub returns : goal.returns
returns c =
    let runs = c.args.runs.now in
    let made = c.in_ok-connections.ensures.are ∙ ap connections_of c.as_slice.ensures.value in
    let up = subst InKeyOrder c.as_slice.ensures.value c.as_slice.ensures.in_order in
    let rise = subst RiseInRuns c.as_slice.ensures.value c.in_ok-connections.ensures.in_sequence in
    let by_departure = IsSorted-from_closure departure_cmp departure_cmp_total c.sort_unstable_by.new.self.items c.sort_unstable_by.ensures.sorted (λ f a r f' k. search rules) in
    subst (AreConnectionsOf runs) (sym c.from_list.ensures) (AreConnectionsOf-sorted runs _ _ up rise made c.sort_unstable_by.ensures.permutation by_departure)
