-- Runs have one list of connections in departure order.
use Rattle.std.proofs.Common.{◌≡◌, List, ap, sym, subst, ◌∙◌}
use Rattle.std.specs.Ordering.{on}
use Rattle.lc_model.specs.Connection.{AreConnectionsOf, connections_of, departure_cmp}
use Rattle.lc_model.specs.RunKey.{key_cmp}
use Rattle.lc_model.specs.Totals.{departure_cmp_total, run_cmp_total}
use Rattle.lc_model.specs.declared.connection.Connection.{Connection}
use Rattle.lc_model.specs.declared.run.Run.{Run}
use Rattle.lc_model.proofs.OrdersLemmas.{strict_lists_are_one, strict_orders_are_one}
use Rattle.lc_model.specs.Versions.Pages.{departing, departures_of}
use Rattle.version_store.specs.Index.Laws.{OneListOfRows}
use Rattle.version_store.specs.Index.Rows.{AreConnections, AreInKeyOrder}

one_order_of : (runs a b : List Run) → AreInKeyOrder runs a → AreInKeyOrder runs b → a ≡ b
one_order_of runs a b of_a of_b =
    strict_lists_are_one (on (λ (r : Run). r.key) key_cmp) run_cmp_total a b of_a.in_order of_b.in_order (λ r h. (of_b.exactly r).1 ((of_a.exactly r).0 h)) (λ r h. (of_a.exactly r).1 ((of_b.exactly r).0 h))

one_list : (runs : List Run) (a b : List Connection) → AreConnections runs a → AreConnections runs b → a ≡ b
one_list runs a b of_a of_b =
    let same = one_order_of runs of_b.live of_a.live of_b.are_runs of_a.are_runs in
    let moved = subst (λ (v : List Run). AreConnectionsOf v b) same of_b.are_connections in
    strict_orders_are_one departure_cmp departure_cmp_total (connections_of of_a.live) a b of_a.are_connections.all moved.all of_a.are_connections.in_order moved.in_order

pub one_list_of_rows : OneListOfRows
one_list_of_rows = record {
  rows = λ runs from to a b of_a of_b. of_a.departing ∙ ap (departing from to) (one_list runs of_a.all of_b.all of_a.of_runs of_b.of_runs) ∙ sym of_b.departing;
  departures = λ runs a b of_a of_b. of_a.one_each ∙ ap departures_of (one_list runs of_a.all of_b.all of_a.of_runs of_b.of_runs) ∙ sym of_b.one_each;
}
