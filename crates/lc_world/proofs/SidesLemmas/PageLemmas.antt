-- Departures of connections in their order.
use Rattle.std.proofs.Common.{ℕ, ◌≡◌, ◌≤◌, List}
use Rattle.std.specs.declared.cmp.Ordering.TheVariants.{Less}
use Rattle.lc_model.specs.Connection.{InDepartureOrder, departure_cmp}
use Rattle.lc_model.specs.declared.connection.Connection.{Connection}
use Rattle.lc_model.proofs.ConnectionLemmas.{departs_by}
use Rattle.lc_model.proofs.ListLemmas.{AllPairs-map, AllPairs-weaker}
use Rattle.lc_model.specs.Versions.Cuts.{NeverFalls}
use Rattle.lc_model.specs.Versions.Pages.{departures_of}

-- in departure order no departure is before an earlier one
pub never_falls : (list : List Connection) → InDepartureOrder list → NeverFalls (departures_of list)
never_falls list in_order =
    AllPairs-map (λ (x y : ℕ). x ≤ y) (λ (c : Connection). c.dep) list
    (AllPairs-weaker (λ (c d : Connection). departure_cmp c d ≡ Less) (λ (c d : Connection). c.dep ≤ d.dep) list (λ c d of_c of_d less. departs_by c d less) in_order)
