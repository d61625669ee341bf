use Rattle.std.proofs.Common.{refl}
use Rattle.std.proofs.lemmas.Cmp.{nat_list_cmp_total, on_total}
use Rattle.std.proofs.lemmas.Map.Lookups.{exact_bytes}
use Rattle.std.specs.Ordering.{on}
use Rattle.lc_model.specs.Text.{id_cmp}
use Rattle.lc_model.specs.declared.stop.Stop.{Stop}
use Rattle.lc_model.proofs.OrdersLemmas.{apart_permuted, strict_from_sorted}
use Rattle.gtfs_tables.proofs.TripsLemmas.Keys.{apart_from_distinct}
use Rattle.gtfs_tables.proofs.trips.stops.sorted_stops.Goals as goal

pub from_list-requires : goal.from_list-requires
from_list-requires c =
    let total = on_total (λ (s : Stop). s.id) nat_list_cmp_total in
    strict_from_sorted (on (λ (s : Stop). s.id) id_cmp) total c.sort_by_id.new.stops.items c.in_ok-sort_by_id.ensures.sorted
    (apart_permuted (on (λ (s : Stop). s.id) id_cmp) total c.args.stops.items c.sort_by_id.new.stops.items c.sort_by_id.ensures.permutation
    (apart_from_distinct id_cmp nat_list_cmp_total exact_bytes (λ (s : Stop). s.id) (λ (s : Stop). s.id) c.args.stops.items c.args.stops.items refl c.requires))
