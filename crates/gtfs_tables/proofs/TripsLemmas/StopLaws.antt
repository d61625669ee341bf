-- stops.txt says one list of stops, or has one first fault, and never both.
use Rattle.std.proofs.Common.{◌≡◌, map, subst}
use Rattle.std.proofs.lemmas.Cmp.{nat_list_cmp_total, on_total}
use Rattle.std.specs.List.Sorted.{IsPermutation}
use Rattle.std.specs.Ordering.{on}
use Rattle.gtfs_rows.specs.Sheet.{Sheet}
use Rattle.lc_model.specs.Text.{id_cmp}
use Rattle.lc_model.specs.declared.stop.Stop.{Stop}
use Rattle.lc_model.proofs.OrdersLemmas.{strict_orders_are_one}
use Rattle.gtfs_tables.proofs.FieldsLemmas.TableLaws.{file_faults_are_one, sound_has_no_fault, sound_sheets_are_one}
use Rattle.gtfs_tables.specs.Trips.Laws.{NeverBothStops, OneStops, OneStopsFault}
use Rattle.gtfs_tables.specs.Trips.Stops.{most_stops, stop_of, stop_rule_at, stops_columns}

pub stops_are_one : OneStops
stops_are_one bytes a b h k =
    let same : h.sheet ≡ k.sheet = sound_sheets_are_one stops_columns most_stops bytes stop_rule_at h.sheet k.sheet h.sound k.sound in
    strict_orders_are_one (on (λ (s : Stop). s.id) id_cmp) (on_total (λ (s : Stop). s.id) nat_list_cmp_total) (map (stop_of k.sheet) k.sheet.rows) a b
    (subst (λ (s : Sheet). IsPermutation (map (stop_of s) s.rows) a) same h.are) k.are h.in_order k.in_order

pub stops_faults_are_one : OneStopsFault
stops_faults_are_one bytes = file_faults_are_one stops_columns most_stops bytes stop_rule_at

pub stops_have_no_fault : NeverBothStops
stops_have_no_fault bytes stops fault h k = sound_has_no_fault stops_columns most_stops bytes stop_rule_at h.sheet fault h.sound k
