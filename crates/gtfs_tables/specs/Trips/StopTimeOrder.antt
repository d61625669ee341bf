-- The order of stop times.
use Rattle.std.specs.Prelude.{List}
use Rattle.std.specs.Ordering.{nat_cmp, then_cmp, on}
use Rattle.std.specs.declared.cmp.Ordering.{Ordering}
use Rattle.lc_model.specs.Order.{IsStrict}
use Rattle.lc_model.specs.Text.{id_cmp}
use Rattle.gtfs_tables.specs.declared.trips.stop_times.StopTime.{StopTime}

-- stop times by trip, then by sequence
abbrev pub stop_time_cmp : StopTime → StopTime → Ordering
stop_time_cmp = then_cmp (on (λ t. t.trip) id_cmp) (on (λ t. t.seq) nat_cmp)

-- stop times are strictly in the order of trip and sequence
abbrev pub InTripOrder : List StopTime → Type 0
InTripOrder times = IsStrict stop_time_cmp times
