-- No two visits up to this place that are side by side are out of order.
use Rattle.std.proofs.Common.{◌≡◌, ℕ, ◌+◌, ◌<◌, get_or}
use Rattle.std.specs.declared.cmp.Ordering.TheVariants.{Less}
use Rattle.gtfs_tables.specs.Trips.Visits.{visit_cmp}
use Rattle.gtfs_tables.specs.declared.trips.visits.Visit.{Visit}
use Rattle.gtfs_tables.proofs.trips.sound_visits.are_rising.Given as goal

abbrev pub invariant-visits : goal.invariant-visits
invariant-visits l = (k : ℕ) (d : Visit) → k + 1 < l.place → visit_cmp (get_or l.visits k d) (get_or l.visits (k + 1) d) ≡ Less
