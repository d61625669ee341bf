use Rattle.std.proofs.Common.{◌≡◌, ℕ, List, take}
use Rattle.std.specs.List.{list_any}
use Rattle.lc_model.specs.Change.{is_same_id}
use Rattle.gtfs_tables.specs.Trips.Timing.{is_left_out}
use Rattle.gtfs_tables.specs.declared.trips.left_out.Stopless.{Stopless}
use Rattle.gtfs_tables.proofs.trips.left_out.stopless_trips.Given as goal

abbrev pub invariant-visits : goal.invariant-visits
invariant-visits l = (trip : List ℕ) → list_any (λ (s : Stopless). is_same_id s.trip trip) l.stopless.items ≡ is_left_out (take l.visit-index l.visits) trip
