use Rattle.std.proofs.Common.{◌-◌}
use Rattle.std.specs.Prelude.{slice_range}
use Rattle.trip_updates.specs.Table.{trip_update}
use Rattle.trip_updates.specs.Faults.{read}
use Rattle.trip_updates.specs.Shows.{ShowsTrip}
use Rattle.trip_updates.proofs.WalkingLemmas.{Going}
use Rattle.trip_updates.proofs.trip.read_trip.Given as goal

abbrev pub invariant-loop-trip : goal.invariant-loop-trip
invariant-loop-trip l =
    Going ShowsTrip (read 1) trip_update l.bytes l.to l.trip l.at (read 2 trip_update l.from (slice_range l.bytes l.from l.to))

abbrev pub decreases-loop-trip : goal.decreases-loop-trip
decreases-loop-trip l = l.to - l.at
