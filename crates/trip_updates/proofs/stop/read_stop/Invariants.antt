use Rattle.std.proofs.Common.{◌-◌}
use Rattle.std.specs.Prelude.{slice_range}
use Rattle.trip_updates.specs.Table.{stop_time_update}
use Rattle.trip_updates.specs.Faults.{read}
use Rattle.trip_updates.specs.Shows.{ShowsStop}
use Rattle.trip_updates.proofs.WalkingLemmas.{Going}
use Rattle.trip_updates.proofs.stop.read_stop.Given as goal

abbrev pub invariant-loop-field : goal.invariant-loop-field
invariant-loop-field l =
    Going ShowsStop (read 0) stop_time_update l.bytes l.to l.stop l.at (read 1 stop_time_update l.from (slice_range l.bytes l.from l.to))

abbrev pub decreases-loop-field : goal.decreases-loop-field
decreases-loop-field l = l.to - l.at
