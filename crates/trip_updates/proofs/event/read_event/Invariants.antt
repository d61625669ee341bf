use Rattle.std.proofs.Common.{◌-◌, Ok}
use Rattle.std.specs.Prelude.{slice_range}
use Rattle.trip_updates.specs.Tree.{empty}
use Rattle.trip_updates.specs.Table.{stop_time_event}
use Rattle.trip_updates.specs.Faults.{read}
use Rattle.trip_updates.specs.Shows.{ShowsEvent}
use Rattle.trip_updates.proofs.WalkingLemmas.{Going}
use Rattle.trip_updates.proofs.event.read_event.Given as goal

abbrev pub invariant-loop-field : goal.invariant-loop-field
invariant-loop-field l =
    Going ShowsEvent (λ _ _ _. Ok empty) stop_time_event l.bytes l.to l.event l.at (read 0 stop_time_event l.from (slice_range l.bytes l.from l.to))

abbrev pub decreases-loop-field : goal.decreases-loop-field
decreases-loop-field l = l.to - l.at
