use Rattle.std.proofs.Common.{◌-◌}
use Rattle.std.specs.Prelude.{slice_range}
use Rattle.trip_updates.specs.Table.{trip_descriptor}
use Rattle.trip_updates.specs.Faults.{read}
use Rattle.trip_updates.specs.Shows.{ShowsDescriptor}
use Rattle.trip_updates.proofs.WalkingLemmas.{Going}
use Rattle.trip_updates.proofs.descriptor.read_descriptor.Given as goal

abbrev pub invariant-loop-field : goal.invariant-loop-field
invariant-loop-field l =
    Going ShowsDescriptor (read 0) trip_descriptor l.bytes l.to l.descriptor l.at (read 1 trip_descriptor l.from (slice_range l.bytes l.from l.to))

abbrev pub decreases-loop-field : goal.decreases-loop-field
decreases-loop-field l = l.to - l.at
