use Rattle.std.proofs.Common.{◌-◌}
use Rattle.std.specs.Prelude.{slice_range}
use Rattle.trip_updates.specs.Table.{feed_header}
use Rattle.trip_updates.specs.Faults.{read}
use Rattle.trip_updates.specs.Shows.{ShowsHeader}
use Rattle.trip_updates.proofs.WalkingLemmas.{Going}
use Rattle.trip_updates.proofs.header.read_header.Given as goal

abbrev pub invariant-loop-field : goal.invariant-loop-field
invariant-loop-field l =
    Going ShowsHeader (read 2) feed_header l.bytes l.to l.header l.at (read 3 feed_header l.from (slice_range l.bytes l.from l.to))

abbrev pub decreases-loop-field : goal.decreases-loop-field
decreases-loop-field l = l.to - l.at
