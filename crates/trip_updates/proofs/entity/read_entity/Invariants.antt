use Rattle.std.proofs.Common.{◌-◌}
use Rattle.std.specs.Prelude.{slice_range}
use Rattle.trip_updates.specs.Table.{feed_entity}
use Rattle.trip_updates.specs.Faults.{read}
use Rattle.trip_updates.specs.Shows.{ShowsEntityFields}
use Rattle.trip_updates.proofs.WalkingLemmas.{Going}
use Rattle.trip_updates.proofs.entity.read_entity.Given as goal

abbrev pub invariant-loop-entity : goal.invariant-loop-entity
invariant-loop-entity l =
    Going ShowsEntityFields (read 2) feed_entity l.bytes l.to l.entity l.at (read 3 feed_entity l.from (slice_range l.bytes l.from l.to))

abbrev pub decreases-loop-entity : goal.decreases-loop-entity
decreases-loop-entity l = l.to - l.at
