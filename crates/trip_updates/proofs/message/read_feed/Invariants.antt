use Rattle.std.proofs.Common.{◌-◌}
use Rattle.std.specs.Prelude.{slice_range}
use Rattle.trip_updates.specs.Table.{feed_message}
use Rattle.trip_updates.specs.Faults.{read}
use Rattle.trip_updates.specs.Shows.{ShowsFeed}
use Rattle.trip_updates.proofs.WalkingLemmas.{Going}
use Rattle.trip_updates.proofs.message.read_feed.Given as goal

abbrev pub invariant-loop-feed : goal.invariant-loop-feed
invariant-loop-feed l =
    Going ShowsFeed (read 3) feed_message l.bytes l.to l.feed l.at (read 4 feed_message l.from (slice_range l.bytes l.from l.to))

abbrev pub decreases-loop-feed : goal.decreases-loop-feed
decreases-loop-feed l = l.to - l.at
