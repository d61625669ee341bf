use Rattle.std.proofs.Common.{take}
use Rattle.lc_time.specs.declared.zone.Zone.{Zone}
use Rattle.trip_calls.specs.Counting.{HaveConnections}
use Rattle.trip_calls.proofs.counting.count_of.Given as goal

abbrev pub invariant-trips : goal.invariant-trips
invariant-trips l = (zone : Zone) → HaveConnections (take l.trip-index l.trips) l.times l.spans l.days zone l.connections
