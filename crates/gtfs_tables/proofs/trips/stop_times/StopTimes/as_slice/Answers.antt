use Rattle.std.proofs.Common.{subst, sym}
use Rattle.gtfs_tables.specs.Trips.Timely.{AreTimely}
use Rattle.gtfs_tables.proofs.trips.stop_times.StopTimes.as_slice.Goals as goal

pub returns-clause-timely : goal.returns-clause-timely
returns-clause-timely c = subst AreTimely (sym c.as_slice.ensures.value) c.self.invariant.1
