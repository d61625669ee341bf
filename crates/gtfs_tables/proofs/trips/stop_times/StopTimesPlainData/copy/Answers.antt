use Rattle.std.proofs.Common.{List, subst, sym}
use Rattle.gtfs_tables.specs.Trips.Timely.{AreTimely}
use Rattle.gtfs_tables.specs.declared.trips.stop_times.StopTime.{StopTime}
use Rattle.gtfs_tables.proofs.trips.stop_times.StopTimesPlainData.copy.Goals as goal

pub from_list-requires-clause-timely : goal.from_list-requires-clause-timely
from_list-requires-clause-timely c = subst (λ (t : List StopTime). AreTimely t) (sym c.in_ok-items.ensures) c.as_slice.ensures.timely
