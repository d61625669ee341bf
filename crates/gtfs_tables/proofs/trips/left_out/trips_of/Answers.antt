use Rattle.gtfs_tables.proofs.TripsLemmas.LeftFacts.{tested_alike}
use Rattle.gtfs_tables.proofs.trips.left_out.trips_of.Goals as goal

pub returns-clause-are : goal.returns-clause-are
returns-clause-are c = λ trip. tested_alike c.in_ok-left.left.items c.args.stopless.now trip (c.in_ok-left.ensures.same trip).0 (c.in_ok-left.ensures.same trip).1
