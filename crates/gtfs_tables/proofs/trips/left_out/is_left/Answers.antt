use Rattle.gtfs_tables.proofs.TripsLemmas.LeftFacts.{search_tells}
use Rattle.gtfs_tables.proofs.trips.left_out.is_left.Goals as goal

pub returns : goal.returns
returns c = search_tells c.args.left.now c.args.trip.now c.is_among.result c.is_among.ensures.0 c.is_among.ensures.1
