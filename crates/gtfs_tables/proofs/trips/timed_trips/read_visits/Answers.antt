use Rattle.gtfs_tables.proofs.trips.timed_trips.read_visits.Goals as goal

pub returns-clause-visits : goal.returns-clause-visits
returns-clause-visits c = record {
  sheet = c.in_ok-rows.rows;
  sound = record { table = c.in_ok-rows.ensures.ok; unbroken = c.in_ok-visits.ensures.visits.unbroken };
  are = c.in_ok-visits.ensures.visits.are;
}
