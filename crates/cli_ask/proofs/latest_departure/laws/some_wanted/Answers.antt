use Rattle.cli_ask.proofs.LatestDepartureLemmas.WantedLemmas.{some_wanted}
use Rattle.cli_ask.proofs.latest_departure.laws.some_wanted.Goals as goal

pub returns : goal.returns
returns c = some_wanted c.some_timetable.ensures c.some_least_arrival.ensures
