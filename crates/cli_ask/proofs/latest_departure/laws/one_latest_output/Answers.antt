use Rattle.cli_ask.proofs.LatestDepartureLemmas.OneLemmas.{one_latest_output}
use Rattle.cli_ask.proofs.latest_departure.laws.one_latest_output.Goals as goal

pub returns : goal.returns
returns g c = one_latest_output c.one_outcome.ensures.one c.one_latest_answer.ensures.departure c.one_latest_answer.ensures.needed g.L.Link.seen g.M.Link.seen
